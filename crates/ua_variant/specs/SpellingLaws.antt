-- The laws of the canonical spellings, and what is spelled.
use Rattle.std.proofs.Common.{◌≡◌, ◌≤◌, ◌+◌, ℕ, ℤ, List, ◌∷◌, ◌++◌, length, true, false, Option, Some, None, refl, ap, arith, length-append}
use Rattle.std.specs.Prelude.{is_some}
use Rattle.std.specs.Int.{w32, to_le_bytes}
use Rattle.ua_value.specs.Format.{input_limit}
use Rattle.ua_value.specs.Text as text
use Rattle.ua_variant.specs.Kinds.{Kind, lawful_of}
use Rattle.ua_variant.specs.Stamps.{stamps}
use Rattle.ua_variant.specs.StampsLaws.{lawful_stamps, flags}
use Rattle.ua_variant.specs.Diagnostic as diagnostics
use Rattle.ua_variant.specs.DiagnosticLaws as diagnostic_laws
use Rattle.ua_variant.specs.Values.{Variant, null, one, null_array, many, Element, leaf, variant, data_value, info, Items, no_items, item, DataValue, without, with_value, kind, count, AllOf}
use Rattle.ua_variant.specs.Spelling.{SpellsShape, Spells, SpellsElement, SpellsItems, SpellsData, head_of, shape_canon, canon, element_canon, items_canon, data_canon, IsShape, IsSound, IsSoundElement, AreSound, IsSoundData}
use Rattle.ua_variant.specs.ReadingLaws.{lawful_lengths}
use Rattle.ua_variant.specs.Heads.{heads}

-- ---- each spelling takes a byte

pub nonempty : (v : Variant) (b : List ℕ) → Spells v b → 1 ≤ length b
nonempty null b h = omega (arith, ap length h)
nonempty (one e) b h = omega (arith, ap length h.5)
nonempty (null_array k ds) b h = omega (arith, ap length h.4)
nonempty (many k es ds) b h = omega (arith, ap length h.7)

pub data_nonempty : (d : DataValue) (b : List ℕ) → SpellsData d b → 1 ≤ length b
data_nonempty (without s) b h = omega (arith, ap length h.4)
data_nonempty (with_value v s) b h = omega (arith, ap length h.6)

-- ---- no spelling is shorter

shape_short : (ds : Option (List ℤ)) (n : ℕ) (b : List ℕ) → SpellsShape ds n b → length (shape_canon ds) ≤ length b
shape_short None n b h = omega arith
shape_short (Some ds) n b h = lawful_lengths.shortest (Some ds) b h.1

joined : (a b x y : List ℕ) → length a ≤ length x → length b ≤ length y → length (a ++ b) ≤ length (x ++ y)
joined a b x y h k = omega (arith, length-append a b, length-append x y)

same_first : (a x y : List ℕ) → length x ≤ length y → length (a ++ x) ≤ length (a ++ y)
same_first a x y h = omega (arith, length-append a x, length-append a y)

mutual
  pub shortest : (v : Variant) (b : List ℕ) → Spells v b → length (canon v) ≤ length b
  shortest null b h = omega (arith, ap length h)
  shortest (one e) b h = omega (arith, ap length h.5, element_shortest e h.1 h.4)
  shortest (null_array k ds) b h = omega (arith, ap length h.4, same_first text.null (shape_canon ds) h.1 (shape_short ds 0 h.1 h.3))
  shortest (many k es ds) b h =
      omega (arith, ap length h.7, same_first (to_le_bytes w32 (count es)) (items_canon es ++ shape_canon ds) (h.1 ++ h.2) (joined (items_canon es) (shape_canon ds) h.1 h.2 (items_shortest es k h.1 h.5) (shape_short ds (count es) h.2 h.6)))

  pub element_shortest : (e : Element) (b : List ℕ) → SpellsElement e b → length (element_canon e) ≤ length b
  element_shortest (leaf p v) b h = (lawful_of p).shortest v b h
  element_shortest (variant v) b h = shortest v b h
  element_shortest (data_value d) b h = data_shortest d b h
  element_shortest (info i) b h = diagnostic_laws.shortest i b h

  pub items_shortest : (es : Items) (k : Kind) (b : List ℕ) → SpellsItems k es b → length (items_canon es) ≤ length b
  items_shortest no_items k b h = omega arith
  items_shortest (item e es) k b h = omega (arith, ap length h.5, joined (element_canon e) (items_canon es) h.0 h.1 (element_shortest e h.0 h.3) (items_shortest es k h.1 h.4))

  pub data_shortest : (d : DataValue) (b : List ℕ) → SpellsData d b → length (data_canon d) ≤ length b
  data_shortest (without s) b h = omega (arith, ap length h.4, lawful_stamps.shortest h.0 s h.1 h.3)
  data_shortest (with_value v s) b h = omega (arith, ap length h.6, joined (canon v) (stamps.canon s) h.1 h.2 (shortest v h.1 h.4) (lawful_stamps.shortest h.0 s h.2 h.5))

-- ---- what is spelled is a value

shape_sound : (ds : Option (List ℤ)) (n : ℕ) (b : List ℕ) → length b ≤ input_limit → SpellsShape ds n b → IsShape ds n
shape_sound None n b short h = tt
shape_sound (Some ds) n b short h = (h.0, lawful_lengths.a_value (Some ds) b h.1 short)

items_kind : (k : Kind) (es : Items) (b : List ℕ) → SpellsItems k es b → AllOf k es
items_kind k no_items b h = tt
items_kind k (item e es) b h = (h.2, items_kind k es h.1 h.4)

behind : (m : ℕ) (x b : List ℕ) → b ≡ m ∷ x → length b ≤ input_limit → length x ≤ input_limit
behind m x b e h = omega (arith, ap length e)

apart : (x y b : List ℕ) → b ≡ x ++ y → length b ≤ input_limit → (length x ≤ input_limit) × (length y ≤ input_limit)
apart x y b e h = (omega (arith, ap length e, length-append x y), omega (arith, ap length e, length-append x y))

mutual
  pub sound : (v : Variant) (b : List ℕ) → length b ≤ input_limit → Spells v b → IsSound v
  sound null b short h = tt
  sound (one e) b short h = (h.3, element_sound e h.1 (behind h.0 h.1 b h.5 short) h.4)
  sound (null_array k ds) b short h = shape_sound ds 0 h.1 (apart text.null h.1 _ refl (behind h.0 (text.null ++ h.1) b h.4 short)).1 h.3
  sound (many k es ds) b short h =
      let all = (apart (to_le_bytes w32 (count es)) (h.1 ++ h.2) _ refl (behind h.0 (to_le_bytes w32 (count es) ++ (h.1 ++ h.2)) b h.7 short)).1 in
      let parts = apart h.1 h.2 _ refl all in
      (h.4, omega (arith, items_shortest es k h.1 h.5, parts.0), items_kind k es h.1 h.5, items_sound es k h.1 parts.0 h.5, shape_sound ds (count es) h.2 parts.1 h.6)

  pub element_sound : (e : Element) (b : List ℕ) → length b ≤ input_limit → SpellsElement e b → IsSoundElement e
  element_sound (leaf p v) b short h = (lawful_of p).a_value v b h short
  element_sound (variant v) b short h = sound v b short h
  element_sound (data_value d) b short h = data_sound d b short h
  element_sound (info i) b short h = diagnostic_laws.parts_are i b h short

  pub items_sound : (es : Items) (k : Kind) (b : List ℕ) → length b ≤ input_limit → SpellsItems k es b → AreSound es
  items_sound no_items k b short h = tt
  items_sound (item e es) k b short h =
      let parts = apart h.0 h.1 b h.5 short in
      (element_sound e h.0 parts.0 h.3, items_sound es k h.1 parts.1 h.4)

  pub data_sound : (d : DataValue) (b : List ℕ) → length b ≤ input_limit → SpellsData d b → IsSoundData d
  data_sound (without s) b short h = lawful_stamps.a_value h.0 s h.1 h.3 (behind h.0 h.1 b h.4 short)
  data_sound (with_value v s) b short h =
      let parts = apart h.1 h.2 _ refl (behind h.0 (h.1 ++ h.2) b h.6 short) in
      (sound v h.1 parts.0 h.4, lawful_stamps.a_value h.0 s h.2 h.5 parts.1)

-- ---- the canonical spelling is one

shape_canonical : (ds : Option (List ℤ)) (n : ℕ) → IsShape ds n → SpellsShape ds n (shape_canon ds)
shape_canonical None n h = (refl, refl)
shape_canonical (Some ds) n h = (h.0, lawful_lengths.canonical (Some ds) h.1)

mutual
  pub canonical : (v : Variant) → IsSound v → Spells v (canon v)
  canonical null h = refl
  canonical (one e) h = (head_of (kind e) false false, element_canon e, heads (kind e) false false, h.0, element_canonical e h.1, refl)
  canonical (null_array k ds) h = (head_of k (is_some ds) true, shape_canon ds, heads k (is_some ds) true, shape_canonical ds 0 h, refl)
  canonical (many k es ds) h = (head_of k (is_some ds) true, items_canon es, shape_canon ds, heads k (is_some ds) true, h.0, items_canonical es k h.2 h.3, shape_canonical ds (count es) h.4, refl)

  pub element_canonical : (e : Element) → IsSoundElement e → SpellsElement e (element_canon e)
  element_canonical (leaf p v) h = (lawful_of p).canonical v h
  element_canonical (variant v) h = canonical v h
  element_canonical (data_value d) h = data_canonical d h
  element_canonical (info i) h = diagnostic_laws.canonical i h

  pub items_canonical : (es : Items) (k : Kind) → AllOf k es → AreSound es → SpellsItems k es (items_canon es)
  items_canonical no_items k a h = refl
  items_canonical (item e es) k a h = (element_canon e, items_canon es, a.0, element_canonical e h.0, items_canonical es k a.1 h.1, refl)

  pub data_canonical : (d : DataValue) → IsSoundData d → SpellsData d (data_canon d)
  data_canonical (without s) h =
      let f = flags s false in
      (_, stamps.canon s, record { byte = omega (arith, f.low); known = f.known; has_value = f.has_value }, lawful_stamps.canonical _ s f.shows h, refl)
  data_canonical (with_value v s) h =
      let f = flags s true in
      (_, canon v, stamps.canon s, record { byte = omega (arith, f.low); known = f.known; has_value = f.has_value }, canonical v h.0, lawful_stamps.canonical _ s f.shows h.1, refl)
