-- Reading to a depth reads the spellings that are no deeper.
use Rattle.std.proofs.Common.{◌≡◌, ◌≤◌, ◌<◌, ◌+◌, ℕ, zero, suc, ℤ, List, [], ◌∷◌, ◌++◌, length, Bool, true, false, Option, Some, None, refl, sym, ap, subst, ◌∙◌, arith, append_assoc, eqb}
use Rattle.std.specs.Prelude.{is_some}
use Rattle.std.specs.Int.{w32, to_le_bytes}
use Rattle.std.proofs.lemmas.Bool.{ne_eqb, eqb-true}
use Rattle.ua_value.specs.Format.{Grammar}
use Rattle.ua_value.specs.Text as text
use Rattle.ua_value.specs.Array as lists
use Rattle.ua_value.specs.Sequence.{both, made, never, absent, either}
use Rattle.ua_value.specs.Localized.{has}
use Rattle.ua_variant.specs.Kinds.{Kind, plain, variant_kind, data_kind, info_kind, kind_named}
use Rattle.ua_variant.specs.Stamps.{stamps}
use Rattle.ua_variant.specs.Diagnostic as diagnostics
use Rattle.ua_variant.specs.DiagnosticLaws as diagnostic_laws
use Rattle.ua_variant.specs.Values.{Variant, null, one, null_array, many, Element, leaf, variant, data_value, info, Items, no_items, item, DataValue, without, with_value, kind, is_variant, count, depth, element_depth, items_depth, data_depth, items_of, array_with, count_of}
use Rattle.ua_variant.specs.Spelling.{low_bits, shape, SpellsShape, IsHead, Spells, SpellsElement, SpellsItems, SpellsData, IsWithin, IsDataWithin}
use Rattle.ua_variant.specs.Reading.{arrays, behind_kind, behind_head, within, data_within, elements_within}

pub record IsElementWithin (d : ℕ) (k : Kind) (e : Element) (b : List ℕ) : Type 0 where
  pub spells : SpellsElement e b
  pub depth : element_depth e ≤ d
  pub kind : kind e ≡ k

-- ---- what is read is spelled so

module _ (d : ℕ) (variants : (v : Variant) (b : List ℕ) → (within d).spells v b → IsWithin d v b) (datas : (v : DataValue) (b : List ℕ) → (data_within d).spells v b → IsDataWithin d v b) where
  element_spells : (k : Kind) (e : Element) (b : List ℕ) → (elements_within d k).spells e b → IsElementWithin d k e b
  element_spells (plain p) e b s = subst (λ (u : Element). IsElementWithin d (plain p) u b) (sym s.2) (record { spells = s.1; depth = omega arith; kind = refl })
  element_spells variant_kind e b s =
      let w = variants s.0 b s.1 in
      subst (λ (u : Element). IsElementWithin d variant_kind u b) (sym s.2) (record { spells = w.spells; depth = w.depth; kind = refl })
  element_spells data_kind e b s =
      let w = datas s.0 b s.1 in
      subst (λ (u : Element). IsElementWithin d data_kind u b) (sym s.2) (record { spells = w.spells; depth = w.depth; kind = refl })
  element_spells info_kind e b s =
      let w = diagnostic_laws.within_spells d s.0 b s.1 in
      subst (λ (u : Element). IsElementWithin d info_kind u b) (sym s.2) (record { spells = w.spells; depth = w.depth; kind = refl })

  items_spell : (k : Kind) (es : List Element) (b : List ℕ) → lists.SpellsItems (elements_within d k) es b → SpellsItems k (items_of es) b
  items_spell k [] b s = s
  items_spell k (e ∷ es) b s =
      let w = element_spells k e s.0 s.2 in
      (s.0, s.1, w.kind, w.spells, items_spell k es s.1 s.3, s.4)

  items_deep : (k : Kind) (es : List Element) (b : List ℕ) → lists.SpellsItems (elements_within d k) es b → items_depth (items_of es) ≤ d
  items_deep k [] b s = omega arith
  items_deep k (e ∷ es) b s = omega (arith, (element_spells k e s.0 s.2).depth, items_deep k es s.1 s.3)

  count_is : (es : List Element) → count (items_of es) ≡ length es
  count_is [] = refl
  count_is (e ∷ es) = ap suc (count_is es)

  shape_is : (flagged : Bool) (n : ℕ) (ds : Option (List ℤ)) (b : List ℕ) → (shape flagged n).spells ds b → (flagged ≡ is_some ds) × SpellsShape ds n b
  shape_is true n (Some ds) b s = (refl, s)
  shape_is true n None b s = absurd cc
  shape_is false n None b s = (refl, s)
  shape_is false n (Some ds) b s = absurd cc

  array_spells : (m : ℕ) (k : Kind) (o : Option (List Element)) (ds : Option (List ℤ)) (x y b : List ℕ) → IsHead m k (is_some ds) true
      → lists.SpellsArray (elements_within d k) o x → SpellsShape ds (count_of o) y → b ≡ m ∷ (x ++ y) → IsWithin (suc d) (array_with k o ds) b
  array_spells m k None ds x y b h s t e = record { spells = (m, y, h, t, e ∙ ap (λ (l : List ℕ). m ∷ (l ++ y)) s); depth = omega arith }
  array_spells m k (Some es) ds x y b h s t e =
      let c = count_is es in
      record {
        spells = (m, s.1, y, h, omega (arith, c, s.0), items_spell k es s.1 s.2, rw c t, rw c (e ∙ ap (λ (l : List ℕ). m ∷ (l ++ y)) s.3 ∙ ap (λ (l : List ℕ). m ∷ l) (append_assoc (to_le_bytes w32 (length es)) s.1 y)));
        depth = omega (arith, items_deep k es s.1 s.2);
      }

  some_spells : (m : ℕ) (k : Kind) (array flagged nested : Bool) (v : Variant) (x : List ℕ) → m < 256 → kind_named (low_bits m) ≡ Some k → has m 0x80 ≡ array → has m 0x40 ≡ flagged → is_variant k ≡ nested
      → (either array (arrays (elements_within d) k flagged) (either flagged never (either nested never (made (λ e. one e) (elements_within d k))))).spells v x → IsWithin (suc d) v (m ∷ x)
  some_spells m k true flagged nested v x low e a f n s =
      let g = shape_is flagged (count_of s.0.0) s.0.1 s.1.1 s.1.3 in
      subst (λ (u : Variant). IsWithin (suc d) u (m ∷ x)) (sym s.2)
      (array_spells m k s.0.0 s.0.1 s.1.0 s.1.1 (m ∷ x) (record { byte = low; kind = e; has_dimensions = f ∙ g.0; is_array = a }) s.1.2 g.1 (ap (λ (l : List ℕ). m ∷ l) s.1.4))
  some_spells m k false true nested v x low e a f n s = absurd s
  some_spells m k false false true v x low e a f n s = absurd s
  some_spells m k false false false v x low e a f n s =
      let w = element_spells k s.0 x s.1 in
      let is_head : IsHead m (kind s.0) false false = record { byte = low; kind = e ∙ ap Some (sym w.kind); has_dimensions = f; is_array = a } in
      subst (λ (u : Variant). IsWithin (suc d) u (m ∷ x)) (sym s.2)
      (record { spells = (m, x, is_head, ap is_variant w.kind ∙ n, w.spells, refl); depth = omega (arith, w.depth) })

  kind_spells : (m : ℕ) (o : Option Kind) (v : Variant) (x : List ℕ) → m < 256 → kind_named (low_bits m) ≡ o → (behind_kind (elements_within d) m o).spells v x → IsWithin (suc d) v (m ∷ x)
  kind_spells m None v x low e s = absurd s
  kind_spells m (Some k) v x low e s = some_spells m k (has m 0x80) (has m 0x40) (is_variant k) v x low e refl refl refl s

  head_spells : (m : ℕ) (zero_is : Bool) (v : Variant) (x : List ℕ) → m < 256 → eqb m 0 ≡ zero_is → (either zero_is (absent null) (behind_kind (elements_within d) m (kind_named (low_bits m)))).spells v x → IsWithin (suc d) v (m ∷ x)
  head_spells m true v x low e s =
      let is_null : m ∷ x ≡ 0 ∷ [] = ap (λ (n : ℕ). n ∷ x) (eqb-true m 0 e) ∙ ap (λ (l : List ℕ). 0 ∷ l) s.1 in
      subst (λ (u : Variant). IsWithin (suc d) u (m ∷ x)) (sym s.0) (record { spells = is_null; depth = omega arith })
  head_spells m false v x low e s = kind_spells m (kind_named (low_bits m)) v x low refl s

  mask_spells : (m : ℕ) (unknown valued : Bool) (v : DataValue) (x : List ℕ) → m < 256 → has m 0xc0 ≡ unknown → has m 0x01 ≡ valued
      → (either unknown never (either valued (made (λ p. with_value p.0 p.1) (both (within d) (stamps.behind m))) (made (λ s. without s) (stamps.behind m)))).spells v x → IsDataWithin (suc d) v (m ∷ x)
  mask_spells m true valued v x low u h s = absurd s
  mask_spells m false true v x low u h s =
      let w = variants s.0.0 s.1.0 s.1.2 in
      subst (λ (y : DataValue). IsDataWithin (suc d) y (m ∷ x)) (sym s.2)
      (record { spells = (m, s.1.0, s.1.1, record { byte = low; known = u; has_value = h }, w.spells, s.1.3, ap (λ (l : List ℕ). m ∷ l) s.1.4); depth = omega (arith, w.depth) })
  mask_spells m false false v x low u h s =
      subst (λ (y : DataValue). IsDataWithin (suc d) y (m ∷ x)) (sym s.2)
      (record { spells = (m, x, record { byte = low; known = u; has_value = h }, s.1, refl); depth = omega arith })

mutual
  unfolding within

  pub within_spells : (d : ℕ) (v : Variant) (b : List ℕ) → (within d).spells v b → IsWithin d v b
  within_spells zero v b s = absurd s
  within_spells (suc d) v b s =
      subst (λ (l : List ℕ). IsWithin (suc d) v l) (sym s.4) (head_spells d (within_spells d) (data_within_spells d) s.0 (eqb s.0 0) v s.1 s.2 refl s.3)

  pub data_within_spells : (d : ℕ) (v : DataValue) (b : List ℕ) → (data_within d).spells v b → IsDataWithin d v b
  data_within_spells zero v b s = absurd s
  data_within_spells (suc d) v b s =
      subst (λ (l : List ℕ). IsDataWithin (suc d) v l) (sym s.4) (mask_spells d (within_spells d) (data_within_spells d) s.0 (has s.0 0xc0) (has s.0 0x01) v s.1 s.2 refl refl s.3)

-- ---- what is spelled so is read

pub list_of : Items → List Element
list_of no_items = []
list_of (item e es) = e ∷ list_of es

list_back : (es : Items) → items_of (list_of es) ≡ es
unfolding list_of
list_back no_items = refl
list_back (item e es) = ap (item e) (list_back es)

length_list : (es : Items) → length (list_of es) ≡ count es
unfolding list_of
length_list no_items = refl
length_list (item e es) = ap suc (length_list es)

none_some : {A : Type 0} (o : Option A) (x : A) → o ≡ None → o ≡ Some x → ⊥
none_some o x e h = cc

-- a head is not 0
head_some : (m : ℕ) (k : Kind) (d a : Bool) → IsHead m k d a → eqb m 0 ≡ false
unfolding kind_named
head_some m k d a h = ne_eqb m 0 (λ e. none_some (kind_named (low_bits m)) k (ap (λ x. kind_named (low_bits x)) e) h.kind)

-- what follows a head
behind_one : (g : Kind → Grammar Element) (m : ℕ) (k : Kind) (e : Element) (x : List ℕ) → IsHead m k false false → is_variant k ≡ false → (g k).spells e x → (behind_head g m).spells (one e) x
behind_one g m k e x h single s = rw (head_some m k false false h, h.kind, h.is_array, h.has_dimensions, single) (e, s, refl)

behind_array : (g : Kind → Grammar Element) (m : ℕ) (k : Kind) (flagged : Bool) (v : Variant) (x : List ℕ) → IsHead m k flagged true → (arrays g k flagged).spells v x → (behind_head g m).spells v x
behind_array g m k flagged v x h s = rw (head_some m k flagged true h, h.kind, h.is_array, h.has_dimensions) s

mutual
  unfolding within list_of

  pub spells_within : (v : Variant) (d : ℕ) (b : List ℕ) → depth v ≤ d → Spells v b → (within d).spells v b
  spells_within null zero b deep s = absurd (omega arith)
  spells_within (one e) zero b deep s = absurd (omega arith)
  spells_within (null_array k ds) zero b deep s = absurd (omega arith)
  spells_within (many k es ds) zero b deep s = absurd (omega arith)
  spells_within null (suc d) b deep s = (0, [], omega arith, (refl, refl), s)
  spells_within (one e) (suc d) b deep s =
      (s.0, s.1, s.2.byte, behind_one (elements_within d) s.0 (kind e) e s.1 s.2 s.3 (spells_element e d s.1 (omega arith) s.4), s.5)
  spells_within (null_array k ds) (suc d) b deep s =
      (s.0, text.null ++ s.1, s.2.byte, behind_array (elements_within d) s.0 k (is_some ds) (null_array k ds) (text.null ++ s.1) s.2 ((None, ds), (text.null, s.1, refl, s.3, refl), refl), s.4)
  spells_within (many k es ds) (suc d) b deep s =
      let n = length_list es in
      let first = to_le_bytes w32 (count es) in
      let all : lists.SpellsArray (elements_within d k) (Some (list_of es)) (first ++ s.1) =
      (omega (arith, n, s.4), s.1, spells_items es k d s.1 (omega arith) s.5, ap (λ (i : ℕ). to_le_bytes w32 i ++ s.1) (sym n)) in
      let made_so : many k es ds ≡ many k (items_of (list_of es)) ds = ap (λ (i : Items). many k i ds) (sym (list_back es)) in (
        s.0,
        first ++ (s.1 ++ s.2),
        s.3.byte,
        behind_array (elements_within d) s.0 k (is_some ds) (many k es ds) (first ++ (s.1 ++ s.2)) s.3
            ((Some (list_of es), ds), (first ++ s.1, s.2, all, rw n s.6, sym (append_assoc first s.1 s.2)), made_so),
        s.7,
      )

  pub spells_element : (e : Element) (d : ℕ) (b : List ℕ) → element_depth e ≤ d → SpellsElement e b → (elements_within d (kind e)).spells e b
  spells_element (leaf p v) d b deep s = (v, s, refl)
  spells_element (variant v) d b deep s = (v, spells_within v d b deep s, refl)
  spells_element (data_value v) d b deep s = (v, spells_data v d b deep s, refl)
  spells_element (info i) d b deep s = (i, diagnostic_laws.spells_within i d b deep s, refl)

  pub spells_items : (es : Items) (k : Kind) (d : ℕ) (b : List ℕ) → items_depth es ≤ d → SpellsItems k es b → lists.SpellsItems (elements_within d k) (list_of es) b
  spells_items no_items k d b deep s = s
  spells_items (item e es) k d b deep s =
      (s.0, s.1, subst (λ (j : Kind). (elements_within d j).spells e s.0) s.2 (spells_element e d s.0 (omega arith) s.3), spells_items es k d s.1 (omega arith) s.4, s.5)

  pub spells_data : (v : DataValue) (d : ℕ) (b : List ℕ) → data_depth v ≤ d → SpellsData v b → (data_within d).spells v b
  spells_data (without t) zero b deep s = absurd (omega arith)
  spells_data (with_value v t) zero b deep s = absurd (omega arith)
  spells_data (without t) (suc d) b deep s = (s.0, s.1, s.2.byte, rw (s.2.known, s.2.has_value) (t, s.3, refl), s.4)
  spells_data (with_value v t) (suc d) b deep s =
      (s.0, s.1 ++ s.2, s.3.byte, rw (s.3.known, s.3.has_value) ((v, t), (s.1, s.2, spells_within v d s.1 (omega arith) s.4, s.5, refl), refl), s.6)
