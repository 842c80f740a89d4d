-- The spellings of variants and data values, OPC 10000-6, 5.2.2.16 and 5.2.2.17, and the canonical ones.
use Rattle.std.specs.Prelude.{◌≡◌, ℕ, ℤ, ◌+◌, ◌<◌, ◌≤◌, ◌++◌, List, [], ◌∷◌, length, Option, Some, None, Bool, true, false, bit_and, is_some}
use Rattle.std.specs.Int.{w32, to_le_bytes}
use Rattle.ua_value.specs.Format.{Grammar, Format, input_limit}
use Rattle.ua_value.specs.Number.{signed}
use Rattle.ua_value.specs.Text as text
use Rattle.ua_value.specs.Text.{longest}
use Rattle.ua_value.specs.Array.{array}
use Rattle.ua_value.specs.Sequence.{part}
use Rattle.ua_value.specs.Localized.{has, flag}
use Rattle.ua_variant.specs.Chains.{passing}
use Rattle.ua_variant.specs.Kinds.{Kind, format_of, kind_number, kind_named}
use Rattle.ua_variant.specs.Stamps.{stamps}
use Rattle.ua_variant.specs.Diagnostic as diagnostics
use Rattle.ua_variant.specs.Values.{Variant, null, one, null_array, many, Element, leaf, variant, data_value, info, Items, no_items, item, DataValue, without, with_value, kind, is_variant, count, depth, data_depth, AllOf, deepest, is_shape_of}

-- the kind stands in bits 0 to 5
abbrev pub low_bits : ℕ → ℕ
low_bits m = bit_and m 0x3f

-- The first byte of a Variant that is not null.
pub record IsHead (m : ℕ) (k : Kind) (d a : Bool) : Type 0 where
  pub byte : m < 256
  pub kind : kind_named (low_bits m) ≡ Some k
  pub has_dimensions : has m 0x40 ≡ d
  pub is_array : has m 0x80 ≡ a

abbrev pub lengths : Format (Option (List ℤ))
lengths = array (signed w32)

-- dimensions for so many elements, where they are flagged
abbrev pub shape : Bool → ℕ → Grammar (Option (List ℤ))
shape flagged n = part flagged None (passing (is_shape_of n) lengths.grammar)

abbrev pub SpellsShape : Option (List ℤ) → ℕ → List ℕ → Type 0
SpellsShape ds n b = (shape (is_some ds) n).spells ds b

-- The first byte of a DataValue: no bit above 0x20, and 0x01 where there is a value.
pub record IsMask (m : ℕ) (valued : Bool) : Type 0 where
  pub byte : m < 256
  pub known : has m 0xc0 ≡ false
  pub has_value : has m 0x01 ≡ valued

abbrev mutual
  pub Spells : Variant → List ℕ → Type 0
  Spells null b = b ≡ 0 ∷ []
  Spells (one e) b = (m : ℕ) × (x : List ℕ) × IsHead m (kind e) false false × (is_variant (kind e) ≡ false) × SpellsElement e x × (b ≡ m ∷ x)
  Spells (null_array k ds) b = (m : ℕ) × (x : List ℕ) × IsHead m k (is_some ds) true × SpellsShape ds 0 x × (b ≡ m ∷ (text.null ++ x))
  Spells (many k es ds) b = (m : ℕ) × (x : List ℕ) × (y : List ℕ) × IsHead m k (is_some ds) true × (count es ≤ longest) × SpellsItems k es x × SpellsShape ds (count es) y × (b ≡ m ∷ (to_le_bytes w32 (count es) ++ (x ++ y)))

  pub SpellsElement : Element → List ℕ → Type 0
  SpellsElement (leaf p v) b = (format_of p).grammar.spells v b
  SpellsElement (variant v) b = Spells v b
  SpellsElement (data_value d) b = SpellsData d b
  SpellsElement (info i) b = diagnostics.Spells i b

  -- elements of one kind, one after another
  pub SpellsItems : Kind → Items → List ℕ → Type 0
  SpellsItems k no_items b = b ≡ []
  SpellsItems k (item e es) b = (x : List ℕ) × (y : List ℕ) × (kind e ≡ k) × SpellsElement e x × SpellsItems k es y × (b ≡ x ++ y)

  pub SpellsData : DataValue → List ℕ → Type 0
  SpellsData (without s) b = (m : ℕ) × (x : List ℕ) × IsMask m false × (stamps.behind m).spells s x × (b ≡ m ∷ x)
  SpellsData (with_value v s) b = (m : ℕ) × (x : List ℕ) × (y : List ℕ) × IsMask m true × Spells v x × (stamps.behind m).spells s y × (b ≡ m ∷ (x ++ y))

-- ---- at most so deep

pub record IsWithin (d : ℕ) (v : Variant) (b : List ℕ) : Type 0 where
  pub spells : Spells v b
  pub depth : depth v ≤ d

pub record IsDataWithin (d : ℕ) (v : DataValue) (b : List ℕ) : Type 0 where
  pub spells : SpellsData v b
  pub depth : data_depth v ≤ d

-- ---- the canonical ones

abbrev pub head_of : Kind → Bool → Bool → ℕ
head_of k d a = kind_number k + (flag d 0x40 + flag a 0x80)

abbrev pub shape_canon : Option (List ℤ) → List ℕ
shape_canon None = []
shape_canon (Some ds) = lengths.canon (Some ds)

abbrev mutual
  pub canon : Variant → List ℕ
  canon null = 0 ∷ []
  canon (one e) = head_of (kind e) false false ∷ element_canon e
  canon (null_array k ds) = head_of k (is_some ds) true ∷ (text.null ++ shape_canon ds)
  canon (many k es ds) = head_of k (is_some ds) true ∷ (to_le_bytes w32 (count es) ++ (items_canon es ++ shape_canon ds))

  pub element_canon : Element → List ℕ
  element_canon (leaf p v) = (format_of p).canon v
  element_canon (variant v) = canon v
  element_canon (data_value d) = data_canon d
  element_canon (info i) = diagnostics.canon i

  pub items_canon : Items → List ℕ
  items_canon no_items = []
  items_canon (item e es) = element_canon e ++ items_canon es

  pub data_canon : DataValue → List ℕ
  data_canon (without s) = (flag false 0x01 + stamps.mask s) ∷ stamps.canon s
  data_canon (with_value v s) = (flag true 0x01 + stamps.mask s) ∷ (canon v ++ stamps.canon s)

-- ---- which values there are

abbrev pub IsShape : Option (List ℤ) → ℕ → Type 0
IsShape None n = Unit {0}
IsShape (Some ds) n = (is_shape_of n (Some ds) ≡ true) × lengths.IsValue (Some ds)

-- what every value keeps at every level, but for the depth
abbrev mutual
  pub IsSound : Variant → Type 0
  IsSound null = Unit {0}
  IsSound (one e) = (is_variant (kind e) ≡ false) × IsSoundElement e
  IsSound (null_array k ds) = IsShape ds 0
  IsSound (many k es ds) = (count es ≤ longest) × (length (items_canon es) ≤ input_limit) × AllOf k es × AreSound es × IsShape ds (count es)

  pub IsSoundElement : Element → Type 0
  IsSoundElement (leaf p v) = (format_of p).IsValue v
  IsSoundElement (variant v) = IsSound v
  IsSoundElement (data_value d) = IsSoundData d
  IsSoundElement (info i) = diagnostics.AreParts i

  pub AreSound : Items → Type 0
  AreSound no_items = Unit {0}
  AreSound (item e es) = IsSoundElement e × AreSound es

  pub IsSoundData : DataValue → Type 0
  IsSoundData (without s) = stamps.IsValue s
  IsSoundData (with_value v s) = IsSound v × stamps.IsValue s

pub record IsVariant (v : Variant) : Type 0 where
  pub sound : IsSound v
  pub depth : depth v ≤ deepest

pub record IsDataValue (v : DataValue) : Type 0 where
  pub sound : IsSoundData v
  pub depth : data_depth v ≤ deepest
