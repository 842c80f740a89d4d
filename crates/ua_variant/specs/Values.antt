-- Variants, their elements and data values, as plain data (OPC 10000-6, 5.2.2.16 and 5.2.2.17).
use Rattle.std.specs.Prelude.{◌≡◌, ℕ, suc, ℤ, pos, negsuc, ◌*◌, ◌==◌, ◌&&◌, List, [], ◌∷◌, length, max, unsigned_abs, Bool, true, false, not, Option, Some, None}
use Rattle.ua_variant.specs.declared.stamps.Stamps.{Stamps}
use Rattle.ua_variant.specs.Kinds.{Plain, Kind, plain, variant_kind, data_kind, info_kind, Payload}
use Rattle.ua_variant.specs.Diagnostic as diagnostics
pub use Rattle.ua_kind.specs.Nesting.{deepest, is_variant}

mutual
  pub data Variant : Type 0 where
    null : Variant
    one : Element → Variant
    -- an array that is null, with its dimensions
    null_array : Kind → Option (List ℤ) → Variant
    many : Kind → Items → Option (List ℤ) → Variant

  pub data Element : Type 0 where
    leaf : (p : Plain) → Payload p → Element
    variant : Variant → Element
    data_value : DataValue → Element
    info : diagnostics.Diagnostic → Element

  pub data Items : Type 0 where
    no_items : Items
    item : Element → Items → Items

  pub data DataValue : Type 0 where
    without : Stamps → DataValue
    with_value : Variant → Stamps → DataValue

abbrev pub kind : Element → Kind
kind (leaf p v) = plain p
kind (variant v) = variant_kind
kind (data_value d) = data_kind
kind (info i) = info_kind

abbrev mutual
  -- how deep it is nested, itself included
  pub depth : Variant → ℕ
  depth null = 1
  depth (one e) = suc (element_depth e)
  depth (null_array k ds) = 1
  depth (many k es ds) = suc (items_depth es)

  -- 0 where it is none of those that count
  pub element_depth : Element → ℕ
  element_depth (leaf p v) = 0
  element_depth (variant v) = depth v
  element_depth (data_value d) = data_depth d
  element_depth (info i) = diagnostics.depth i

  pub items_depth : Items → ℕ
  items_depth no_items = 0
  items_depth (item e es) = max (element_depth e) (items_depth es)

  pub data_depth : DataValue → ℕ
  data_depth (without s) = 1
  data_depth (with_value v s) = suc (depth v)

-- it holds no other value
abbrev pub IsFlat : Element → Type 0
IsFlat e = (element_depth e ≡ 0) × (is_variant (kind e) ≡ false)

abbrev pub count : Items → ℕ
count no_items = 0
count (item e es) = suc (count es)

abbrev pub AllOf : Kind → Items → Type 0
AllOf k no_items = Unit {0}
AllOf k (item e es) = (kind e ≡ k) × AllOf k es

abbrev pub items_of : List Element → Items
items_of [] = no_items
items_of (e ∷ es) = item e (items_of es)

-- an array, or null, with dimensions or without
abbrev pub array_with : Kind → Option (List Element) → Option (List ℤ) → Variant
array_with k None ds = null_array k ds
array_with k (Some es) ds = many k (items_of es) ds

abbrev pub count_of : {A : Type 0} → Option (List A) → ℕ
count_of None = 0
count_of (Some es) = length es

-- how deep the elements are nested
abbrev pub list_depth : Option (List Element) → ℕ
list_depth None = 0
list_depth (Some es) = items_depth (items_of es)

-- ---- dimensions

abbrev pub are_whole : List ℤ → Bool
are_whole [] = true
are_whole (pos n ∷ ds) = are_whole ds
are_whole (negsuc n ∷ ds) = false

-- over whole numbers
abbrev pub product : List ℤ → ℕ
product [] = 1
product (d ∷ ds) = unsigned_abs d * product ds

-- at least one dimension, none negative, and as many elements as the product says
abbrev pub is_shape : ℕ → List ℤ → Bool
is_shape n ds = not (length ds == 0) && (are_whole ds && (product ds == n))

abbrev pub is_shape_of : ℕ → Option (List ℤ) → Bool
is_shape_of n None = false
is_shape_of n (Some ds) = is_shape n ds
