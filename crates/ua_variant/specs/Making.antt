-- What the constructors of variants and data values refuse, and what the values hold.
use Rattle.std.specs.Prelude.{◌≡◌, ℕ, ℤ, ◌==◌, ◌&&◌, List, [], ◌∷◌, Bool, true, false, not, Option, Some, None, Result, Ok, Err, nat_le, if◌then◌else◌}
use Rattle.ua_variant.specs.declared.fault.VariantFault.{VariantFault}
use Rattle.ua_variant.specs.declared.fault.VariantFault.TheVariants as faults
use Rattle.ua_variant.specs.declared.stamps.Stamps.{Stamps}
use Rattle.ua_variant.specs.Kinds.{Kind, kind_number}
use Rattle.ua_variant.specs.Values.{Variant, null, one, null_array, many, Element, leaf, variant, data_value, info, Items, DataValue, without, with_value, kind, is_variant, depth, element_depth, list_depth, deepest, count_of, is_shape}

-- why a call refused, if it did
abbrev pub fault_of : {A : Type 0} → Result A VariantFault → Option VariantFault
fault_of (Ok v) = None
fault_of (Err e) = Some e

-- a single value is no Variant, and is nested less than 100 deep; the first reason that holds
abbrev pub scalar_fault : Element → Option VariantFault
scalar_fault e =
    if is_variant (kind e) then Some faults.SingleVariant
    else (if nat_le deepest (element_depth e) then Some faults.TooDeep else None)

-- all are of the kind, which its number tells
abbrev pub are_of : Kind → List Element → Bool
are_of k [] = true
are_of k (e ∷ es) = (kind_number (kind e) == kind_number k) && are_of k es

abbrev pub are_all_of : Kind → Option (List Element) → Bool
are_all_of k None = true
are_all_of k (Some es) = are_of k es

-- no dimensions, or dimensions for so many elements
abbrev pub has_shape : ℕ → Option (List ℤ) → Bool
has_shape n None = true
has_shape n (Some ds) = is_shape n ds

-- elements of one kind, dimensions that fit, and less than 100 deep; the first reason that holds
abbrev pub array_fault : Kind → Option (List Element) → Option (List ℤ) → Option VariantFault
array_fault k o ds =
    if not (are_all_of k o) then Some faults.MixedKinds
    else (if not (has_shape (count_of o) ds) then Some faults.BadDimensions
    else (if nat_le deepest (list_depth o) then Some faults.TooDeep else None))

abbrev pub data_value_of : Option Variant → Stamps → DataValue
data_value_of None s = without s
data_value_of (Some v) s = with_value v s

-- the value in a DataValue is nested 100 deep already
abbrev pub IsFull : Option Variant → Type 0
IsFull None = ⊥
IsFull (Some v) = depth v ≡ deepest

-- ---- what they hold

-- an element that is neither a Variant nor a DataValue
abbrev pub HoldsNone : Element → Type 0
HoldsNone (leaf p v) = Unit {0}
HoldsNone (variant v) = ⊥
HoldsNone (data_value v) = ⊥
HoldsNone (info i) = Unit {0}

abbrev pub is_null : Variant → Bool
is_null null = true
is_null (one e) = false
is_null (null_array k ds) = false
is_null (many k es ds) = false

abbrev pub kind_in : Variant → Option Kind
kind_in null = None
kind_in (one e) = Some (kind e)
kind_in (null_array k ds) = Some k
kind_in (many k es ds) = Some k

abbrev pub one_in : Variant → Option Element
one_in null = None
one_in (one e) = Some e
one_in (null_array k ds) = None
one_in (many k es ds) = None

abbrev pub elements_in : Variant → Option Items
elements_in null = None
elements_in (one e) = None
elements_in (null_array k ds) = None
elements_in (many k es ds) = Some es

abbrev pub is_array : Variant → Bool
is_array null = false
is_array (one e) = false
is_array (null_array k ds) = true
is_array (many k es ds) = true

abbrev pub dimensions_in : Variant → Option (List ℤ)
dimensions_in null = None
dimensions_in (one e) = None
dimensions_in (null_array k ds) = ds
dimensions_in (many k es ds) = ds

abbrev pub value_in : DataValue → Option Variant
value_in (without s) = None
value_in (with_value v s) = Some v

abbrev pub stamps_in : DataValue → Stamps
stamps_in (without s) = s
stamps_in (with_value v s) = s
