-- Reading variants and data values from the front of bytes, to a depth.
use Rattle.std.specs.Prelude.{◌≡◌, ℕ, zero, suc, ◌==◌, List, [], ◌∷◌, Option, Some, None, Bool, true}
use Rattle.std.specs.Int.{w32}
use Rattle.ua_value.specs.Number.{unsigned}
use Rattle.ua_value.specs.Array.{CountsMore}
use Rattle.ua_value.specs.Format.{Grammar}
use Rattle.ua_value.specs.Sequence.{both, made, never, absent, either, headed}
use Rattle.ua_value.specs.Localized.{has}
use Rattle.ua_variant.specs.Chains.{after, list}
use Rattle.ua_variant.specs.Kinds.{Plain, Kind, plain, variant_kind, data_kind, info_kind, Payload, format_of, kind_named}
use Rattle.ua_variant.specs.Stamps.{stamps}
use Rattle.ua_variant.specs.Diagnostic as diagnostics
use Rattle.ua_variant.specs.Values.{Variant, null, one, Element, leaf, variant, data_value, info, DataValue, without, with_value, is_variant, array_with, count_of}
use Rattle.ua_variant.specs.Spelling.{low_bits, shape}

abbrev pub leaf_of : (p : Plain) → Payload p → Element
leaf_of p v = leaf p v

abbrev pub variant_of : Variant → Element
variant_of v = variant v

abbrev pub data_of : DataValue → Element
data_of d = data_value d

abbrev pub info_of : diagnostics.Diagnostic → Element
info_of i = info i

abbrev pub one_of : Element → Variant
one_of e = one e

-- an element of a plain kind
abbrev pub leaves : Kind → Grammar Element
leaves (plain p) = made (leaf_of p) (format_of p).grammar
leaves variant_kind = never
leaves data_kind = never
leaves info_kind = never

-- an element of a kind, with what reads those that hold others
abbrev pub elements : Grammar Variant → Grammar DataValue → Grammar diagnostics.Diagnostic → Kind → Grammar Element
elements v d i (plain p) = made (leaf_of p) (format_of p).grammar
elements v d i variant_kind = made variant_of v
elements v d i data_kind = made data_of d
elements v d i info_kind = made info_of i

-- a single value is no Variant
abbrev pub singles : (Kind → Grammar Element) → Kind → Grammar Variant
singles g k = either (is_variant k) never (made one_of (g k))

abbrev pub arrays : (Kind → Grammar Element) → Kind → Bool → Grammar Variant
arrays g k flagged = made (λ p. array_with k p.0 p.1) (after (list (g k)) (λ o. shape flagged (count_of o)))

abbrev pub behind_kind : (Kind → Grammar Element) → ℕ → Option Kind → Grammar Variant
behind_kind g m None = never
behind_kind g m (Some k) = either (has m 0x80) (arrays g k (has m 0x40)) (either (has m 0x40) never (singles g k))

-- what follows the first byte of a Variant
abbrev pub behind_head : (Kind → Grammar Element) → ℕ → Grammar Variant
behind_head g m = either (m == 0) (absent null) (behind_kind g m (kind_named (low_bits m)))

-- what follows the first byte of a DataValue
abbrev pub behind_mask : Grammar Variant → ℕ → Grammar DataValue
behind_mask g m = either (has m 0xc0) never (either (has m 0x01) (made (λ p. with_value p.0 p.1) (both g (stamps.behind m))) (made (λ s. without s) (stamps.behind m)))

-- those that are at most so deep
unfoldable mutual
  pub within : ℕ → Grammar Variant
  within zero = never
  within (suc d) = headed (behind_head (elements (within d) (data_within d) (diagnostics.within d)))

  pub data_within : ℕ → Grammar DataValue
  data_within zero = never
  data_within (suc d) = headed (behind_mask (within d))

-- an array whose count says more elements than there are bytes behind it
abbrev pub VariantCountsMore : List ℕ → Type 0
VariantCountsMore [] = ⊥
VariantCountsMore (head ∷ rest) = (has head 0x80 ≡ true) × CountsMore ((unsigned w32).grammar.front rest)

-- such an array as the value of a DataValue
abbrev pub DataCountsMore : List ℕ → Type 0
DataCountsMore [] = ⊥
DataCountsMore (mask ∷ rest) = (has mask 0x01 ≡ true) × VariantCountsMore rest

abbrev pub elements_within : ℕ → Kind → Grammar Element
elements_within d = elements (within d) (data_within d) (diagnostics.within d)

-- at most so deep, a DataValue begins the input whose value is a single one of the kind; the rest follows its mask and that kind
abbrev pub IsNumberAhead : ℕ → Kind → ℕ → List ℕ → List ℕ → Type 0
IsNumberAhead d k mask rest input = (data_within d).front input ≡ (behind_mask (made one_of (leaves k)) mask).front rest
