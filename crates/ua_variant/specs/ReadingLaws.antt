-- Reading to a depth is lawful, and reads the spellings that are no deeper.
use Rattle.std.proofs.Common.{◌≤◌, ℕ, zero, suc, List, length, Bool, Option, Some, None, ap, arith, eqb}
use Rattle.std.specs.Int.{w32}
use Rattle.ua_value.specs.Format.{Grammar, IsGrammar, IsLawful}
use Rattle.ua_value.specs.Number.{signed}
use Rattle.ua_value.specs.NumberLaws.{lawful_signed, wide_32}
use Rattle.ua_value.specs.Text as text
use Rattle.ua_value.specs.Array as arrays_of
use Rattle.ua_value.specs.ArrayLaws.{lawful_array}
use Rattle.ua_value.specs.SequenceLaws.{both_reads, made_reads, never_reads, absent_reads, either_reads, part_reads, headed_reads}
use Rattle.ua_value.specs.Localized.{has}
use Rattle.ua_variant.specs.Chains.{passing, list}
use Rattle.ua_variant.specs.ChainsLaws.{after_reads, passing_reads, list_reads}
use Rattle.ua_variant.specs.Kinds.{Kind, plain, variant_kind, data_kind, info_kind, format_of, lawful_of, kind_named}
use Rattle.ua_variant.specs.Stamps.{stamps}
use Rattle.ua_variant.specs.StampsLaws.{lawful_stamps}
use Rattle.ua_variant.specs.Diagnostic as diagnostics
use Rattle.ua_variant.specs.DiagnosticLaws as diagnostic_laws
use Rattle.ua_variant.specs.Values.{Variant, null, Element, DataValue, is_variant, depth, count_of, is_shape_of}
use Rattle.ua_variant.specs.Spelling.{low_bits, lengths, shape}
use Rattle.ua_variant.specs.Reading.{leaf_of, variant_of, data_of, info_of, one_of, elements, arrays, behind_kind, behind_head, behind_mask, within, data_within, elements_within}

-- each spelling takes a byte
abbrev pub TakesSome : {V : Type 0} → Grammar V → Type 0
TakesSome {V} g = (v : V) (a : List ℕ) → g.spells v a → 1 ≤ length a

pub lawful_lengths : IsLawful lengths
lawful_lengths = lawful_array (signed w32) (lawful_signed w32 wide_32)

pub shape_reads : (flagged : Bool) (n : ℕ) → IsGrammar (shape flagged n)
shape_reads flagged n = part_reads flagged None (passing (is_shape_of n) lengths.grammar) (passing_reads (is_shape_of n) lengths.grammar lawful_lengths.reads)

module _ (v : Grammar Variant) (d : Grammar DataValue) (i : Grammar diagnostics.Diagnostic) where
  element_reads : IsGrammar v → IsGrammar d → IsGrammar i → (k : Kind) → IsGrammar (elements v d i k)
  element_reads a b c (plain p) = made_reads (leaf_of p) (format_of p).grammar (lawful_of p).reads
  element_reads a b c variant_kind = made_reads variant_of v a
  element_reads a b c data_kind = made_reads data_of d b
  element_reads a b c info_kind = made_reads info_of i c

  element_takes_some : TakesSome v → TakesSome d → TakesSome i → (k : Kind) → TakesSome (elements v d i k)
  element_takes_some a b c (plain p) e x s = (lawful_of p).nonempty s.0 x s.1
  element_takes_some a b c variant_kind e x s = a s.0 x s.1
  element_takes_some a b c data_kind e x s = b s.0 x s.1
  element_takes_some a b c info_kind e x s = c s.0 x s.1

module _ (g : Kind → Grammar Element) (reads : (k : Kind) → IsGrammar (g k)) (some : (k : Kind) → TakesSome (g k)) where
  array_reads : (k : Kind) (flagged : Bool) → IsGrammar (arrays g k flagged)
  array_reads k flagged = made_reads _ _ (after_reads (list (g k)) (λ o. shape flagged (count_of o)) (list_reads (g k) (reads k) (some k)) (λ o. shape_reads flagged (count_of o)))

  kind_reads : (m : ℕ) (o : Option Kind) → IsGrammar (behind_kind g m o)
  kind_reads m None = never_reads
  kind_reads m (Some k) = either_reads (has m 0x80) _ _ (array_reads k (has m 0x40)) (either_reads (has m 0x40) _ _ never_reads (either_reads (is_variant k) _ _ never_reads (made_reads one_of (g k) (reads k))))

  head_reads : (m : ℕ) → IsGrammar (behind_head g m)
  head_reads m = either_reads (eqb m 0) _ _ (absent_reads null) (kind_reads m (kind_named (low_bits m)))

mask_reads : (g : Grammar Variant) → IsGrammar g → (m : ℕ) → IsGrammar (behind_mask g m)
mask_reads g law m = either_reads (has m 0xc0) _ _ never_reads (either_reads (has m 0x01) _ _ (made_reads _ _ (both_reads g (stamps.behind m) law (lawful_stamps.reads m))) (made_reads _ _ (lawful_stamps.reads m)))

takes_some : (d : ℕ) → TakesSome (within d)
unfolding within
takes_some zero v a s = absurd s
takes_some (suc d) v a s = omega (arith, ap length s.4)

data_takes_some : (d : ℕ) → TakesSome (data_within d)
unfolding within
data_takes_some zero v a s = absurd s
data_takes_some (suc d) v a s = omega (arith, ap length s.4)

info_takes_some : (d : ℕ) → TakesSome (diagnostics.within d)
unfolding diagnostics.within
info_takes_some zero v a s = absurd s
info_takes_some (suc d) v a s = omega (arith, ap length s.4)

mutual
  unfolding within

  pub within_reads : (d : ℕ) → IsGrammar (within d)
  within_reads zero = never_reads
  within_reads (suc d) = headed_reads _ (head_reads (elements_within d) (element_reads (within d) (data_within d) (diagnostics.within d) (within_reads d) (data_within_reads d) (diagnostic_laws.within_reads d))
      (element_takes_some (within d) (data_within d) (diagnostics.within d) (takes_some d) (data_takes_some d) (info_takes_some d)))

  pub data_within_reads : (d : ℕ) → IsGrammar (data_within d)
  data_within_reads zero = never_reads
  data_within_reads (suc d) = headed_reads _ (mask_reads (within d) (within_reads d))

pub elements_read : (d : ℕ) (k : Kind) → IsGrammar (elements_within d k)
elements_read d = element_reads (within d) (data_within d) (diagnostics.within d) (within_reads d) (data_within_reads d) (diagnostic_laws.within_reads d)
