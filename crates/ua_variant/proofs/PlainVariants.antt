-- Reading a Variant of a single plain value.
use Rattle.std.proofs.Common.{◌≡◌, ◌≤◌, ◌<◌, ◌-◌, ◌∙◌, ℕ, zero, suc, List, length, Some, refl, arith, bit_and}
use Rattle.std.proofs.lemmas.Bool.{ne_eqb}
use Rattle.ua_value.specs.Sequence.{made}
use Rattle.ua_variant.specs.Kinds.{Kind, plain, variant_kind, data_kind, info_kind, kind_number, kind_named}
use Rattle.ua_variant.specs.Spelling.{low_bits}
use Rattle.ua_variant.specs.Reading.{one_of, leaves, behind_head, within, elements_within}
use Rattle.ua_variant.proofs.Steps.{first_of, after_first, one_level}

not_null : (m : ℕ) (k : Kind) → kind_named (low_bits m) ≡ Some k → m ≡ 0 → ⊥
unfolding kind_named
not_null zero k h e = absurd cc
not_null (suc m) k h e = absurd (omega arith)

pub behind_plain : (d m : ℕ) (k : Kind) (rest : List ℕ) → bit_and m 0x80 ≡ 0 → bit_and m 0x40 ≡ 0 → kind_named (low_bits m) ≡ Some k → kind_number k ≤ 22
    → (behind_head (elements_within d) m).front rest ≡ (made one_of (leaves k)).front rest
behind_plain d m (plain p) rest a b named few = rw (ne_eqb m 0 (not_null m (plain p) named), named, a, b) refl
behind_plain d m data_kind rest a b named few = absurd (omega arith)
behind_plain d m variant_kind rest a b named few = absurd (omega arith)
behind_plain d m info_kind rest a b named few = absurd (omega arith)

pub one_plain : (d : ℕ) (input : List ℕ) (k : Kind) → 0 < d → 1 ≤ length input → bit_and (first_of input) 0x80 ≡ 0 → bit_and (first_of input) 0x40 ≡ 0 → kind_named (low_bits (first_of input)) ≡ Some k → kind_number k ≤ 22
    → (within d).front input ≡ (made one_of (leaves k)).front (after_first input)
one_plain d input k h some a b named few = one_level d input h some ∙ behind_plain (d - 1) (first_of input) k (after_first input) a b named few
