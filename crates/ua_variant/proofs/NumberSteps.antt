-- Reading a DataValue whose value is a single number.
use Rattle.std.proofs.Common.{◌≡◌, ◌≤◌, ◌<◌, ◌-◌, ◌∙◌, ℕ, zero, suc, List, [], ◌∷◌, length, get_or, take, drop, Option, Some, true, false, refl, ap, sym, arith, bit_and}
use Rattle.std.proofs.lemmas.List.{take_all}
use Rattle.ua_value.specs.Format.{Grammar}
use Rattle.ua_value.specs.Localized.{has}
use Rattle.ua_value.specs.Sequence.{made, both}
use Rattle.ua_variant.specs.Kinds.{Kind, kind_number, kind_named}
use Rattle.ua_variant.specs.Stamps.{stamps}
use Rattle.ua_variant.specs.Values.{Variant, DataValue, with_value}
use Rattle.ua_variant.specs.Spelling.{low_bits}
use Rattle.ua_variant.specs.Reading.{one_of, leaves, behind_mask, within, data_within, IsNumberAhead}
use Rattle.ua_variant.proofs.PlainVariants.{behind_plain}

-- what gives the same wherever it is read
abbrev given : Option (Variant × List ℕ) → Grammar Variant
given r = record { spells = λ v b. ⊥; front = λ bytes. r }

-- what stands behind the value does not ask how it was read
abbrev with_stamps : ℕ → Option (Variant × List ℕ) → Option (DataValue × List ℕ)
with_stamps m r = (made (λ p. with_value p.0 p.1) (both (given r) (stamps.behind m))).front []

valued : (g : Grammar Variant) (m : ℕ) (bytes : List ℕ) → has m 0xc0 ≡ false → has m 0x01 ≡ true → (behind_mask g m).front bytes ≡ with_stamps m (g.front bytes)
valued g m bytes none some = rw (none, some) refl

module _ (m h : ℕ) (rest : List ℕ) (k : Kind) (none : has m 0xc0 ≡ false) (some : has m 0x01 ≡ true) (single : bit_and h 0x80 ≡ 0) (bare : bit_and h 0x40 ≡ 0) (named : kind_named (low_bits h) ≡ Some k) (few : kind_number k ≤ 22) where
  ahead : (d : ℕ) → 1 < d → (data_within d).front (m ∷ h ∷ rest) ≡ (behind_mask (made one_of (leaves k)) m).front rest
  unfolding within
  ahead zero deep = absurd (omega arith)
  ahead (suc zero) deep = absurd (omega arith)
  ahead (suc (suc d)) deep =
      valued (within (suc d)) m (h ∷ rest) none some
      ∙ ap (with_stamps m) (behind_plain d h k rest single bare named few)
      ∙ sym (valued (made one_of (leaves k)) m rest none some)

pub number_ahead : (d : ℕ) (input : List ℕ) (k : Kind) → 2 ≤ d → 2 ≤ length input → has (get_or input 0 0) 0xc0 ≡ false → has (get_or input 0 0) 0x01 ≡ true
    → bit_and (get_or input 1 0) 0x80 ≡ 0 → bit_and (get_or input 1 0) 0x40 ≡ 0 → kind_named (low_bits (get_or input 1 0)) ≡ Some k → kind_number k ≤ 22
    → IsNumberAhead d k (get_or input 0 0) (take (length input - 2) (drop 2 input)) input
number_ahead d [] k deep two none some single bare named few = absurd (omega arith)
number_ahead d (m ∷ []) k deep two none some single bare named few = absurd (omega arith)
number_ahead d (m ∷ h ∷ rest) k deep two none some single bare named few =
    rw (take_all (length (m ∷ h ∷ rest) - 2) rest (omega arith)) (ahead m h rest k none some single bare named few d (omega (arith, deep)))
