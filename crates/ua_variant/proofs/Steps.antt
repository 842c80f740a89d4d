-- Reading level by level.
use Rattle.std.proofs.Common.{◌≡◌, ◌≤◌, ◌<◌, ◌-◌, ℕ, zero, suc, List, [], ◌∷◌, length, get_or, take, drop, Some, None, refl, ap, sym, arith, sub-one, length-append}
use Rattle.std.proofs.lemmas.List.{take_all}
use Rattle.ua_value.specs.Format.{IsBytes, input_limit}
use Rattle.ua_variant.specs.Values.{Variant, DataValue, deepest}
use Rattle.ua_variant.specs.Spelling.{IsVariant, IsDataValue}
use Rattle.ua_variant.specs.SpellingLaws.{sound, data_sound}
use Rattle.ua_variant.specs.Reading.{behind_head, behind_mask, within, data_within, elements_within}
use Rattle.ua_variant.specs.ReadingLaws.{within_reads, data_within_reads}
use Rattle.ua_variant.specs.WithinLaws.{within_spells, data_within_spells}

-- the first byte, and what follows it
abbrev pub first_of : List ℕ → ℕ
first_of input = get_or input 0 0

abbrev pub after_first : List ℕ → List ℕ
after_first input = take (length input - 1) (drop 1 input)

behind_first : (m : ℕ) (rest : List ℕ) → after_first (m ∷ rest) ≡ rest
behind_first m rest = take_all (length (m ∷ rest) - 1) rest (omega arith)

pub no_level : (d : ℕ) (bytes : List ℕ) → d ≡ 0 → (within d).front bytes ≡ None
unfolding within
no_level zero bytes h = refl
no_level (suc d) bytes h = absurd (omega arith)

pub no_data_level : (d : ℕ) (bytes : List ℕ) → d ≡ 0 → (data_within d).front bytes ≡ None
unfolding within
no_data_level zero bytes h = refl
no_data_level (suc d) bytes h = absurd (omega arith)

pub no_first : (d : ℕ) (bytes : List ℕ) → length bytes ≡ 0 → (within d).front bytes ≡ None
unfolding within
no_first zero bytes h = refl
no_first (suc d) [] h = refl
no_first (suc d) (m ∷ rest) h = absurd (omega arith)

pub no_mask : (d : ℕ) (bytes : List ℕ) → length bytes ≡ 0 → (data_within d).front bytes ≡ None
unfolding within
no_mask zero bytes h = refl
no_mask (suc d) [] h = refl
no_mask (suc d) (m ∷ rest) h = absurd (omega arith)

pub one_level : (d : ℕ) (input : List ℕ) → 0 < d → 1 ≤ length input → (within d).front input ≡ (behind_head (elements_within (d - 1)) (first_of input)).front (after_first input)
unfolding within
one_level zero input h some = absurd (omega arith)
one_level (suc d) [] h some = absurd (omega arith)
one_level (suc d) (m ∷ rest) h some = rw sub-one (ap (λ (l : List ℕ). (behind_head (elements_within d) m).front l) (sym (behind_first m rest)))

pub one_data_level : (d : ℕ) (input : List ℕ) → 0 < d → 1 ≤ length input → (data_within d).front input ≡ (behind_mask (within (d - 1)) (first_of input)).front (after_first input)
unfolding within
one_data_level zero input h some = absurd (omega arith)
one_data_level (suc d) [] h some = absurd (omega arith)
one_data_level (suc d) (m ∷ rest) h some = rw sub-one (ap (λ (l : List ℕ). (behind_mask (within d) m).front l) (sym (behind_first m rest)))

-- ---- what is read is a value

pub is_variant : (d : ℕ) (input : List ℕ) (v : Variant) (rest : List ℕ) → d ≤ deepest → IsBytes input → length input ≤ input_limit → (within d).front input ≡ Some (v, rest) → IsVariant v
is_variant d input v rest deep fits short e =
    let t = (within_reads d).takes input v rest fits e in
    let w = within_spells d v t.text t.spelled in
    record { sound = sound v t.text (omega (arith, ap length t.parts, length-append t.text rest)) w.spells; depth = omega (arith, w.depth) }

pub is_data : (d : ℕ) (input : List ℕ) (v : DataValue) (rest : List ℕ) → d ≤ deepest → IsBytes input → length input ≤ input_limit → (data_within d).front input ≡ Some (v, rest) → IsDataValue v
is_data d input v rest deep fits short e =
    let t = (data_within_reads d).takes input v rest fits e in
    let w = data_within_spells d v t.text t.spelled in
    record { sound = data_sound v t.text (omega (arith, ap length t.parts, length-append t.text rest)) w.spells; depth = omega (arith, w.depth) }

with_first : (m : ℕ) (input : List ℕ) → m < 256 → IsBytes input → IsBytes (m ∷ input)
with_first m input lt fits zero = lt
with_first m input lt fits (suc i) = fits i

-- and what is read behind a mask is one
pub is_data_behind : (d m : ℕ) (input : List ℕ) (v : DataValue) (rest : List ℕ) → d < deepest → m < 256 → IsBytes input → length input < input_limit
    → (behind_mask (within d) m).front input ≡ Some (v, rest) → IsDataValue v
unfolding within
is_data_behind d m input v rest deep lt fits short e = is_data (suc d) (m ∷ input) v rest (omega (arith, deep)) (with_first m input lt fits) (omega (arith, short)) e
