-- Reading a DiagnosticInfo level by level.
use Rattle.std.proofs.Common.{◌≡◌, ◌≤◌, ◌<◌, ◌-◌, ◌∙◌, ℕ, zero, suc, Bool, true, false, List, [], ◌∷◌, length, get_or, take, drop, bit_and, Some, None, refl, ap, sym, arith, sub-one}
use Rattle.std.proofs.lemmas.Bool.{lt-ltb, ne_eqb}
use Rattle.std.proofs.lemmas.List.{take_all}
use Rattle.ua_value.specs.declared.fault.ReadFault.{ReadFault}
use Rattle.ua_value.specs.declared.fault.ReadFault.TheVariants.{Refused, NoMemory}
use Rattle.ua_value.specs.Format.{Grammar, Fails}
use Rattle.ua_value.specs.Sequence.{headed}
use Rattle.ua_value.specs.Localized.{has}
use Rattle.ua_variant.specs.declared.diagnostic_parts.DiagnosticParts.{DiagnosticParts}
use Rattle.ua_variant.specs.DiagnosticParts.{diagnostic_parts}
use Rattle.ua_variant.specs.Diagnostic.{Diagnostic, plain, around, behind_mask, within}

pub one_level : (d : ℕ) (bytes : List ℕ) → 0 < d → (within d).front bytes ≡ (headed (behind_mask (within (d - 1)))).front bytes
unfolding within
one_level zero bytes h = absurd (omega arith)
one_level (suc d) bytes h = rw sub-one

pub no_level : (d : ℕ) (bytes : List ℕ) → d ≡ 0 → (within d).front bytes ≡ None
unfolding within
no_level zero bytes h = refl
no_level (suc d) bytes h = absurd (omega arith)

-- the mask, and what follows it
abbrev pub mask_at : List ℕ → ℕ
mask_at input = get_or input 0 0

abbrev pub after_mask : List ℕ → List ℕ
after_mask input = take (length input - 1) (drop 1 input)

after_first : (m : ℕ) (rest : List ℕ) → after_mask (m ∷ rest) ≡ rest
after_first m rest = take_all (length (m ∷ rest) - 1) rest (omega arith)

pub no_inner : (mask : ℕ) → bit_and mask 0x40 ≡ 0 → has mask 0x40 ≡ false
no_inner mask h = rw h refl

pub has_inner : (mask : ℕ) → (bit_and mask 0x40 ≡ 0 → ⊥) → has mask 0x40 ≡ true
has_inner mask h = rw (ne_eqb (bit_and mask 0x40) 0 h) refl

low_level : (d : ℕ) (input : List ℕ) → 0 < d → 1 ≤ length input → (within d).front input ≡ (behind_mask (within (d - 1)) (mask_at input)).front (after_mask input)
low_level d [] h some = absurd (omega arith)
low_level d (m ∷ rest) h some = one_level d (m ∷ rest) h ∙ ap (λ (l : List ℕ). (behind_mask (within (d - 1)) m).front l) (sym (after_first m rest))

refused_behind : (inner : Bool) (next : Grammar Diagnostic) (mask : ℕ) (rest : List ℕ) → mask < 128 → has mask 0x40 ≡ inner
    → (diagnostic_parts.behind mask).front rest ≡ None → (behind_mask next mask).front rest ≡ None
refused_behind true next mask rest low inside read = rw (lt-ltb _ _ low, inside, read) refl
refused_behind false next mask rest low inside read = rw (lt-ltb _ _ low, inside, read) refl

pub parts_fail : (d : ℕ) (input : List ℕ) (e : ReadFault) → 0 < d → 1 ≤ length input → mask_at input < 128
    → Fails e ((diagnostic_parts.behind (mask_at input)).front (after_mask input)) → Fails e ((within d).front input)
parts_fail d input NoMemory h some low read = tt
parts_fail d input Refused h some low read = low_level d input h some ∙ refused_behind (has (mask_at input) 0x40) (within (d - 1)) (mask_at input) (after_mask input) low refl read

pub is_plain : (d : ℕ) (input : List ℕ) (p : DiagnosticParts) (after : List ℕ) → 0 < d → 1 ≤ length input → mask_at input < 128 → bit_and (mask_at input) 0x40 ≡ 0
    → (diagnostic_parts.behind (mask_at input)).front (after_mask input) ≡ Some (p, after) → (within d).front input ≡ Some (plain p, after)
is_plain d input p after h some low inside read = low_level d input h some ∙ rw (lt-ltb _ _ low, no_inner (mask_at input) inside, read) refl

pub inner_fails : (d : ℕ) (input : List ℕ) (p : DiagnosticParts) (after : List ℕ) (e : ReadFault) → 0 < d → 1 ≤ length input → mask_at input < 128 → (bit_and (mask_at input) 0x40 ≡ 0 → ⊥)
    → (diagnostic_parts.behind (mask_at input)).front (after_mask input) ≡ Some (p, after) → Fails e ((within (d - 1)).front after) → Fails e ((within d).front input)
inner_fails d input p after NoMemory h some low inside read next = tt
inner_fails d input p after Refused h some low inside read next = low_level d input h some ∙ rw (lt-ltb _ _ low, has_inner (mask_at input) inside, read, next) refl

pub is_around : (d : ℕ) (input : List ℕ) (p : DiagnosticParts) (after : List ℕ) (inner : Diagnostic) (rest : List ℕ) → 0 < d → 1 ≤ length input → mask_at input < 128 → (bit_and (mask_at input) 0x40 ≡ 0 → ⊥)
    → (diagnostic_parts.behind (mask_at input)).front (after_mask input) ≡ Some (p, after) → (within (d - 1)).front after ≡ Some (inner, rest) → (within d).front input ≡ Some (around p inner, rest)
is_around d input p after inner rest h some low inside read next = low_level d input h some ∙ rw (lt-ltb _ _ low, has_inner (mask_at input) inside, read, next) refl
