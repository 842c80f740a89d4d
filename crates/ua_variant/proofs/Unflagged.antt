-- What stands behind a mask that flags no part.
use Rattle.std.proofs.Common.{◌≡◌, ◌≤◌, ◌<◌, ℕ, zero, suc, List, length, Option, Some, None, refl, arith}
use Rattle.ua_variant.specs.declared.diagnostic_parts.DiagnosticParts.{DiagnosticParts}
use Rattle.ua_variant.specs.declared.stamps.Stamps.{Stamps}
use Rattle.ua_variant.specs.Diagnostic.{Diagnostic, plain, within}
use Rattle.ua_variant.specs.DiagnosticParts as parts
use Rattle.ua_variant.specs.Stamps as stamps
use Rattle.ua_variant.proofs.DiagnosticSteps.{mask_at, after_mask, is_plain}

-- the parts that say nothing, and all the bytes
abbrev pub no_parts : List ℕ → Option (DiagnosticParts × List ℕ)
no_parts bytes = Some (parts.of_row (None, (None, (None, (None, (None, None))))), bytes)

pub parts_at_zero : (bytes : List ℕ) → (parts.diagnostic_parts.behind 0).front bytes ≡ no_parts bytes
unfolding parts.diagnostic_parts
parts_at_zero bytes = refl

pub says_nothing : (d : ℕ) (input : List ℕ) → 0 < d → 1 ≤ length input → mask_at input ≡ 0
    → let r : Option (Diagnostic × List ℕ) = Some (plain (parts.of_row (None, (None, (None, (None, (None, None)))))), after_mask input) in (within d).front input ≡ r
says_nothing d input h some e = is_plain d input (parts.of_row (None, (None, (None, (None, (None, None)))))) (after_mask input) h some (omega (arith, e)) (rw e refl) (rw e (parts_at_zero (after_mask input)))

abbrev pub no_stamps : List ℕ → Option (Stamps × List ℕ)
no_stamps bytes = Some (stamps.of_row (None, (None, (None, (None, None)))), bytes)

-- the lowest bit flags the value of a DataValue, which stands before them
pub stamps_at_one : (mask : ℕ) (bytes : List ℕ) → mask ≤ 1 → (stamps.stamps.behind mask).front bytes ≡ no_stamps bytes
unfolding stamps.stamps
stamps_at_one zero bytes h = refl
stamps_at_one (suc zero) bytes h = refl
stamps_at_one (suc (suc n)) bytes h = absurd (omega arith)
