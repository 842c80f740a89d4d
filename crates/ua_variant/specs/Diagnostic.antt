-- DiagnosticInfo, OPC 10000-6, 5.2.2.12.
use Rattle.std.specs.Prelude.{◌≡◌, ℕ, zero, suc, ◌+◌, ◌<◌, ◌≤◌, List, ◌∷◌, ◌++◌, Option, Some, None, true, false, nat_lt}
use Rattle.ua_value.specs.Format.{Grammar, Format}
use Rattle.ua_value.specs.Sequence.{both, made, never, either, headed}
use Rattle.ua_value.specs.Localized.{has, flag}
use Rattle.ua_variant.specs.declared.diagnostic_parts.DiagnosticParts.{DiagnosticParts}
use Rattle.ua_variant.specs.DiagnosticParts.{diagnostic_parts}
pub use Rattle.ua_kind.specs.Nesting.{deepest}

-- parts alone, or parts round another one
pub data Diagnostic : Type 0 where
  plain : DiagnosticParts → Diagnostic
  around : DiagnosticParts → Diagnostic → Diagnostic

-- how deep it is nested, itself included
abbrev pub depth : Diagnostic → ℕ
depth (plain p) = 1
depth (around p inner) = suc (depth inner)

abbrev pub parts_of : Diagnostic → DiagnosticParts
parts_of (plain p) = p
parts_of (around p inner) = p

abbrev pub inner_of : Diagnostic → Option Diagnostic
inner_of (plain p) = None
inner_of (around p inner) = Some inner

abbrev pub diagnostic_of : DiagnosticParts → Option Diagnostic → Diagnostic
diagnostic_of p None = plain p
diagnostic_of p (Some inner) = around p inner

-- no other may stand round it
abbrev pub IsFull : Option Diagnostic → Type 0
IsFull None = ⊥
IsFull (Some v) = deepest ≤ depth v

-- ---- which values there are

abbrev pub AreParts : Diagnostic → Type 0
AreParts (plain p) = diagnostic_parts.IsValue p
AreParts (around p inner) = diagnostic_parts.IsValue p × AreParts inner

pub record IsDiagnostic (v : Diagnostic) : Type 0 where
  pub parts : AreParts v
  pub depth : depth v ≤ deepest

-- ---- spellings

-- a mask without the highest bit, the parts that it flags, and the inner one where it is flagged
abbrev pub Spells : Diagnostic → List ℕ → Type 0
Spells (plain p) b = (mask : ℕ) × (x : List ℕ) × (mask < 128) × (has mask 0x40 ≡ false) × (diagnostic_parts.behind mask).spells p x × (b ≡ mask ∷ x)
Spells (around p inner) b = (mask : ℕ) × (x : List ℕ) × (y : List ℕ) × (mask < 128) × (has mask 0x40 ≡ true) × (diagnostic_parts.behind mask).spells p x × Spells inner y × (b ≡ mask ∷ (x ++ y))

pub record IsWithin (d : ℕ) (v : Diagnostic) (b : List ℕ) : Type 0 where
  pub spells : Spells v b
  pub depth : depth v ≤ d

-- ---- the canonical spelling

abbrev pub canon : Diagnostic → List ℕ
canon (plain p) = (diagnostic_parts.mask p + flag false 0x40) ∷ diagnostic_parts.canon p
canon (around p inner) = (diagnostic_parts.mask p + flag true 0x40) ∷ (diagnostic_parts.canon p ++ canon inner)

-- ---- reading from the front

abbrev pub around_of : DiagnosticParts × Diagnostic → Diagnostic
around_of p = around p.0 p.1

-- what follows the mask, with what reads an inner one
abbrev pub behind_mask : Grammar Diagnostic → ℕ → Grammar Diagnostic
behind_mask next mask = either (nat_lt mask 128) (either (has mask 0x40) (made around_of (both (diagnostic_parts.behind mask) next)) (made plain (diagnostic_parts.behind mask))) never

-- those that are at most so deep
unfoldable pub within : ℕ → Grammar Diagnostic
within zero = never
within (suc d) = headed (behind_mask (within d))

unfoldable pub diagnostic : Format Diagnostic
diagnostic = record { grammar = record { spells = IsWithin deepest; front = (within deepest).front }; canon = canon; IsValue = IsDiagnostic }
