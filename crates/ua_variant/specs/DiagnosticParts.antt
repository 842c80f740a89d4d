-- The parts of a DiagnosticInfo beside the inner one, OPC 10000-6, 5.2.2.12.
use Rattle.std.specs.Prelude.{ℕ, ℤ, List, Option}
use Rattle.std.specs.Int.{w32}
use Rattle.ua_value.specs.declared.status.StatusCode.{StatusCode}
use Rattle.ua_value.specs.Number.{signed}
use Rattle.ua_value.specs.Status.{status_code}
use Rattle.ua_value.specs.Text.{string}
use Rattle.ua_variant.specs.declared.diagnostic_parts.DiagnosticParts.{DiagnosticParts}
use Rattle.ua_variant.specs.Flagged.{Flagged, kept, unless_null, then, shown}

abbrev pub Row : Type 0
Row = Option ℤ × (Option ℤ × (Option ℤ × (Option ℤ × (Option (List ℕ) × Option StatusCode))))

abbrev pub row_of : DiagnosticParts → Row
row_of p = (p.symbolic_id, (p.namespace_uri, (p.locale, (p.localized_text, (p.additional_info, p.inner_status)))))

abbrev pub of_row : Row → DiagnosticParts
of_row r = record { symbolic_id = r.0; namespace_uri = r.1.0; locale = r.1.1.0; localized_text = r.1.1.1.0; additional_info = r.1.1.1.1.0; inner_status = r.1.1.1.1.1 }

-- in the order of their bytes, each with its bit; a null text is an absent one
abbrev pub row : Flagged Row
row = then (kept 0x01 (signed w32)) (then (kept 0x02 (signed w32)) (then (kept 0x08 (signed w32)) (then (kept 0x04 (signed w32)) (then (unless_null 0x10 string) (kept 0x20 status_code)))))

unfoldable pub diagnostic_parts : Flagged DiagnosticParts
diagnostic_parts = shown row_of of_row row
