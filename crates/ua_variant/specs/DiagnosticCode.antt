-- A code of a DiagnosticInfo, by which a proof tells two apart.
use Rattle.std.specs.Prelude.{◌≡◌, ℤ, Option, refl}
use Rattle.std.proofs.Common.{ap}
use Rattle.std.specs.Coded.{Coded, code_by, coded×, coded_option}
use Rattle.ua_value.specs.Codes.{text_coded, integer_coded, status_coded}
use base.Stored.{Gv, gnil, gcons}
use Rattle.ua_variant.specs.declared.diagnostic_parts.DiagnosticParts.{DiagnosticParts}
use Rattle.ua_variant.specs.DiagnosticParts.{Row, row_of, of_row}
use Rattle.ua_variant.specs.Diagnostic.{Diagnostic, plain, around}

abbrev pub index_coded : Coded (Option ℤ)
index_coded = coded_option integer_coded

abbrev pub parts_coded : Coded DiagnosticParts
parts_coded = code_by Row (coded× index_coded (coded× index_coded (coded× index_coded (coded× index_coded (coded× text_coded (coded_option status_coded)))))) row_of of_row (λ _. refl)

abbrev pub code : Diagnostic → Gv
code (plain p) = gcons gnil (parts_coded.code p)
code (around p inner) = gcons (gcons gnil (code inner)) (parts_coded.code p)

abbrev first : Gv → Gv
first (gcons a b) = a
first g = g

abbrev second : Gv → Gv
second (gcons a b) = b
second g = g

pub inj : (x y : Diagnostic) → code x ≡ code y → x ≡ y
inj (plain p) (plain q) e = ap plain (parts_coded.inj p q (ap second e))
inj (around p x) (around q y) e =
    let inner : x ≡ y = inj x y (ap (λ g. second (first g)) e) in
    let parts : p ≡ q = parts_coded.inj p q (ap second e) in
    cc
inj _ _ e = cc

abbrev pub diagnostic_coded : Coded Diagnostic
diagnostic_coded = record { code = code; inj = inj }
