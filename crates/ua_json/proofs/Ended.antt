-- The line of an object that has ended.
use Rattle.std.proofs.Common.{◌≡◌, ℕ, List, [], ◌∷◌, ◌++◌, Result, Ok, Err, OnOk, is_ok, if◌then◌else◌, ◌∙◌, subst, refl}
use Rattle.json.specs.Token.{Token}
use Rattle.json.specs.Lex.{tokens}
use Rattle.json.specs.Print.{print, ArePrintableOrBad}
use Rattle.json.proofs.Numbered.{ArePrintableOrBad-tokens}
use Rattle.ua_json.specs.Lines.{IsLine, AppendsLine}
use Rattle.ua_json.specs.Nesting.{IsOpen}
use Rattle.ua_json.proofs.Breaks.{no_line_feed}
use Rattle.ua_json.proofs.Objects.{whole_line}

-- what is written of the tokens of an open object, and of its end
pub ended : (ts us : List Token) → IsOpen ts → us ≡ ts ++ Token.end_object ∷ [] → tokens (print us) ≡ us → IsLine (print us ++ 10 ∷ [])
ended ts us is_open e read =
    let whole = whole_line ts is_open in
    record {
      text = print us;
      members = whole.0;
      is_object = read ∙ e ∙ whole.1;
      alone = no_line_feed us (subst ArePrintableOrBad read (ArePrintableOrBad-tokens (print us)));
      whole = refl;
    }

pub appended : {E : Type 0} (r : Result (Unit {0}) E) (old new bytes line : List ℕ) → new ≡ (if is_ok r then old ++ bytes else old) → bytes ≡ line → IsLine line → OnOk r (AppendsLine old new)
appended (Ok u) old new bytes line e same is = (line, is, e ∙ (λ i. old ++ same i))
appended (Err f) old new bytes line e same is = tt
