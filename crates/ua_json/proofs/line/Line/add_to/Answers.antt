use Rattle.std.proofs.Common.{◌≡◌, ◌∙◌, List, ℕ, zero, suc, [], ◌∷◌, ◌++◌, ap, subst, sym, arith}
use Rattle.std.specs.Str.{IsAscii, IsUtf8}
use Rattle.std.proofs.lemmas.Str.{IsUtf8-append, IsUtf8-from_ascii}
use Rattle.json.specs.Print.{print}
use Rattle.ua_json.proofs.Ended.{ended, appended}
use Rattle.ua_json.proofs.line.Line.add_to.Goals as goal

-- the end of a line
end_of_line : IsAscii (10 ∷ [])
end_of_line zero = omega arith
end_of_line (suc i) = omega arith

-- behind nothing stands what was written, and the end of its line
whole : (before written items bytes slice : List ℕ) → before ≡ [] → items ≡ before ++ written → bytes ≡ items ++ 10 ∷ [] → slice ≡ bytes → slice ≡ written ++ 10 ∷ []
whole before written items bytes slice alone held pushed lent = lent ∙ pushed ∙ ap (λ (b : List ℕ). b ++ 10 ∷ []) (held ∙ ap (λ (b : List ℕ). b ++ written) alone)

pub from_utf8_unchecked-requires : goal.from_utf8_unchecked-requires
from_utf8_unchecked-requires c =
    let written = print c.end_object.new.self.tokens in
    let alone = c.end_object.ensures.room.0 ∙ c.args.self.alone in
    subst IsUtf8 (sym (whole _ written _ _ _ alone c.into_inner-bytes.ensures.items c.in_ok-push.ensures.items c.deref.ensures.value))
    (IsUtf8-append written (10 ∷ []) c.into_inner-bytes.ensures.utf8 (IsUtf8-from_ascii (10 ∷ []) end_of_line))

pub returns-clause-line : goal.returns-clause-line
returns-clause-line c =
    let written = print c.end_object.new.self.tokens in
    let alone = c.end_object.ensures.room.0 ∙ c.args.self.alone in
    let bytes = c.from_utf8_unchecked.ensures ∙ whole _ written _ _ _ alone c.into_inner-bytes.ensures.items c.in_ok-push.ensures.items c.deref.ensures.value in
    let is_open = rw c.in_ok-put.was at c.requires in
    appended c.push_str.result _ _ _ _ c.push_str.ensures.bytes bytes (ended c.args.self.json.tokens _ is_open c.in_ok-end_object.ensures.ok c.into_inner-bytes.ensures.reads_back)
