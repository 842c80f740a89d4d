-- Lines behind lines.
use Rattle.std.proofs.Common.{◌≡◌, ℕ, ◌+◌, List, [], ◌∷◌, ◌++◌, length, refl, sym, ◌∙◌, append-nil, length-append}
use Rattle.std.proofs.lemmas.List.Concat.{flat_map-append}
use Rattle.std.proofs.lemmas.List.Elements.{All-nil, All-cons, All-append}
use Rattle.ua_json.specs.Lines.{IsLine, AreLines, AppendsLine}

-- one line more, for one thing more that is told
pub one_told : {T : Type 0} (told : List T) (t : T) (old new : List ℕ) → AreLines (length told) old → AppendsLine old new → AreLines (length (told ++ (t ∷ []))) new
one_told told t old new are h = record {
  lines = are.lines ++ (h.0 ∷ []);
  each = All-append IsLine are.lines (h.0 ∷ []) are.each (All-cons IsLine h.0 [] h.1 (All-nil IsLine));
  count_is = length-append are.lines (h.0 ∷ []) ∙ (λ i. are.count_is i + 1) ∙ sym (length-append told (t ∷ []));
  whole = h.2 ∙ (λ i. are.whole i ++ sym (append-nil h.0) i) ∙ sym (flat_map-append (λ line. line) are.lines (h.0 ∷ []));
}

pub nothing_told : (text : List ℕ) → text ≡ [] → AreLines 0 text
nothing_told text none = record { lines = []; each = All-nil IsLine; count_is = refl; whole = none }
