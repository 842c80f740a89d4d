-- Lines of answers, from their parts, and texts in which they stand.
use Rattle.std.proofs.Common.{◌≡◌, ◌∙◌, ◌<◌, ◌++◌, ◌∷◌, ◌==◌, ℕ, List, [], codes, length, arith, refl, sym, ap, subst, Result, Ok, Err, OnOk, is_ok, if◌then◌else◌}
use Rattle.std.specs.List.{before_first, position_or_len}
use Rattle.std.proofs.lemmas.List.{append-nil, append_assoc, get_or-take, length-take-le}
use Rattle.std.proofs.lemmas.List.Sums.{fails_before_first}
use Rattle.ua_walk.specs.Told.{Told, frame_told, message_told, long_told, bad_told, rest_told}
use Rattle.ua_print.specs.Capture.{line_of}
use Rattle.ua_trace.specs.Under.{AddsUnder, AreUnder, IsLine, more}
use Rattle.ua_trace.specs.Woven.{Woven, StandsUnder, line}

-- ---- lines of an answer

-- what stands before the first line end is a line
pub line_before : (bs row : List ℕ) → position_or_len (λ b. b == 10) bs < length bs → row ≡ before_first (λ b. b == 10) bs → IsLine row
line_before bs row inside e = subst IsLine (sym e) (λ k lt.
    let k_lt : k < position_or_len (λ b. b == 10) bs = rw (length-take-le (position_or_len (λ b. b == 10) bs) bs (omega arith)) at lt in
    rw (get_or-take (position_or_len (λ b. b == 10) bs) bs k 0 k_lt) (fails_before_first (λ b. b == 10) bs k 0 k_lt))

line_added : (lines row new : List ℕ) → AreUnder lines → IsLine row → new ≡ ((lines ++ codes "    ") ++ row) ++ codes "\n" → AreUnder new
line_added lines row new are is e =
    let steps : ((lines ++ codes "    ") ++ row) ++ codes "\n" ≡ lines ++ (codes "    " ++ (row ++ codes "\n")) =
    append_assoc (lines ++ codes "    ") row (codes "\n") ∙ append_assoc lines (codes "    ") (row ++ codes "\n") in
    subst AreUnder (sym (e ∙ steps)) (more lines row are is)

-- a line is put behind others in three steps, of which the last may fail
pub answer_line_put : {E : Type 0} (r : Result (Unit {0}) E) (lines row old new : List ℕ) → AreUnder lines → IsLine row → old ≡ (lines ++ codes "    ") ++ row
    → new ≡ (if is_ok r then old ++ codes "\n" else old) → OnOk r (AreUnder new)
answer_line_put (Ok u) lines row old new are is begun e = line_added lines row new are is (e ∙ ap (λ t. t ++ codes "\n") begun)
answer_line_put (Err e) lines row old new are is begun same = tt

-- ---- usual lines

-- a usual line of what is no message is put behind the text
pub frame_put : (told : List Told) (text new : List ℕ) (t : Told) → StandsUnder t [] → Woven told text → new ≡ text ++ line_of t → Woven (told ++ (t ∷ [])) new
frame_put told text new t alone woven e = subst (Woven (told ++ (t ∷ []))) (ap (λ l. text ++ l) (append-nil (line_of t)) ∙ sym e) (line told text t [] woven alone)

-- the line of a message, and under it those of an answer
pub message_put : (told : List Told) (text mid new answer : List ℕ) (id : ℕ) (body : List ℕ) → Woven told text → mid ≡ text ++ line_of (message_told id body) → AreUnder answer → new ≡ mid ++ answer → Woven (told ++ (message_told id body ∷ [])) new
message_put told text mid new answer id body woven first are e =
    subst (Woven (told ++ (message_told id body ∷ []))) (sym (append_assoc text (line_of (message_told id body)) answer) ∙ ap (λ l. l ++ answer) (sym first) ∙ sym e) (line told text (message_told id body) answer woven are)

pub message_told_put : {E : Type 0} (r : Result (Unit {0}) E) (old mid new : List ℕ) (id : ℕ) (body : List ℕ) → mid ≡ old ++ line_of (message_told id body) → OnOk r (AddsUnder mid new)
    → OnOk r ((told : List Told) → Woven told old → Woven (told ++ (message_told id body ∷ [])) new)
message_told_put (Ok u) old mid new id body first h = λ told woven. message_put told old mid new h.0 id body woven first h.1 h.2
message_told_put (Err e) old mid new id body first h = tt
