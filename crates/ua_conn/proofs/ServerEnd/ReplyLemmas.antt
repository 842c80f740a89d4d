-- The frames that are written, as replies.
use Rattle.std.proofs.Common.{◌≡◌, ℕ, ◌+◌, ◌≤◌, false, cond, List, [], ◌∷◌, ◌++◌, map, length, Result, refl, sym, ap, ◌∙◌, arith}
use Rattle.std.specs.Prelude.{is_ok, if◌then◌else◌}
use Rattle.std.proofs.lemmas.List.{append-nil}
use Rattle.ua_frame.specs.Hello.{acknowledge_frame}
use Rattle.ua_frame.specs.declared.acknowledge.Ack.{Ack}
use Rattle.ua_chunk.specs.Numbers.{number_after}
use Rattle.ua_chunk.specs.NumberLaws.{IsNumber, number_after_none, number_after_more}
use Rattle.ua_chunk.specs.Cut.{Part, part_count, fill}
use Rattle.ua_chunk.specs.CutLaws.{length-fill}
use Rattle.ua_chunk.specs.Written.{open_frame, part_frame, message_frames}
use Rattle.ua_conn.specs.server.Site.{Site}
use Rattle.ua_conn.specs.Past.{Agreed}
use Rattle.ua_conn.specs.server.Replies.{Acknowledge, Opened, Answer, spelled, part_size, is_over_limits, answer_parts, aborted}
use Rattle.ua_conn.specs.server.Machine.{spelled_next, next_after}

pub one_acknowledge : (site : Site) (n : ℕ) (ack : Ack) → spelled_next site n (Acknowledge ack ∷ []) ≡ acknowledge_frame ack
unfolding spelled
one_acknowledge site n ack = append-nil (acknowledge_frame ack)

pub one_opened : (site : Site) (n id : ℕ) (body : List ℕ) → spelled_next site n (Opened id body ∷ []) ≡ open_frame site.channel n id body
unfolding spelled
one_opened site n id body = append-nil (open_frame site.channel n id body)

-- ---- answers

frames_from : (site : Site) (token first n : ℕ) (parts : List Part) → 1 ≤ first →
    message_frames site.channel token first n parts ≡ spelled_next site (number_after first n) (map (Answer token) parts)
unfolding spelled
frames_from site token first n [] h = refl
frames_from site token first n (p ∷ parts) h =
    ap (λ bytes. part_frame site.channel token (number_after first n) p ++ bytes)
    (frames_from site token first (n + 1) parts h ∙ ap (λ m. spelled_next site m (map (Answer token) parts)) (sym (number_after_more first n 1 h)))

next_from : (token first n : ℕ) (parts : List Part) → 1 ≤ first → next_after (number_after first n) (map (Answer token) parts) ≡ number_after first (n + length parts)
next_from token first n [] h = ap (number_after first) (omega arith)
next_from token first n (p ∷ parts) h =
    ap (λ m. next_after m (map (Answer token) parts)) (number_after_more first n 1 h)
    ∙ next_from token first (n + 1) parts h
    ∙ ap (number_after first) (omega arith)

-- the frames of an answer, from the number of the first
pub answer_frames : (site : Site) (token n : ℕ) (parts : List Part) → IsNumber n → message_frames site.channel token n 0 parts ≡ spelled_next site n (map (Answer token) parts)
answer_frames site token n parts h = frames_from site token n 0 parts h.some ∙ ap (λ m. spelled_next site m (map (Answer token) parts)) (number_after_none n h)

pub answer_next : (token n : ℕ) (parts : List Part) → IsNumber n → number_after n (length parts) ≡ next_after n (map (Answer token) parts)
answer_next token n parts h =
    let none : length parts ≡ 0 + length parts = omega arith in
    ap (number_after n) none ∙ sym (next_from token n 0 parts h.some) ∙ ap (λ m. next_after m (map (Answer token) parts)) (number_after_none n h)

-- ---- one abort, or the parts

pub parts_numbered : {T E : Type 0} (r : Result T E) (n m id : ℕ) (agreed : Agreed) (body : List ℕ) → is_over_limits agreed body ≡ false →
    m ≡ (if is_ok r then number_after n (part_count (length body) (part_size agreed)) else n) → m ≡ (if is_ok r then number_after n (length (answer_parts agreed id body)) else n)
parts_numbered r n m id agreed body over e =
    e ∙ ap (λ c. if is_ok r then number_after n c else n) (sym (length-fill id (part_size agreed) body))
    ∙ ap (λ b. if is_ok r then number_after n (length (cond b (aborted id 0x80B90000 ∷ []) (fill id body (part_size agreed)))) else n) (sym over)
