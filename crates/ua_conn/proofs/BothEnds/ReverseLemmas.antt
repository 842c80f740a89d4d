-- The law of both ends, for every setup: where the server opens the connection, it is that of the story in which the client does.
use mathlib.Core.List.{IsPrefix}
use Rattle.std.proofs.Common.{◌≡◌, ℕ, ◌+◌, ◌<◌, Bool, true, false, List, [], ◌∷◌, ◌++◌, length, Option, Some, None, refl, sym, ap, subst, ◌∙◌, arith, ◌⊎◌, inl}
use Rattle.std.specs.Prelude.{ℤ}
use Rattle.std.proofs.lemmas.List.{append_cancel_left, length-append}
use Rattle.ua_frame.specs.Streams.{TimedByte, plain, cuts_within, rest_within}
use Rattle.ua_frame.specs.StreamLaws.{plain_append}
use Rattle.ua_frame.specs.Layout.{Frame, frame_by, frames_of}
use Rattle.ua_frame.specs.LayoutLaws.{frames_behind}
use Rattle.ua_conn.specs.Past.{Past}
use Rattle.ua_conn.specs.server.Replies.{handed}
use Rattle.ua_conn.specs.client.Commands.{Commands, Asked, asked_in}
use Rattle.ua_conn.specs.client.Past.{granted_in}
use Rattle.ua_conn.specs.client.Reading.{ClientReading, client_reading_of, client_fault, answers, matched}
use Rattle.ua_conn.specs.Story.{Setup, World, server_stream, begun, final}
use Rattle.ua_conn.specs.BothEnds.{AllAfter, IsSetup, IsSchedule, IsLive, TokensLive, Delivered, Served, served, AnswersInOrder, expected, HandedAndAccepted, NothingRefused, NoneUnanswered}
use Rattle.ua_conn.specs.declared.client.answer.Answer.{Answer}
use Rattle.ua_conn.specs.declared.schedule.Step.{Step}
use Rattle.ua_conn.proofs.ClientEnd.BehindLemmas.{IsCall, behind, asked_later, all_later, asked_same, answers_behind, granted_behind}
use Rattle.ua_conn.proofs.BothEnds.PlainForms.{IsPlain, plain_of, HandsAndAnswers, RefusesNothing, AnswersAll}
use Rattle.ua_conn.proofs.BothEnds.HandedLemmas.{handed_plain}
use Rattle.ua_conn.proofs.BothEnds.UnrefusedLemmas.{unrefused_plain}
use Rattle.ua_conn.proofs.BothEnds.AnsweredLemmas.{answered_plain}
use Rattle.ua_conn.proofs.BothEnds.MirrorLemmas.{Calls, calls_of, called, turned, turned_plain, Came, came_frame, came_call, image, reads_image, sends_image, says_image, still, Waits, waits_reading, first_stream, Mirrors, waits, goes, mirrored}

-- ---- behind the ReverseHello

-- what the client makes of it
pub matches_image : (s : Setup) (k : Calls s) (call : List TimedByte) (w : World) → s.asker.reverse ≡ true → Came s k call →
    matched s.asker (image call w).cmds (image call w).settled ≡ matched (turned s k w.clock).asker w.cmds w.settled
matches_image s k call w own c =
    ap (λ (R : ClientReading). answers (image call w).cmds R.past) (reads_image s k w.clock call w.settled w.cmds own c) ∙ answers_behind w.cmds (frame_by call) (came_call s k call c) (client_reading_of (turned s k w.clock).asker w.cmds w.settled).past

pub fault_image : (s : Setup) (k : Calls s) (call : List TimedByte) (w : World) → s.asker.reverse ≡ true → Came s k call → client_fault s.asker (image call w).cmds (image call w).down ≡ client_fault (turned s k w.clock).asker w.cmds w.down
fault_image s k call w own c = ap (λ (R : ClientReading). R.fault) (reads_image s k w.clock call w.down w.cmds own c)

-- what is asked at a later place is answered by the same
order_later : (s : Setup) (k : Calls s) (start : ℤ) (n : ℕ) (xs : List Asked) (vs : List Served) (is : List Answer) → AnswersInOrder (turned s k start) xs vs is → AnswersInOrder s (asked_later n xs) vs is
unfolding expected
order_later s k start n xs vs [] h = tt
order_later s k start n [] vs (i ∷ is) h = absurd h
order_later s k start n (x ∷ xs) [] (i ∷ is) h = absurd h
order_later s k start n (x ∷ xs) (v ∷ vs) (i ∷ is) h = (record { id = h.0.id; request = h.0.request; handed = h.0.handed; result = h.0.result }, order_later s k start n xs vs is h.1)

live_behind : (c : Frame) → IsCall c → (past : Past) (fs : List Frame) → AllAfter (λ past f. IsLive (granted_in past) f) (behind c past) fs → AllAfter (λ past f. IsLive (granted_in past) f) past fs
live_behind c h past [] live = tt
live_behind c h past (f ∷ fs) live = (subst (λ tokens. IsLive tokens f) (granted_behind c h past) live.0, live_behind c h (f ∷ past) fs live.1)

lives_image : (s : Setup) (k : Calls s) (call : List TimedByte) (w : World) → Came s k call → TokensLive (image call w) → TokensLive w
lives_image s k call w c live =
    let frames = (frames_behind call w.down (came_frame s k call c)).0 in
    let down = subst (λ fs. AllAfter (λ past f. IsLive (granted_in past) f) [] fs) frames live.down in
    record { up = live.up; down = live_behind (frame_by call) (came_call s k call c) [] (frames_of w.down) down.1 }

delivered_image : (s : Setup) (k : Calls s) (start : ℤ) (call : List TimedByte) (w : World) → s.asker.reverse ≡ true → Came s k call → Delivered s (image call w) → Delivered (turned s k start) w
delivered_image s k start call w own c d = record {
  up = d.up ∙ sends_image s k start call w own c;
  down = append_cancel_left (plain call) (plain w.down) (server_stream (turned s k start) w) (sym (plain_append call w.down) ∙ d.down ∙ says_image s k start call w own c);
}

-- ---- before it

pub empty : (s : Setup) (k : Calls s) (down : List TimedByte) → Waits s k down → matched s.asker [] down ≡ []
empty s k down w = ap (λ (R : ClientReading). answers [] R.past) (waits_reading s k down w)

-- nothing lives or dies where nothing came
calm_start : (s : Setup) → TokensLive (final s [])
unfolding cuts_within rest_within
calm_start s = record { up = tt; down = tt }

-- it is not all delivered
not_all : (s : Setup) (k : Calls s) (down : List TimedByte) → Waits s k down → s.asker.reverse ≡ true → plain down ≡ server_stream s (still s.start down) → ⊥
not_all s k down w own e =
    let all : plain down ≡ called k = e ∙ first_stream s k own in
    omega (arith, ap length all, ap length w.whole, length-append (plain down) w.left, w.some)

-- ---- the law

handed_reverse : (s : Setup) → IsSetup s → (k : Calls s) → s.asker.reverse ≡ true → (schedule : List Step) → Mirrors s k (begun s) schedule → HandsAndAnswers s (final s schedule)
handed_reverse s h k own schedule (waits clock down lt part e) =
    let start = turned s k clock in
    let none = handed_plain start [] (turned_plain s h k clock lt) tt in
    subst (HandsAndAnswers s) (sym e) (none.0, subst (λ is. AnswersInOrder s [] (served s (still clock down)) is) (sym (empty s k down part)) tt)
handed_reverse s h k own schedule (goes start call before es lt c is cut came e) =
    let v = final (turned s k start) es in
    let law = handed_plain (turned s k start) es (turned_plain s h k start lt) is in
    let n = length (plain call) in
    let order = order_later s k start n (asked_in v.cmds) (served s (image call v)) (matched (turned s k start).asker v.cmds v.settled) law.1 in
    subst (HandsAndAnswers s) (sym e) (
      subst (λ requests. IsPrefix (handed s.site v.up) requests) (sym (asked_same n v.cmds)) law.0,
      subst (λ xs. AnswersInOrder s xs (served s (image call v)) (matched s.asker (image call v).cmds (image call v).settled)) (sym (all_later n v.cmds))
          (subst (λ is. AnswersInOrder s (asked_later n (asked_in v.cmds)) (served s (image call v)) is) (sym (matches_image s k call v own c)) order),
    )

unrefused_reverse : (s : Setup) → IsSetup s → (k : Calls s) → s.asker.reverse ≡ true → (schedule : List Step) → Mirrors s k (begun s) schedule → RefusesNothing s (final s schedule)
unrefused_reverse s h k own schedule (waits clock down lt part e) =
    let start = turned s k clock in
    let law = unrefused_plain start [] (turned_plain s h k clock lt) tt (calm_start start) in
    subst (RefusesNothing s) (sym e) (λ live. (law.0, ap (λ (R : ClientReading). R.fault) (waits_reading s k down part)))
unrefused_reverse s h k own schedule (goes start call before es lt c is cut came e) =
    let v = final (turned s k start) es in
    let law = unrefused_plain (turned s k start) es (turned_plain s h k start lt) is in
    subst (RefusesNothing s) (sym e) (λ live. (let r = law (lives_image s k call v c live) in (r.0, fault_image s k call v own c ∙ r.1)))

answered_reverse : (s : Setup) → IsSetup s → (k : Calls s) → s.asker.reverse ≡ true → (schedule : List Step) → Mirrors s k (begun s) schedule → AnswersAll s (final s schedule)
answered_reverse s h k own schedule (waits clock down lt part e) = subst (AnswersAll s) (sym e) (λ live d. absurd (not_all s k down part own d.down))
answered_reverse s h k own schedule (goes start call before es lt c is cut came e) =
    let v = final (turned s k start) es in
    let n = length (plain call) in
    let law = answered_plain (turned s k start) es (turned_plain s h k start lt) is in
    subst (AnswersAll s) (sym e)
    (λ live d.
    (let r = law (lives_image s k call v c live) (delivered_image s k start call v own c d) in
    let many = ap length (matches_image s k call v own c) in
    (r.0 ∙ sym (asked_same n v.cmds), many ∙ r.1 ∙ ap length (sym (asked_same n v.cmds)))))

either : {P : Type 0} (s : Setup) → (s.asker.reverse ≡ true → P) → (s.asker.reverse ≡ false → P) → P
either {P} s on off = by s.asker.reverse refl
  where
    by : (b : Bool) → s.asker.reverse ≡ b → P
    by true e = on e
    by false e = off e

pub handed_law : HandedAndAccepted
handed_law s schedule h is =
    either {P = HandsAndAnswers s (final s schedule)} s
    (λ own. (let k = calls_of s h own in handed_reverse s h k own schedule (mirrored s h k own schedule is)))
    (λ own. handed_plain s schedule (plain_of s h own) is)

pub unrefused_law : NothingRefused
unrefused_law s schedule h is =
    either {P = RefusesNothing s (final s schedule)} s
    (λ own. (let k = calls_of s h own in unrefused_reverse s h k own schedule (mirrored s h k own schedule is)))
    (λ own. unrefused_plain s schedule (plain_of s h own) is)

pub answered_law : NoneUnanswered
answered_law s schedule h is =
    either {P = AnswersAll s (final s schedule)} s
    (λ own. (let k = calls_of s h own in answered_reverse s h k own schedule (mirrored s h k own schedule is)))
    (λ own. answered_plain s schedule (plain_of s h own) is)
