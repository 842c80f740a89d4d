-- A story in which the server opens the connection, told as a whole: the ReverseHello alone, or what the client opens behind it.
use Rattle.std.proofs.Common.{◌≡◌, true, List, [], ◌++◌, length, Some, None, sym, ap, subst, ◌∙◌, arith}
use Rattle.std.specs.Prelude.{ℤ}
use Rattle.std.proofs.lemmas.List.{append-nil, length-append}
use Rattle.ua_frame.specs.Streams.{TimedByte, plain, cuts_within, rest_within}
use Rattle.ua_frame.specs.StreamLaws.{length_plain}
use Rattle.ua_conn.specs.server.Faults.{fault_in_rest}
use Rattle.ua_conn.specs.server.Replies.{handed, end_of}
use Rattle.ua_conn.specs.server.Held.{stop}
use Rattle.ua_conn.specs.Story.{Setup, World, server_stream, begun, final, story_in, story_of}
use Rattle.ua_conn.specs.Reverse.{opened_by_client, called_alone, said_before, IsOpened, not_yet, behind_it, OpenedAsByClient}
use Rattle.ua_conn.specs.declared.schedule.Step.{Step}
use Rattle.ua_conn.proofs.ClientEnd.BehindLemmas.{asked_same}
use Rattle.ua_conn.proofs.BothEnds.MirrorLemmas.{Calls, calls_of, called, turned, Came, image, sends_image, says_image, still, Waits, waits_reading, waits_sends, first_stream, Mirrors, waits, goes, mirrored}
use Rattle.ua_conn.proofs.BothEnds.ReverseLemmas.{matches_image, fault_image, empty}

-- a part of the ReverseHello came
alone : (s : Setup) (k : Calls s) (clock : ℤ) (down : List TimedByte) → s.asker.reverse ≡ true → Waits s k down → story_in s (still clock down) ≡ called_alone s
unfolding cuts_within rest_within fault_in_rest
alone s k clock down own w = λ i. record {
  asked = [];
  handed = [];
  answers = empty s k down w i;
  up = waits_sends s k down own w i;
  down = (first_stream s k own ∙ sym k.says) i;
  server_end = None;
  client_fault = (waits_reading s k down w i).fault;
}

-- it came whole, and the other story stands behind it
story_image : (s : Setup) (k : Calls s) (start : ℤ) (call : List TimedByte) (w : World) → s.asker.reverse ≡ true → Came s k call →
    story_in s (image call w) ≡ said_before (called k) (story_in (turned s k start) w)
story_image s k start call w own c = λ i. record {
  asked = asked_same (length (plain call)) w.cmds i;
  handed = handed s.site w.up;
  answers = matches_image s k call w own c i;
  up = sends_image s k start call w own c i;
  down = (says_image s k start call w own c ∙ ap (λ l. l ++ server_stream (turned s k start) w) c.bytes) i;
  server_end = stop (end_of s.site w.up);
  client_fault = fault_image s k call w own c i;
}

opened_reverse : (s : Setup) (k : Calls s) → s.asker.reverse ≡ true → (schedule : List Step) → Mirrors s k (begun s) schedule → IsOpened s k.hello.endpoint_url schedule
opened_reverse s k own schedule (waits clock down lt w e) =
    not_yet
    (omega (arith, ap (λ (x : World). length x.down) e, ap length w.whole, length-append (plain down) w.left, length_plain down, w.some, ap length k.says))
    (ap (story_in s) e ∙ alone s k clock down own w)
opened_reverse s k own schedule (goes start call before es lt c is cut came e) =
    let clock : (final s before).clock ≡ start = ap (λ (x : World). x.clock) came in
    behind_it before es cut
    (ap (λ (x : World). plain x.down) came ∙ ap plain (append-nil call) ∙ c.bytes ∙ sym k.says)
    (ap (story_in s) e ∙ story_image s k start call (final (turned s k start) es) own c
    ∙ (λ i. said_before (sym k.says i) (story_of (opened_by_client s k.hello.endpoint_url (sym clock i)) es)))

pub opened_law : OpenedAsByClient
opened_law s url schedule h is own first =
    let k = calls_of s h own in
    let same : Some k.hello.endpoint_url ≡ Some url = sym k.named ∙ first in
    subst (λ u. IsOpened s u schedule) (cc same) (opened_reverse s k own schedule (mirrored s h k own schedule is))
