-- The law of both ends, its third part: while the tokens live that are used, once all is delivered none is unanswered.
use Rattle.std.proofs.Common.{◌≡◌, ◌<◌, ◌^◌, max, List, [], length, Some, None, sym, ap, ◌∙◌, arith, ◌⊎◌, inl, inr}
use Rattle.std.proofs.lemmas.List.{length-map}
use Rattle.ua_frame.specs.Streams.{plain, rest_of}
use Rattle.ua_frame.specs.Layout.{frames_of}
use Rattle.ua_frame.specs.Beginnings.{all_came, moments_are}
use Rattle.ua_conn.specs.server.Feeding.{replies_of}
use Rattle.ua_conn.specs.server.Replies.{replies, requests, reading_of}
use Rattle.ua_conn.specs.client.Commands.{Asked, asked_in}
use Rattle.ua_conn.specs.client.Reading.{ClientReading, client_fault, answers, matched}
use Rattle.ua_conn.specs.Story.{Setup, World, final}
use Rattle.ua_conn.specs.BothEnds.{Delivered, served_by, IsSchedule}
use Rattle.ua_conn.specs.declared.client.fault.ClientFault.{ClientFault}
use Rattle.ua_conn.specs.declared.schedule.Step.{Step}
use Rattle.ua_conn.proofs.BothEnds.ClosingLemmas.{sent_ends, reads_all}
use Rattle.ua_conn.proofs.BothEnds.FaithfulLemmas.{prefix_self}
use Rattle.ua_conn.proofs.BothEnds.InvariantForms.{Comes}
use Rattle.ua_conn.proofs.BothEnds.InvariantLemmas.{inv}
use Rattle.ua_conn.proofs.BothEnds.OnTheWayLemmas.{frames_sent, frames_replied, Are, past_of}
use Rattle.ua_conn.proofs.BothEnds.OpeningKeepLemmas.{sent_are, replied_are}
use Rattle.ua_conn.proofs.BothEnds.OrderLemmas.{order_requests, requests_served}
use Rattle.ua_conn.proofs.BothEnds.SpokenLemmas.{spelled_list, are_frames}
use Rattle.ua_conn.proofs.BothEnds.SpokenReplyLemmas.{replies_spoken, replies_spelled, replies_sized, stream_fits}
use Rattle.ua_conn.proofs.BothEnds.StoryBaseLemmas.{Base, here_of, sends}
use Rattle.ua_conn.proofs.BothEnds.StoryLemmas.{HaveSizes, all_spoken, all_spelled, all_sized, sent_sized}
use Rattle.ua_conn.proofs.BothEnds.UnrefusedLemmas.{lives, calm_replies}
use Rattle.ua_conn.proofs.BothEnds.PlainForms.{IsPlain, plain_stream, AnswersAll}

sizes_of : (s : Setup) → IsPlain s → (w : World) → Base s w → HaveSizes (sends s w)
sizes_of s h w i = sent_sized s.asker w.cmds (here_of s w) h.plain (h.asker.url h.plain) i.cut

-- all frames came to the server,
up_whole : (s : Setup) → IsPlain s → (w : World) → Base s w → Delivered s w → Are (frames_of w.up) (frames_sent s.asker.first_sequence 0 (sends s w))
up_whole s h w i d =
    let first = s.asker.first_sequence in
    let xs = sends s w in
    let spoken = all_spoken first 0 xs in
    (all_came (spelled_list spoken) w.up (are_frames spoken (all_sized first 0 xs (sizes_of s h w i))) (d.up ∙ all_spelled first 0 xs)).0 ∙ sym (sent_are first 0 xs)

-- and to the client
down_whole : (s : Setup) → IsPlain s → (w : World) → Delivered s w → Are (frames_of w.down) (frames_replied s.site 0 (replies_of s.site w.up))
down_whole s h w d =
    let site = s.site in
    let all = replies_of site w.up in
    let limit = max 8192 site.settings.limits.send in
    let sized = replies_sized site 0 limit all (omega (arith, h.site.settings.bounds.limits.send_most)) (stream_fits site w.up limit (omega arith) (omega arith)) in
    (all_came (spelled_list (replies_spoken site 0 all)) w.down (are_frames (replies_spoken site 0 all) sized) (d.down ∙ plain_stream s h w ∙ replies_spelled site 0 all)).0 ∙ sym (replied_are site 0 all)

settled_all : (s : Setup) (w : World) → Base s w → client_fault s.asker w.cmds w.down ≡ None → w.settled ≡ w.down
settled_all s w i none = by i.settles.settled
  where
    by : (w.settled ≡ w.down) ⊎ ((fault : ClientFault) × (client_fault s.asker w.cmds w.down ≡ Some fault)) → w.settled ≡ w.down
    by (inl same) = same
    by (inr fault) = absurd (let clash : None ≡ Some fault.0 = sym none ∙ fault.1 in cc clash)

pub answered_plain : (s : Setup) (schedule : List Step) → IsPlain s → IsSchedule schedule → AnswersAll s (final s schedule)
answered_plain s schedule h is live d =
    let w = final s schedule in
    let i = inv s h schedule is in
    let site = s.site in
    let first = s.asker.first_sequence in
    let xs = sends s w in
    let l = lives s h w i live in
    let us = frames_of w.up in
    let vs = frames_of w.down in
    let up = up_whole s h w i.base d in
    let reads : (reading_of site w.up).past ≡ past_of us = reads_all site [] first 0 xs us (plain (rest_of w.up)) l.stands up (sizes_of s h w i.base) (sent_ends s.asker w.cmds (here_of s w) i.base.settles.last) in
    let said : replies_of site w.up ≡ replies site (past_of us) = calm_replies s w l.calm ∙ ap (replies site) reads in
    let comes : Comes s xs w.up us vs =
    record { front = prefix_self us; sent = up; clock = moments_are (λ m. m < 2 ^ 63) w.up i.base.timely.up; replied = down_whole s h w d ∙ ap (frames_replied site 0) said } in
    let b = l.bears us vs comes in
    let fault : client_fault s.asker w.cmds w.down ≡ None = ap (λ (R : ClientReading). R.fault) l.reads in
    let settled = settled_all s w i.base fault in
    let matches : matched s.asker w.cmds w.settled ≡ answers w.cmds (past_of vs) = ap (matched s.asker w.cmds) settled ∙ ap (λ (R : ClientReading). answers w.cmds R.past) l.reads in (
      ap (requests site) reads ∙ requests_served site (past_of us) ∙ order_requests s (asked_in w.cmds) (served_by site (past_of us)) (answers w.cmds (past_of vs)) b.many_served b.many_answers b.order,
      omega (arith, ap length matches, b.many_answers, length-map (asked_in w.cmds) (λ (a : Asked). a.request)),
    )
