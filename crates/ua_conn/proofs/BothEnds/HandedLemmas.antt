-- The law of both ends, its first part: what is handed on is a beginning of what was asked, and what is accepted answers its own request.
use mathlib.Core.List.{IsPrefix}
use Rattle.std.proofs.Common.{false, List, sym, ap, subst, ◌∙◌}
use Rattle.ua_frame.specs.Streams.{TimedByte, plain}
use Rattle.ua_frame.specs.StreamLaws.{plain_append}
use Rattle.ua_conn.specs.server.Replies.{reading_of, reply_bytes}
use Rattle.ua_conn.specs.client.Commands.{asked_in}
use Rattle.ua_conn.specs.client.Reading.{answers}
use Rattle.ua_conn.specs.Story.{Setup, World, final}
use Rattle.ua_conn.specs.BothEnds.{served, AnswersInOrder, IsSchedule}
use Rattle.ua_conn.specs.declared.schedule.Step.{Step}
use Rattle.ua_conn.proofs.BothEnds.AcceptLemmas.{come}
use Rattle.ua_conn.proofs.BothEnds.FaithfulLemmas.{prefix_trans}
use Rattle.ua_conn.proofs.BothEnds.HandingLemmas.{Answered, HandsOn, answered, hands_on}
use Rattle.ua_conn.proofs.BothEnds.InvariantForms.{BearsAll, bears_of}
use Rattle.ua_conn.proofs.BothEnds.InvariantLemmas.{Stage, unasked, going, stopped, inv, unasked_bears}
use Rattle.ua_conn.proofs.BothEnds.StoryBaseLemmas.{Base, sends, up_are}
use Rattle.ua_conn.proofs.BothEnds.WayLemmas.{standing}
use Rattle.ua_conn.proofs.BothEnds.PlainForms.{IsPlain, plain_down, HandsAndAnswers}

-- in every world what stands at the server was asked, and any first replies to it answer that
record Fair (s : Setup) (w : World) : Type 0 where
  order : Answered s w.cmds (reading_of s.site w.up).past
  hands : HandsOn s w.cmds (reading_of s.site w.up).past

fair_of : (s : Setup) → IsPlain s → (w : World) → Base s w → BearsAll s w.cmds (sends s w) w.up → Fair s w
fair_of s h w i bears = record {
  order = answered s h w.cmds (sends s w) w.up (up_are s h w i) i.timely.up bears;
  hands = hands_on s w.cmds (sends s w) w.up (up_are s h w i) i.timely.up bears;
}

fair : (s : Setup) → IsPlain s → (w : World) → Base s w → Stage s w.cmds w.up w.down → Fair s w
fair s h w i (unasked none) = fair_of s h w i (unasked_bears s h w i none)
fair s h w i (going calm core) = fair_of s h w i (bears_of s w.cmds (come s w) (sends s w) w.up core)
fair s h w i (stopped status f dead order hands) = record { order = order; hands = hands }

settled_plain : (a b : List TimedByte) → IsPrefix a b → IsPrefix (plain a) (plain b)
settled_plain a b p = (plain p.0, sym (plain_append a p.0) ∙ ap plain p.1)

pub handed_plain : (s : Setup) (schedule : List Step) → IsPlain s → IsSchedule schedule → HandsAndAnswers s (final s schedule)
handed_plain s schedule h is =
    let w = final s schedule in
    let i = inv s h schedule is in
    let f = fair s h w i.base i.stage in
    let first = prefix_trans (plain w.settled) (plain w.down) (reply_bytes false s.site w.up) (settled_plain w.settled w.down i.base.settles.front) (plain_down s h w (plain w.down) i.base.flow.down) in
    let st = standing s w.cmds w.up w.settled h first in
    (f.hands, subst (λ past. AnswersInOrder s (asked_in w.cmds) (served s w) (answers w.cmds past)) (sym st.is) (f.order st.frames st.said st.are st.begins).0)
