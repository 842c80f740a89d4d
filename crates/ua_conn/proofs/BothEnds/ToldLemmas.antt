-- What the law of both ends says of the story that a caller is given.
use mathlib.Core.List.{IsPrefix}
use Rattle.std.proofs.Common.{◌≡◌, List, length, Some, None, sym, ap, subst, ◌∙◌, ◌⊎◌}
use Rattle.ua_conn.specs.client.Commands.{asked_in}
use Rattle.ua_conn.specs.Story.{Setup, Story, begun, run, final, story_of}
use Rattle.ua_conn.specs.BothEnds.{IsSetup, IsSchedule, TokensLive, Delivered, served, AnswersInOrder}
use Rattle.ua_conn.specs.Between.{Between, run_of}
use Rattle.ua_conn.specs.declared.conversation.ends.Ends.{Ends}
use Rattle.ua_conn.specs.declared.outcome.End.TheVariants.{Closed}
use Rattle.ua_conn.specs.declared.schedule.Step.{Step}
use Rattle.ua_conn.specs.declared.story.Story as given
use Rattle.ua_conn.proofs.BothEnds.BetweenRunLemmas.{story_is}
use Rattle.ua_conn.proofs.BothEnds.ReverseLemmas.{handed_law, unrefused_law, answered_law}

-- ---- it is that of the definitions

abbrev pub told : given.Story → Story
told t = record {
  asked = t.asked.items;
  handed = t.handed.items;
  answers = t.answers.items;
  up = t.up.items;
  down = t.down.items;
  server_end = t.server_end;
  client_fault = t.client_fault;
}

pub told_is : (s : Setup) (schedule : List Step) (t : given.Story) (ends : Ends) → t ≡ ends.story → Between s (run s (begun s) schedule) (run_of ends) → told t ≡ story_of s schedule
told_is s schedule t ends is b = ap told is ∙ story_is s schedule (run_of ends) b

-- ---- so that the law holds of it

pub in_order : (s : Setup) (schedule : List Step) (t : Story) → t ≡ story_of s schedule → IsSetup s → IsSchedule schedule → IsPrefix t.handed t.asked
in_order s schedule t e h is = subst (λ (t : Story). IsPrefix t.handed t.asked) (sym e) (handed_law s schedule h is).0

pub own : (s : Setup) (schedule : List Step) (t : Story) → t ≡ story_of s schedule → IsSetup s → IsSchedule schedule →
    (let w = final s schedule in AnswersInOrder s (asked_in w.cmds) (served s w) t.answers)
own s schedule t e h is =
    let w = final s schedule in
    subst (λ (t : Story). AnswersInOrder s (asked_in w.cmds) (served s w) t.answers) (sym e) (handed_law s schedule h is).1

pub unrefused : (s : Setup) (schedule : List Step) (t : Story) → t ≡ story_of s schedule → IsSetup s → IsSchedule schedule → TokensLive (final s schedule) →
    ((t.server_end ≡ None) ⊎ (t.server_end ≡ Some Closed)) × (t.client_fault ≡ None)
unrefused s schedule t e h is live = subst (λ (t : Story). ((t.server_end ≡ None) ⊎ (t.server_end ≡ Some Closed)) × (t.client_fault ≡ None)) (sym e) (unrefused_law s schedule h is live)

pub whole : (s : Setup) (schedule : List Step) (t : Story) → t ≡ story_of s schedule → IsSetup s → IsSchedule schedule → TokensLive (final s schedule) → Delivered s (final s schedule) →
    (t.handed ≡ t.asked) × (length t.answers ≡ length t.asked)
whole s schedule t e h is live all = subst (λ (t : Story). (t.handed ≡ t.asked) × (length t.answers ≡ length t.asked)) (sym e) (answered_law s schedule h is live all)
