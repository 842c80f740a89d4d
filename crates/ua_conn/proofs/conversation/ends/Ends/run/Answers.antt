use Rattle.std.proofs.Common.{rules, ◌≡◌, sym, subst, get_or}
use Rattle.ua_conn.specs.Between.{Between, run_of}
use Rattle.ua_conn.specs.Story.{happens}
use Rattle.ua_conn.specs.declared.schedule.Step.{Step}
use Rattle.ua_conn.proofs.BothEnds.BetweenRunLemmas.{one_step, all_steps}
use Rattle.ua_conn.proofs.conversation.ends.Ends.run.Goals as goal

pub steps-init : goal.steps-init
steps-init c = λ s w b. b

pub steps-preserved : goal.steps-preserved
steps-preserved c = λ s w b.
    let schedule = c.args.schedule.now in
    let item = c.step-item.result in
    let is : get_or schedule c.steps.step-index item ≡ item = search rules in
    one_step s w schedule c.steps.step-index item (run_of c.steps.self) (run_of c.step.new.self) c.steps-test.true (c.steps.invariant s w b)
    (λ v d. subst (λ (e : Step). Between s (happens s v e) (run_of c.step.new.self)) (sym is) (c.in_ok-step.ensures s v d))

pub returns : goal.returns
returns c = λ s w b. all_steps s w c.args.schedule.now c.steps.step-index (run_of c.steps.self) c.steps-test.false (c.steps.invariant s w b)
