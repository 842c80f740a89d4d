use Rattle.std.proofs.Common.{ap, ◌∙◌}
use Rattle.ua_conn.specs.Between.{run_of}
use Rattle.ua_conn.specs.Conversing.{setup_of}
use Rattle.ua_conn.specs.Story.{Story, begun}
use Rattle.ua_conn.specs.declared.story.Story as declared
use Rattle.ua_conn.proofs.BothEnds.BetweenRunLemmas.{story_is}
use Rattle.ua_conn.proofs.BothEnds.ToldLemmas.{told_is, in_order, own, unrefused, whole}
use Rattle.ua_conn.proofs.conversation.converse.Goals as goal

pub returns-in-Ok-clause-asked : goal.returns-in-Ok-clause-asked
returns-in-Ok-clause-asked c =
    let s = setup_of c.args.setup.now in
    ap (λ (t : declared.Story). t.asked.items) c.into_story.ensures ∙ ap (λ (t : Story). t.asked) (story_is s c.args.schedule.now (run_of c.run.new.self) (c.in-Ok.ensures s (begun s) c.in_ok-ends.ensures))

pub returns-in-Ok-clause-handed : goal.returns-in-Ok-clause-handed
returns-in-Ok-clause-handed c =
    let s = setup_of c.args.setup.now in
    ap (λ (t : declared.Story). t.handed.items) c.into_story.ensures ∙ ap (λ (t : Story). t.handed) (story_is s c.args.schedule.now (run_of c.run.new.self) (c.in-Ok.ensures s (begun s) c.in_ok-ends.ensures))

pub returns-in-Ok-clause-answers : goal.returns-in-Ok-clause-answers
returns-in-Ok-clause-answers c =
    let s = setup_of c.args.setup.now in
    ap (λ (t : declared.Story). t.answers.items) c.into_story.ensures ∙ ap (λ (t : Story). t.answers) (story_is s c.args.schedule.now (run_of c.run.new.self) (c.in-Ok.ensures s (begun s) c.in_ok-ends.ensures))

pub returns-in-Ok-clause-up : goal.returns-in-Ok-clause-up
returns-in-Ok-clause-up c =
    let s = setup_of c.args.setup.now in
    ap (λ (t : declared.Story). t.up.items) c.into_story.ensures ∙ ap (λ (t : Story). t.up) (story_is s c.args.schedule.now (run_of c.run.new.self) (c.in-Ok.ensures s (begun s) c.in_ok-ends.ensures))

pub returns-in-Ok-clause-down : goal.returns-in-Ok-clause-down
returns-in-Ok-clause-down c =
    let s = setup_of c.args.setup.now in
    ap (λ (t : declared.Story). t.down.items) c.into_story.ensures ∙ ap (λ (t : Story). t.down) (story_is s c.args.schedule.now (run_of c.run.new.self) (c.in-Ok.ensures s (begun s) c.in_ok-ends.ensures))

pub returns-in-Ok-clause-server_end : goal.returns-in-Ok-clause-server_end
returns-in-Ok-clause-server_end c =
    let s = setup_of c.args.setup.now in
    ap (λ (t : declared.Story). t.server_end) c.into_story.ensures ∙ ap (λ (t : Story). t.server_end) (story_is s c.args.schedule.now (run_of c.run.new.self) (c.in-Ok.ensures s (begun s) c.in_ok-ends.ensures))

pub returns-in-Ok-clause-client_fault : goal.returns-in-Ok-clause-client_fault
returns-in-Ok-clause-client_fault c =
    let s = setup_of c.args.setup.now in
    ap (λ (t : declared.Story). t.client_fault) c.into_story.ensures ∙ ap (λ (t : Story). t.client_fault) (story_is s c.args.schedule.now (run_of c.run.new.self) (c.in-Ok.ensures s (begun s) c.in_ok-ends.ensures))

pub returns-in-Ok-clause-in_order : goal.returns-in-Ok-clause-in_order
returns-in-Ok-clause-in_order c =
    let s = setup_of c.args.setup.now in
    in_order s c.args.schedule.now _ (told_is s c.args.schedule.now _ c.run.new.self c.into_story.ensures (c.in-Ok.ensures s (begun s) c.in_ok-ends.ensures)) c.setup_is_in_range.ensures c.schedule_is_valid.ensures

pub returns-in-Ok-clause-own : goal.returns-in-Ok-clause-own
returns-in-Ok-clause-own c =
    let s = setup_of c.args.setup.now in
    own s c.args.schedule.now _ (told_is s c.args.schedule.now _ c.run.new.self c.into_story.ensures (c.in-Ok.ensures s (begun s) c.in_ok-ends.ensures)) c.setup_is_in_range.ensures c.schedule_is_valid.ensures

pub returns-in-Ok-clause-unrefused : goal.returns-in-Ok-clause-unrefused
returns-in-Ok-clause-unrefused c =
    let s = setup_of c.args.setup.now in
    unrefused s c.args.schedule.now _ (told_is s c.args.schedule.now _ c.run.new.self c.into_story.ensures (c.in-Ok.ensures s (begun s) c.in_ok-ends.ensures)) c.setup_is_in_range.ensures c.schedule_is_valid.ensures

pub returns-in-Ok-clause-whole : goal.returns-in-Ok-clause-whole
returns-in-Ok-clause-whole c =
    let s = setup_of c.args.setup.now in
    whole s c.args.schedule.now _ (told_is s c.args.schedule.now _ c.run.new.self c.into_story.ensures (c.in-Ok.ensures s (begun s) c.in_ok-ends.ensures)) c.setup_is_in_range.ensures c.schedule_is_valid.ensures
