use Rattle.std.proofs.Common.{rules, w64, to_z, of_z}
use mir.Val.{SFits}
use Rattle.ua_conn.specs.Between.{run_of}
use Rattle.ua_conn.specs.client.Commands as commands
use Rattle.std.proofs.lemmas.Int.{to_z-of_z}
use Rattle.ua_conn.proofs.BothEnds.BetweenCommandLemmas.{told_on, told_off}
use Rattle.ua_conn.proofs.conversation.ends.Ends.ask.Goals as goal

pub returns-in_ok-send : goal.returns-in_ok-send
returns-in_ok-send c =
    let fits : SFits w64 c.args.self.now.clock = search rules in
    λ s w. told_on s w (run_of c.args.self.now) (commands.Ask c.args.request.now c.args.part_limit) (to_z w64 (of_z w64 c.args.self.now.clock)) c.in_ok-ask.field-0 c.ask.new.client c.send.new.client c.keep.new.asked.items c.send.new.up.items
    (to_z-of_z w64 c.args.self.now.clock fits) c.if-branch.true c.in_ok-ask.ensures c.in_ok-send.ensures.client c.in_ok-send.ensures.up c.in_ok-keep.ensures

pub returns-else-branch : goal.returns-else-branch
returns-else-branch c =
    λ s w. told_off s w (run_of c.args.self.now) (commands.Ask c.args.request.now c.args.part_limit) (to_z w64 (of_z w64 c.args.self.now.clock)) c.in_ok-ask.field-0 c.ask.new.client c.if-branch.false c.in_ok-ask.ensures
