use Rattle.std.proofs.Common.{rules, w64, to_z, of_z, length, ◌<◌}
use mir.Val.{SFits}
use Rattle.std.proofs.lemmas.Int.{to_z-of_z}
use Rattle.ua_conn.specs.Between.{run_of}
use Rattle.ua_conn.proofs.BothEnds.BetweenServerLemmas.{served_step}
use Rattle.ua_conn.proofs.BothEnds.BetweenCallLemmas.{on_ok_one}
use Rattle.ua_conn.proofs.conversation.ends.Ends.up.Goals as goal

pub returns : goal.returns
returns c =
    let fits : SFits w64 c.args.self.now.clock = search rules in
    let small : length c.deref.result.now < 18446744073709551616 = search rules in
    on_ok_one c.serve.result
    (λ served. served_step (run_of c.args.self.now) c.args.n c.saturating_add-self.result (to_z w64 (of_z w64 c.args.self.now.clock)) c.deref.result.now c.piece-piece.result.now
    c.serve.new.server c.serve.new.down.items c.serve.new.handed.items c.serve.new.end (to_z-of_z w64 c.args.self.now.clock fits) c.deref.ensures.value small c.piece-piece.ensures c.saturating_add-self.ensures served)
    c.serve.ensures
