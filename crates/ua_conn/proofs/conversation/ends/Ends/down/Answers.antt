use Rattle.std.proofs.Common.{rules, w64, to_z, of_z, length, ◌<◌}
use mir.Val.{SFits}
use Rattle.std.proofs.lemmas.Int.{to_z-of_z}
use Rattle.ua_conn.specs.Between.{run_of}
use Rattle.ua_conn.proofs.BothEnds.BetweenClientLemmas.{heard_step}
use Rattle.ua_conn.proofs.BothEnds.BetweenCallLemmas.{on_ok_both}
use Rattle.ua_conn.proofs.conversation.ends.Ends.down.Goals as goal

pub returns : goal.returns
returns c =
    let fits : SFits w64 c.args.self.now.clock = search rules in
    let small : length c.deref.result.now < 18446744073709551616 = search rules in
    on_ok_both c.send.result
    (λ emptied sent. heard_step (run_of c.args.self.now) c.args.n c.saturating_add-self.result (to_z w64 (of_z w64 c.args.self.now.clock)) c.deref.result.now c.piece-piece.result.now
    c.hear.new.client c.send.new.client c.hear.new.answers.items c.send.new.up.items c.hear.new.fault (to_z-of_z w64 c.args.self.now.clock fits) c.deref.ensures.value small c.piece-piece.ensures c.saturating_add-self.ensures c.in_ok-hear.ensures emptied sent)
    c.send.ensures.client c.send.ensures.up
