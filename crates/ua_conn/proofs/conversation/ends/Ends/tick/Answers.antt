use Rattle.std.proofs.Common.{rules, w64, pos, ◌+ℤ◌, ap, ◌∙◌}
use Rattle.std.specs.Int.{saturate_signed}
use mir.Val.{SFits}
use Rattle.std.proofs.lemmas.Int.{to_z-of_z}
use Rattle.ua_conn.specs.Between.{run_of}
use Rattle.ua_conn.proofs.BothEnds.BetweenTickLemmas.{ticked_on}
use Rattle.ua_conn.proofs.conversation.ends.Ends.tick.Goals as goal

pub returns : goal.returns
returns c =
    let fits : SFits w64 c.args.self.now.clock = search rules in
    let z = c.saturating_add_unsigned-self.result in
    let shown : SFits w64 z = search rules in
    λ s w. ticked_on s w (run_of c.args.self.now) c.args.n z _ fits (c.saturating_add_unsigned-self.ensures ∙ ap (λ t. saturate_signed w64 (t +ℤ pos c.args.n)) (to_z-of_z w64 c.args.self.now.clock fits)) (to_z-of_z w64 z shown)
