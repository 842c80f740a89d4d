use Rattle.std.proofs.Common.{rules, w64, ◌∙◌, sym, Some, None}
use Rattle.std.proofs.lemmas.Int.{to_z-of_z}
use mir.Val.{SFits}
use Rattle.ua_serve.proofs.LingerLemmas.{one_link, lasts}
use Rattle.ua_serve.proofs.place.linger_at.Goals as goal

pub returns-in-Some : goal.returns-in-Some
returns-in-Some g c = λ l e.
    let fits : SFits w64 c.args.now = search rules in
    lasts _ _ c.args.now c.args.is_ready c.in-Lingering.link l c.step.new.self c.step.result (Some c.in-Some.more) (one_link c.in-Lingering.link l (sym c.in-Lingering.is ∙ e)) (simp to_z-of_z at c.step.ensures) c.in-Some.is

pub returns-in-None : goal.returns-in-None
returns-in-None g c = λ l e.
    let fits : SFits w64 c.args.now = search rules in
    lasts _ _ c.args.now c.args.is_ready c.in-Lingering.link l c.step.new.self c.step.result None (one_link c.in-Lingering.link l (sym c.in-Lingering.is ∙ e)) (simp to_z-of_z at c.step.ensures) c.in-None.is
