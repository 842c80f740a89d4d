use Rattle.std.proofs.Common.{rules, w64, ◌∙◌, ap, sym}
use Rattle.std.proofs.lemmas.Int.{to_z-of_z}
use mir.Val.{SFits}
use Rattle.ua_serve.specs.declared.place.Seat.TheVariants.{Lingering}
use Rattle.ua_serve.specs.Steps.{lingering}
use Rattle.ua_serve.proofs.LingerLemmas.{same_seen}
use Rattle.ua_serve.proofs.place.behind.Goals as goal

pub returns : goal.returns
returns g c =
    let fits : SFits w64 c.args.now = search rules in
    lingering (sym c.lingers.ensures ∙ c.if-not-lingers.false) c.end_output.new.self (same_seen g.L.ReadyLink.input g.L.ReadyLink.output g.L.ReadyLink.fault_count c.args.place.link c.end_output.new.self c.end_output.ensures.input c.end_output.ensures.output c.end_output.ensures.uncounted)
    c.end_output.ensures.untried (ap Lingering (simp to_z-of_z at c.new.ensures))
