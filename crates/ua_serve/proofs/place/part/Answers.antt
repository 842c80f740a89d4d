use Rattle.std.proofs.Common.{rules, w64, ◌∙◌, subst}
use Rattle.std.proofs.lemmas.Int.{to_z-of_z}
use mir.Val.{SFits}
use Rattle.ua_serve.specs.declared.place.Place.{Place}
use Rattle.ua_serve.specs.Turn.{seen_by}
use Rattle.ua_serve.specs.Steps.{Ends}
use Rattle.ua_serve.proofs.PlaceLemmas.{one_place}
use Rattle.ua_serve.proofs.place.part.Goals as goal

pub returns-in-Taken : goal.returns-in-Taken
returns-in-Taken g c = λ p e.
    let fits : SFits w64 c.args.now = search rules in
    let same = one_place c.in-Taken.place p (c.in-Taken.ensures.value ∙ e) in
    subst (λ (q : Place g.row.L.Denot). Ends (seen_by g.L.ReadyLink.input g.L.ReadyLink.output g.L.ReadyLink.fault_count) g.L.ReadyLink.tried c.args.now q c.args.over c.behind.result) same (simp to_z-of_z at c.behind.ensures)
