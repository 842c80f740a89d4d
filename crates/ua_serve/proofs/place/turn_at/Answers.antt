use Rattle.std.proofs.Common.{◌≡◌, Some, None, sym, refl, ◌∙◌, rules, w64}
use Rattle.std.proofs.lemmas.Int.{to_z-of_z}
use mir.Val.{SFits}
use Rattle.ua_serve.proofs.PlaceLemmas.{one_place}
use Rattle.ua_serve.proofs.StepLemmas.{moved}
use Rattle.ua_serve.proofs.place.turn_at.Goals as goal

pub returns-in_default-over : goal.returns-in_default-over
returns-in_default-over g c = λ settings p e.
    let same : c.in-Taken.taken ≡ p = one_place c.in-Taken.taken p (sym c.in-Taken.is ∙ e) in
    moved _ _ settings c.args.patience _ _ _ _ _ c.in-Taken.taken p c.turn-turn.new.self c.turn-turn.result None _ same (c.turn-turn.ensures settings) c.in_default-over.is refl _ c.has_moved.ensures

pub returns : goal.returns
returns g c = λ settings p e.
    let fits : SFits w64 c.args.moment = search rules in
    let same : c.in-Taken.taken ≡ p = one_place c.in-Taken.taken p (sym c.in-Taken.is ∙ e) in
    moved _ _ settings c.args.patience _ _ _ _ _ c.in-Taken.taken p c.turn-turn.new.self c.turn-turn.result (Some c.in-Some.over) _ same (c.turn-turn.ensures settings) c.in-Some.is (simp to_z-of_z at (c.part.ensures c.turn-turn.new.self refl)) _ c.lingers.ensures
