use Rattle.std.proofs.Common.{◌≡◌, Some, None, ◌∙◌, ap, sym, refl, slice_get}
use Rattle.std.proofs.lemmas.Option.{slice_get_read, slice_get_past}
use Rattle.ua_serve.specs.declared.place.Seat.TheVariants.{Free, Taken, Lingering}
use Rattle.ua_serve.specs.Places.{Crowd}
use Rattle.ua_serve.proofs.StepLemmas.{at_place, away}
use Rattle.ua_serve.proofs.connections.Connections.step_at.Goals as goal

pub returns-in-Some-Free-clause-steps : goal.returns-in-Some-Free-clause-steps
returns-in-Some-Free-clause-steps g c =
    let same : c.deref.result.now ≡ c.args.self.now.places = c.deref.ensures.value ∙ ap (λ (v : Crowd g.row.L.Denot). v.places) c.self.view_is in
    let read : slice_get c.deref.result.now c.args.place ≡ Some c.in-Some-Free.field-0.now = slice_get_read _ _ _ _ refl c.in-Some-Free.ensures.lookup.3.0 c.in-Some-Free.ensures.lookup.1 in
    let there : slice_get c.args.self.now.places c.args.place ≡ Some Free = ap (λ ps. slice_get ps c.args.place) (sym same) ∙ read ∙ ap Some c.in-Some-Free.field-0-is in
    at_place _ _ _ _ _ _ _ _ c.args.self.now c.admit.new.self c.args.place c.admit.result (Some Free) there (c.admit.ensures.admits _)

pub returns-in-Some-Free-clause-looks_away : goal.returns-in-Some-Free-clause-looks_away
returns-in-Some-Free-clause-looks_away g c = λ e.
    let same : c.deref.result.now ≡ c.args.self.now.places = c.deref.ensures.value ∙ ap (λ (v : Crowd g.row.L.Denot). v.places) c.self.view_is in
    let read : slice_get c.deref.result.now c.args.place ≡ Some c.in-Some-Free.field-0.now = slice_get_read _ _ _ _ refl c.in-Some-Free.ensures.lookup.3.0 c.in-Some-Free.ensures.lookup.1 in
    let there : slice_get c.args.self.now.places c.args.place ≡ Some Free = ap (λ ps. slice_get ps c.args.place) (sym same) ∙ read ∙ ap Some c.in-Some-Free.field-0-is in
    c.admit.ensures.looks_away (away c.args.self.now c.args.place there e)

pub returns-in-Some-Taken-clause-steps : goal.returns-in-Some-Taken-clause-steps
returns-in-Some-Taken-clause-steps g c =
    let p = c.in-Some-Taken.field-0-0 in
    let same : c.deref.result.now ≡ c.args.self.now.places = c.deref.ensures.value ∙ ap (λ (v : Crowd g.row.L.Denot). v.places) c.self.view_is in
    let read : slice_get c.deref.result.now c.args.place ≡ Some c.in-Some-Taken.field-0.now = slice_get_read _ _ _ _ refl c.in-Some-Taken.ensures.lookup.3.0 c.in-Some-Taken.ensures.lookup.1 in
    let there : slice_get c.args.self.now.places c.args.place ≡ Some (Taken p) = ap (λ ps. slice_get ps c.args.place) (sym same) ∙ read ∙ ap Some c.in-Some-Taken.field-0-is in
    at_place _ _ _ _ _ _ _ _ c.args.self.now c.turn.new.self c.args.place c.turn.result (Some (Taken p)) there (c.turn.ensures p there)

pub returns-in-Some-Lingering-clause-steps : goal.returns-in-Some-Lingering-clause-steps
returns-in-Some-Lingering-clause-steps g c =
    let l = c.in-Some-Lingering.field-0-0 in
    let same : c.deref.result.now ≡ c.args.self.now.places = c.deref.ensures.value ∙ ap (λ (v : Crowd g.row.L.Denot). v.places) c.self.view_is in
    let read : slice_get c.deref.result.now c.args.place ≡ Some c.in-Some-Lingering.field-0.now = slice_get_read _ _ _ _ refl c.in-Some-Lingering.ensures.lookup.3.0 c.in-Some-Lingering.ensures.lookup.1 in
    let there : slice_get c.args.self.now.places c.args.place ≡ Some (Lingering l) = ap (λ ps. slice_get ps c.args.place) (sym same) ∙ read ∙ ap Some c.in-Some-Lingering.field-0-is in
    at_place _ _ _ _ _ _ _ _ c.args.self.now c.linger.new.self c.args.place c.linger.result (Some (Lingering l)) there (c.linger.ensures _ _ l there)

pub returns-in-None-clause-steps : goal.returns-in-None-clause-steps
returns-in-None-clause-steps g c =
    let same : c.deref.result.now ≡ c.args.self.now.places = c.deref.ensures.value ∙ ap (λ (v : Crowd g.row.L.Denot). v.places) c.self.view_is in
    let there : slice_get c.args.self.now.places c.args.place ≡ None = ap (λ ps. slice_get ps c.args.place) (sym same) ∙ slice_get_past _ _ c.in-None.ensures.lookup.3 in
    at_place _ _ _ _ _ _ _ _ c.args.self.now c.args.self.now c.args.place _ None there (record { asks = refl; times = refl; same = refl; quiet = refl })
