use Rattle.std.proofs.Common.{rules, w64, ◌≡◌, Some, true, false, refl, slice_get}
use Rattle.std.proofs.lemmas.Int.{to_z-of_z}
use Rattle.std.proofs.lemmas.Option.{slice_get_read}
use mir.Val.{SFits}
use Rattle.ua_serve.specs.Places.{is_ready}
use Rattle.ua_serve.specs.Steps.{is_due}
use Rattle.ua_serve.proofs.StepLemmas.{due_so, rests, turns}
use Rattle.ua_serve.proofs.connections.Connections.turn.Goals as goal

pub returns-then-not-is_due : goal.returns-then-not-is_due
returns-then-not-is_due g c =
    let fits : SFits w64 c.self.inside.moment = search rules in
    let seat = c.in-Some.seat.now in
    let there : slice_get c.self.inside.places.items c.args.place ≡ Some seat = slice_get_read _ _ _ _ refl c.in-Some.ensures.item.3.0 c.in-Some.ensures.item.1 in
    let ready = rw (← c.self.view_is) at c.is_ready-is_ready.ensures in
    let due = simp to_z-of_z at c.is_due.ensures in
    let is : is_due seat (is_ready c.self.inside.ready.items c.args.place) c.self.inside.moment c.self.inside.patience ≡ false = due_so seat _ _ c.self.inside.moment c.self.inside.patience c.is_due.result false ready due c.if-not-is_due.true in
    rw (← c.self.view_is) (λ p has. rests _ _ _ _ _ _ c.args.place seat p there has is refl)

pub returns : goal.returns
returns g c =
    let fits : SFits w64 c.self.inside.moment = search rules in
    let seat = c.in-Some.seat.now in
    let there : slice_get c.self.inside.places.items c.args.place ≡ Some seat = slice_get_read _ _ _ _ refl c.in-Some.ensures.item.3.0 c.in-Some.ensures.item.1 in
    let ready = rw (← c.self.view_is) at c.is_ready-is_ready.ensures in
    let due = simp to_z-of_z at c.is_due.ensures in
    let is : is_due seat (is_ready c.self.inside.ready.items c.args.place) c.self.inside.moment c.self.inside.patience ≡ true = due_so seat _ _ c.self.inside.moment c.self.inside.patience c.is_due.result true ready due c.if-not-is_due.false in
    rw (← c.self.view_is) (λ p has. turns _ _ _ _ _ _ _ _ c.args.place seat c.turn_at-is_ready.new.seat c.turn_at-is_ready.result.0 c.turn_at-is_ready.result.1 p there has is (λ same. simp to_z-of_z at (c.turn_at-is_ready.ensures c.self.inside.settings.now p same)) c.note.ensures)
