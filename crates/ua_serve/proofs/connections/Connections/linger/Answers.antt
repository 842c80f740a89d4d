use Rattle.std.proofs.Common.{rules, w64, ◌≡◌, Some, refl, slice_get}
use Rattle.std.proofs.lemmas.Int.{to_z-of_z}
use Rattle.std.proofs.lemmas.Option.{slice_get_read}
use mir.Val.{SFits}
use Rattle.ua_serve.proofs.StepLemmas.{fades}
use Rattle.ua_serve.proofs.connections.Connections.linger.Goals as goal

pub returns : goal.returns
returns g c =
    let fits : SFits w64 c.self.inside.moment = search rules in
    let seat = c.in-Some.held.now in
    let there : slice_get c.self.inside.places.items c.args.place ≡ Some seat = slice_get_read _ _ _ _ refl c.in-Some.ensures.item.3.0 c.in-Some.ensures.item.1 in
    let ready = rw (← c.self.view_is) at c.is_ready-is_ready.ensures in
    rw (← c.self.view_is) (λ asked timed l has. fades _ _ asked timed _ _ c.args.place seat c.linger_at-is_ready.new.seat c.is_ready-is_ready.result c.linger_at-is_ready.result l there has ready (λ same. simp to_z-of_z at (c.linger_at-is_ready.ensures l same)) c.note.ensures)
