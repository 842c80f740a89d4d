use Rattle.std.proofs.Common.{◌≡◌, ◌∙◌, ap, sym}
use Rattle.ua_serve.specs.Places.{Crowd}
use Rattle.ua_serve.proofs.connections.Connections.is_done.Goals as goal

pub returns-then-self-eq0 : goal.returns-then-self-eq0
returns-then-self-eq0 g c =
    let e : c.deref.result.now ≡ c.args.self.now.places = c.deref.ensures.value ∙ ap (λ (v : Crowd g.row.L.Denot). v.places) c.self.view_is in
    let left : c.args.self.now.left ≡ 0 = sym (ap (λ (v : Crowd g.row.L.Denot). v.left) c.self.view_is) ∙ c.if-self-eq0.true in
    let all = rw e at c.are_free.ensures in (λ t. (left, all.0 t), λ p. all.1 p.1)
