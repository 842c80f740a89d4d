use Rattle.std.proofs.Common.{rules, w64, refl}
use Rattle.std.proofs.lemmas.Int.{to_z-of_z}
use mir.Val.{SFits}
use Rattle.ua_serve.specs.Admission.{begun}
use Rattle.ua_serve.proofs.StepLemmas.{can}
use Rattle.ua_serve.proofs.connections.Connections.admit.Goals as goal

pub returns-in-Link-clause-admits : goal.returns-in-Link-clause-admits
returns-in-Link-clause-admits g c =
    let now = c.now.result in
    let fits : SFits w64 now = search rules in
    let begins = simp to_z-of_z at c.begin.ensures in
    λ asked. begun (can c.args.self.now c.shut_for.result c.if-not-may_accept.ensures c.shut_for.ensures c.if-shut_for-gt0.false) c.in-Link.ensures.seeks refl c.in-Link.link now c.now.ensures begins
