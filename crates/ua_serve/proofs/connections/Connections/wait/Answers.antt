use Rattle.std.proofs.Common.{rules, w64, refl}
use Rattle.std.proofs.lemmas.Int.{to_z-of_z}
use mir.Val.{SFits}
use Rattle.ua_serve.proofs.WaitLemmas.{asked_twice, wakes_all}
use Rattle.ua_serve.proofs.connections.Connections.wait.Goals as goal

pub returns-clause-waits : goal.returns-clause-waits
returns-clause-waits g c =
    let before = c.now-self-inside.result in
    let after = c.now-self-inside-2.result in
    let fits : SFits w64 before = search rules in
    let fits' : SFits w64 after = search rules in
    let soonest = simp to_z-of_z at c.longest_wait-at_most.ensures in
    rw (← c.self.view_is) (simp to_z-of_z (record {
      before = before;
      at_most = c.longest_wait-at_most.result;
      times = asked_twice _ _ _ before after c.now-self-inside.ensures c.now-self-inside-2.ensures;
      soonest = soonest;
      waits = c.wait-waited.ensures.waits;
      wakes = wakes_all c.self.inside.ready.items c.deref_mut.result.now c.wait-waited.new.ready c.self.inside.ready.len c.deref_mut.ensures.value c.self.inside.ready.ok.0 c.wait-waited.ensures.wakes;
      others = refl;
    }))
