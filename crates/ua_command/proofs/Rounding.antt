-- Rounds of several connections.
use Rattle.std.proofs.Common.{arith, ◌≡◌, ℕ, suc, ◌+◌, ℤ, List, Option, subst}
use Rattle.ua_link.specs.Turns.{Seen}
use Rattle.ua_link.specs.declared.ready_link.Call.{Call}
use Rattle.ua_serve.specs.declared.place.Step.{Step}
use Rattle.ua_serve.specs.Places.{Crowd}
use Rattle.ua_serve.specs.Looks.{Look}
use Rattle.ua_serve.specs.Steps.{Steps}
use Rattle.ua_serve.specs.Rounds.{Rounds}

-- the step of one place more
pub one_more : {L : Type 0} (seen : L → Seen) (tried : L → Option (List Call)) (n : ℕ) (asked before asked' timed moments timed' : Option (List ℤ)) (sought looks sought' : Option (List Look)) (old mid new : Crowd L) (step : Step) →
    Rounds seen tried n asked before timed moments sought looks old mid → Steps seen tried before asked' moments timed' looks sought' mid new n step → Rounds seen tried (n + 1) asked asked' timed timed' sought sought' old new
one_more {L} seen tried n asked before asked' timed moments timed' sought looks sought' old mid new step rounds steps =
    let next : suc n ≡ n + 1 = omega arith in
    subst (λ k. Rounds seen tried k asked asked' timed timed' sought sought' old new) next (before, (moments, (looks, (mid, (step, (rounds, steps))))))
