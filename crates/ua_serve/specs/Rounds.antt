-- Rounds: a step of each place in turn.
use Rattle.std.specs.Prelude.{◌≡◌, ℕ, zero, suc, ℤ, List, Option}
use Rattle.ua_link.specs.Turns.{Seen}
use Rattle.ua_link.specs.declared.ready_link.Call.{Call}
use Rattle.ua_serve.specs.declared.place.Step.{Step}
use Rattle.ua_serve.specs.Places.{Crowd}
use Rattle.ua_serve.specs.Looks.{Look}
use Rattle.ua_serve.specs.Steps.{Steps}

-- The first n places had a step each, in their order: each from what the one before it left, and none had another.
abbrev pub Rounds : {L : Type 0} → (L → Seen) → (L → Option (List Call)) → ℕ → Option (List ℤ) → Option (List ℤ) → Option (List ℤ) → Option (List ℤ) → Option (List Look) → Option (List Look) → Crowd L → Crowd L → Type 0
Rounds seen tried zero asked asked' timed timed' sought sought' old new = (asked' ≡ asked) × (timed' ≡ timed) × (sought' ≡ sought) × (new ≡ old)
Rounds {L} seen tried (suc n) asked asked' timed timed' sought sought' old new =
    (before : Option (List ℤ)) × ((moments : Option (List ℤ)) × ((looks : Option (List Look)) × ((mid : Crowd L) × ((step : Step) ×
    (Rounds seen tried n asked before timed moments sought looks old mid × Steps seen tried before asked' moments timed' looks sought' mid new n step)))))
