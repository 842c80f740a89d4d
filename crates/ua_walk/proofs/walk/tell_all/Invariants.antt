use Rattle.std.proofs.Common.{◌≡◌, ◌+◌, ◌-◌, ◌≤◌, ℕ, List, ◌++◌, true, drop, length}
use Rattle.ua_walk.specs.Told.{Told, is_whole, Hears}
use Rattle.ua_walk.specs.Walk.{story_from}
use Rattle.ua_walk.proofs.walk.tell_all.Given as goal

abbrev pub invariant-frames : goal.invariant-frames
invariant-frames g l = record {
  within : l.used ≤ length l.bytes;
  told : (more : List Told) × Hears g.T.Teller.heard more l.fn.teller l.teller × (is_whole more ≡ true)
      × ((next : List ℕ) → story_from l.offset l.fn.half (l.bytes ++ next) ≡ more ++ story_from (l.offset + l.used) l.half (drop l.used l.bytes ++ next));
}

abbrev pub decreases-frames : goal.decreases-frames
decreases-frames g l = length l.bytes - l.used
