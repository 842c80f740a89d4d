use Rattle.std.proofs.Common.{◌≤◌, ◌-◌, ◌^◌}
use Rattle.ua_stream.specs.Run.{Gives}
use Rattle.ua_stream.proofs.parts.advance.Given as goal

abbrev pub invariant-loop-run : goal.invariant-loop-run
invariant-loop-run l = record { given : Gives l.parts l.from l.next l.initial.ready.items l.ready.items; within : l.next ≤ 2 ^ 62 }

abbrev pub decreases-loop-run : goal.decreases-loop-run
decreases-loop-run l = 2 ^ 62 - l.next
