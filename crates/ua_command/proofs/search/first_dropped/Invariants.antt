use Rattle.std.proofs.Common.{◌-◌, ◌≤◌, length}
use Rattle.ua_command.specs.Search.{AreKept}
use Rattle.ua_command.proofs.search.first_dropped.Given as goal

abbrev pub invariant-runs : goal.invariant-runs
invariant-runs l = record {
  within : l.at ≤ length l.line;
  kept : AreKept l.line 0 l.at;
}

abbrev pub decreases-runs : goal.decreases-runs
decreases-runs l = length l.line - l.at

abbrev pub invariant-bytes : goal.invariant-bytes
invariant-bytes l = record {
  within : l.at ≤ length l.line;
  kept : AreKept l.line 0 l.at;
}

abbrev pub decreases-bytes : goal.decreases-bytes
decreases-bytes l = length l.line - l.at
