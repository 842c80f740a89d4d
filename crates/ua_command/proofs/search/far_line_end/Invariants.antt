use Rattle.std.proofs.Common.{◌-◌, ◌≤◌, length}
use Rattle.ua_command.proofs.Dropped.{NoneBefore}
use Rattle.ua_command.proofs.search.far_line_end.Given as goal

abbrev pub invariant-runs : goal.invariant-runs
invariant-runs l = record {
  within : l.at ≤ length l.text;
  none : NoneBefore l.text l.at;
}

abbrev pub decreases-runs : goal.decreases-runs
decreases-runs l = length l.text - l.at

abbrev pub invariant-bytes : goal.invariant-bytes
invariant-bytes l = record {
  within : l.at ≤ length l.text;
  none : NoneBefore l.text l.at;
}

abbrev pub decreases-bytes : goal.decreases-bytes
decreases-bytes l = length l.text - l.at
