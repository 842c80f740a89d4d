use Rattle.std.proofs.Common.{◌≡◌, false}
use Rattle.ua_test_chunks.proofs.assembling.run.Given as goal

abbrev pub invariant-loop-row : goal.invariant-loop-row
invariant-loop-row l = l.assembly.whole ≡ false
