use Rattle.std.proofs.Common.{◌≡◌, ◌+◌, ◌≤◌, ◌++◌, length, drop}
use Rattle.std.specs.Fmt.{decimal}
use Rattle.ua_print.proofs.row.put_digits.Given as goal

abbrev pub invariant-pairs : goal.invariant-pairs
invariant-pairs l = record {
  within : l.at ≤ l.end;
  long : length l.row ≡ 256;
  count : l.at + length (decimal l.n) ≡ l.end + length (decimal l.left);
  told : decimal l.left ++ drop l.at l.row ≡ decimal l.n ++ drop l.end l.fn.row;
}

abbrev pub decreases-pairs : goal.decreases-pairs
decreases-pairs l = l.left
