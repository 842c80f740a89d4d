use Rattle.std.proofs.Common.{◌≡◌, ◌≤◌, length, take, map}
use Rattle.ua_value.proofs.bulk.read_fixed.Given as goal

abbrev pub invariant-loop-chunk : goal.invariant-loop-chunk
invariant-loop-chunk g l = record { values : l.items.items ≡ map g.T.Fixed.value (take l.chunk-index l.chunks); len : l.items.len ≡ l.chunk-index; room : length l.chunks ≤ l.items.cap }
