use Rattle.std.proofs.Common.{length}
use Rattle.std.specs.List.{flat_map}
use Rattle.ua_value.proofs.Chunks.{Wrote}
use Rattle.ua_value.proofs.bulk.emit_fixed.Given as goal

abbrev pub invariant-loop-rest : goal.invariant-loop-rest
invariant-loop-rest g l = Wrote (g.S.Sink.contents l.fn.out) (g.S.Sink.contents l.out) (flat_map g.T.Fixed.format.canon l.items) (flat_map g.T.Fixed.format.canon l.rest)

abbrev pub decreases-loop-rest : goal.decreases-loop-rest
decreases-loop-rest g l = length l.rest
