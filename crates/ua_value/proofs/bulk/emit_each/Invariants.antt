use Rattle.std.proofs.Common.{drop}
use Rattle.std.specs.List.{flat_map}
use Rattle.ua_value.proofs.Chunks.{Wrote}
use Rattle.ua_value.proofs.bulk.emit_each.Given as goal

abbrev pub invariant-loop-item : goal.invariant-loop-item
invariant-loop-item g l = Wrote (g.S.Sink.contents l.fn.out) (g.S.Sink.contents l.out) (flat_map g.T.Fixed.format.canon l.items) (flat_map g.T.Fixed.format.canon (drop l.item-index l.items))
