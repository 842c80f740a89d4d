use Rattle.std.proofs.Common.{◌≡◌, ◌++◌, take}
use Rattle.std.specs.List.{flat_map}
use Rattle.ua_value.proofs.wire.Wire.emit_items.Given as goal

abbrev pub invariant-loop-item : goal.invariant-loop-item
invariant-loop-item g l = g.S.Sink.contents l.out ≡ g.S.Sink.contents l.fn.out ++ flat_map g.Self.Wire.format.canon (take l.item-index l.items)
