use Rattle.std.proofs.Common.{◌≤◌}
use denote.Param.Weighed.{most}
use Rattle.ua_variant.specs.declared.variant.DataValue.TheDeep.{deep-Element}
use Rattle.ua_variant.proofs.emptying.empty_each.Given as goal

abbrev pub invariant-loop-item : goal.invariant-loop-item
invariant-loop-item l = most deep-Element l.item-items ≤ most deep-Element l.fn.list.items
