use Rattle.std.proofs.Common.{◌≡◌, drop, map}
use Rattle.ua_variant.specs.Making.{are_of}
use Rattle.ua_variant.specs.View.{kind_of, element}
use Rattle.ua_variant.proofs.making.are_of.Given as goal

abbrev pub invariant-loop-item : goal.invariant-loop-item
invariant-loop-item l = are_of (kind_of l.kind) (map element (drop l.item-index l.items)) ≡ are_of (kind_of l.kind) (map element l.items)
