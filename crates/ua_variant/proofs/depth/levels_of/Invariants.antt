use Rattle.std.proofs.Common.{◌≡◌, ◌≤◌, max, map, drop}
use Rattle.ua_variant.specs.Values.{items_depth, items_of, deepest}
use Rattle.ua_variant.specs.Spelling.{AreSound}
use Rattle.ua_variant.specs.View.{element}
use Rattle.ua_variant.proofs.depth.levels_of.Given as goal

abbrev pub invariant-loop-item : goal.invariant-loop-item
invariant-loop-item l = record {
  depth : max l.most (items_depth (items_of (map element (drop l.item-index l.items)))) ≡ items_depth (items_of (map element l.items));
  most : l.most ≤ deepest;
  values : AreSound (items_of (map element (drop l.item-index l.items))) → AreSound (items_of (map element l.items));
}
