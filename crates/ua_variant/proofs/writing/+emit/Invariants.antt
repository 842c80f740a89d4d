use Rattle.std.proofs.Common.{◌≡◌, ◌+◌, ◌*◌, ◌++◌, take, map}
use Rattle.ua_variant.specs.Values.{depth, element_depth, items_depth, data_depth, list_depth, items_of}
use Rattle.ua_variant.specs.View.{element, items_in}
use Rattle.std.specs.List.{flat_map}
use Rattle.ua_variant.proofs.Arrays.{spelled}
use Rattle.ua_variant.proofs.writing.+emit.Given as goal

abbrev pub decreases-emit_variant : goal.decreases-emit_variant
decreases-emit_variant g l = 8 * depth l.value.now + 1

abbrev pub decreases-emit_items : goal.decreases-emit_items
decreases-emit_items g l = 8 * items_depth (items_of (map element l.items.now)) + 4

abbrev pub decreases-emit_list : goal.decreases-emit_list
decreases-emit_list g l = 8 * list_depth (items_in l.items.now) + 5

abbrev pub decreases-emit_one : goal.decreases-emit_one
decreases-emit_one g l = 8 * element_depth (element l.item.now) + 3

abbrev pub decreases-emit_element : goal.decreases-emit_element
decreases-emit_element g l = 8 * element_depth (element l.item.now) + 2

abbrev pub decreases-emit_data : goal.decreases-emit_data
decreases-emit_data g l = 8 * data_depth l.value.now + 1

abbrev pub invariant-emit_items-loop-item : goal.invariant-emit_items-loop-item
invariant-emit_items-loop-item g l = g.S.Sink.contents l.out ≡ g.S.Sink.contents l.fn.out ++ flat_map spelled (take l.item-index l.items)
