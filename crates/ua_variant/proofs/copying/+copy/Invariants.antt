use Rattle.std.proofs.Common.{◌≡◌, ◌+◌, ◌*◌, map, take}
use Rattle.ua_variant.specs.Values.{depth, element_depth, items_depth, data_depth, list_depth, items_of}
use Rattle.ua_variant.specs.View.{element, items_in}
use Rattle.ua_variant.proofs.copying.+copy.Given as goal

abbrev pub decreases-copy_variant : goal.decreases-copy_variant
decreases-copy_variant l = 8 * depth l.value.now + 1

abbrev pub decreases-copy_items : goal.decreases-copy_items
decreases-copy_items l = 8 * items_depth (items_of (map element l.items.now.items)) + 4

abbrev pub decreases-copy_list : goal.decreases-copy_list
decreases-copy_list l = 8 * list_depth (items_in l.items.now.list) + 5

abbrev pub decreases-copy_element : goal.decreases-copy_element
decreases-copy_element l = 8 * element_depth (element l.item.now) + 3

abbrev pub decreases-copy_data : goal.decreases-copy_data
decreases-copy_data l = 8 * data_depth l.value.now + 1

abbrev pub invariant-copy_items-loop-item : goal.invariant-copy_items-loop-item
invariant-copy_items-loop-item l = map element l.copies.items ≡ map element (take l.item-index l.item-items)

abbrev pub decreases-copy_boxed_data : goal.decreases-copy_boxed_data
decreases-copy_boxed_data l = 8 * data_depth l.value.now.value + 2

abbrev pub decreases-copy_boxed_variant : goal.decreases-copy_boxed_variant
decreases-copy_boxed_variant l = 8 * depth l.value.now.value + 2
