use Rattle.std.proofs.Common.{◌≡◌, ◌+◌, ◌*◌, drop, map, length}
use Rattle.ua_variant.specs.Values.{depth, element_depth, items_depth, data_depth, list_depth, items_of}
use Rattle.ua_variant.specs.Lists.{canon_of_items}
use Rattle.ua_variant.specs.View.{element, items_in}
use Rattle.ua_variant.proofs.writing.+len.Given as goal

abbrev pub decreases-variant_len : goal.decreases-variant_len
decreases-variant_len l = 8 * depth l.value.now + 1

abbrev pub decreases-items_len : goal.decreases-items_len
decreases-items_len l = 8 * items_depth (items_of (map element l.items.now)) + 3

abbrev pub decreases-list_len : goal.decreases-list_len
decreases-list_len l = 8 * list_depth (items_in l.items.now) + 4

abbrev pub decreases-element_len : goal.decreases-element_len
decreases-element_len l = 8 * element_depth (element l.item.now) + 2

abbrev pub decreases-data_len : goal.decreases-data_len
decreases-data_len l = 8 * data_depth l.value.now + 1

abbrev pub invariant-items_len-loop-item : goal.invariant-items_len-loop-item
invariant-items_len-loop-item l = l.total + length (canon_of_items (map element (drop l.item-index l.items))) ≡ length (canon_of_items (map element l.items))
