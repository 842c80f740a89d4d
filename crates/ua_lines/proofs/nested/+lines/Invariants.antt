use Rattle.std.proofs.Common.{◌+◌, ◌*◌, map}
use Rattle.ua_variant.specs.Values.{depth, element_depth, items_depth, data_depth, items_of}
use Rattle.ua_variant.specs.View.{element}
use Rattle.ua_lines.proofs.nested.+lines.Given as goal

abbrev pub decreases-add_element : goal.decreases-add_element
decreases-add_element l = 4 * element_depth (element l.item.now) + 1

abbrev pub decreases-add_variant : goal.decreases-add_variant
decreases-add_variant l = 4 * depth l.value.now

abbrev pub decreases-add_items : goal.decreases-add_items
decreases-add_items l = 4 * items_depth (items_of (map element l.items.now)) + 2

abbrev pub decreases-add_data : goal.decreases-add_data
decreases-add_data l = 4 * data_depth l.value.now
