use Rattle.std.proofs.Common.{◌≡◌, ◌+◌, ◌*◌, map}
use Rattle.ua_variant.specs.Values.{depth, element_depth, items_depth, data_depth, items_of}
use Rattle.ua_variant.specs.View.{element}
use Rattle.ua_json.specs.Nesting.{place, array}
use Rattle.ua_json.proofs.variant.+put.Given as goal

abbrev pub decreases-put_variant : goal.decreases-put_variant
decreases-put_variant l = 8 * depth l.value.now + 1

abbrev pub decreases-put_body : goal.decreases-put_body
decreases-put_body l = 8 * depth l.value.now

abbrev pub decreases-put_elements : goal.decreases-put_elements
decreases-put_elements l = 8 * items_depth (items_of (map element l.elements.now)) + 4

abbrev pub decreases-put_element : goal.decreases-put_element
decreases-put_element l = 8 * element_depth (element l.item.now) + 3

abbrev pub decreases-put_data : goal.decreases-put_data
decreases-put_data l = 8 * data_depth l.value.now + 1

-- the array is open
abbrev pub invariant-put_elements-loop-item : goal.invariant-put_elements-loop-item
invariant-put_elements-loop-item l = place l.line.json.tokens ≡ array (place l.fn.line.json.tokens)
