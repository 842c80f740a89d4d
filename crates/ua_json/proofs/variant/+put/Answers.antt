use Rattle.std.proofs.Common.{arith}
use Rattle.ua_variant.proofs.Arrays.{this_within}
use Rattle.ua_json.proofs.Levels.{less_deep}
use Rattle.ua_json.proofs.variant.+put.Goals as goal

pub put_body-put_elements-requires : goal.put_body-put_elements-requires
put_body-put_elements-requires t c =
    let below = less_deep c.args.value.now _ c.in-Some-elements.ensures in
    (omega (arith, below, c.decreases), tt)

pub put_elements-put_element-requires : goal.put_elements-put_element-requires
put_elements-put_element-requires t c =
    let below = this_within c.args.elements.now c.loop-item.item-index c.item-item.result c.loop-item-test.true c.item-item.is in
    (omega (arith, below, c.decreases), tt)
