use Rattle.std.proofs.Common.{arith}
use Rattle.ua_variant.proofs.Arrays.{this_within}
use Rattle.ua_lines.proofs.nested.+lines.Goals as goal

pub add_items-add_element-requires : goal.add_items-add_element-requires
add_items-add_element-requires t c =
    let below = this_within c.args.items.now c.loop-place.place c.index-items-place.result c.loop-place-test.true c.index-items-place.is in
    (omega (arith, below, c.decreases), tt)
