use Rattle.std.proofs.Common.{ap, arith, map}
use Rattle.ua_variant.specs.Values.{items_depth, items_of}
use Rattle.ua_variant.specs.View.{element}
use Rattle.ua_variant.proofs.Arrays.{this_within}
use Rattle.ua_variant.proofs.copying.+copy.Goals as goal

pub copy_items-copy_element-requires : goal.copy_items-copy_element-requires
copy_items-copy_element-requires t c =
    let below = this_within c.deref-item-items.result.now c.loop-item.item-index c.item-item.result c.loop-item-test.true c.item-item.is in
    let same = ap (λ es. items_depth (items_of (map element es))) c.deref-item-items.ensures.value in
    (omega (arith, below, same, c.decreases), tt)
