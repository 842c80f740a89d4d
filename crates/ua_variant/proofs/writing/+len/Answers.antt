use Rattle.std.proofs.Common.{ap, arith, rules}
use Rattle.ua_variant.specs.Values.{depth}
use Rattle.ua_variant.proofs.Arrays.{this_within, short, alike, array_depth}
use Rattle.ua_variant.proofs.Widths.{list_of}
use Rattle.ua_variant.specs.View.{kind_of}
use Rattle.ua_variant.proofs.writing.+len.Goals as goal

pub items_len-element_len-total-requires : goal.items_len-element_len-total-requires
items_len-element_len-total-requires t c =
    let below = this_within c.args.items.now c.loop-item.item-index c.item-item.result c.loop-item-test.true c.item-item.is in
    (omega (arith, below, c.decreases), tt)

pub variant_len-list_len-requires : goal.variant_len-list_len-requires
variant_len-list_len-requires t c =
    let a = c.in-Array in
    let less = array_depth c.value.inside.body a.kind a.items a.lengths a.is in
    let same = ap depth c.value.view_is in
    (omega (arith, less, same, c.decreases), (short c.value.inside.body a.kind a.items a.lengths a.is c.value.invariant.value, alike c.value.inside.body a.kind a.items a.lengths a.is c.value.invariant.value))

pub list_len-returns-else-width-eq0-clause-length : goal.list_len-returns-else-width-eq0-clause-length
list_len-returns-else-width-eq0-clause-length t c =
    list_of (kind_of c.args.kind) c.width-width.result c.len.result c.args.items.now c.in-Some.items c.in-Some.is c.requires.same c.width-width.ensures (search rules) (search rules)
