use Rattle.std.proofs.Common.{◌+◌, arith, ap, length, length-append, length-drop, drop}
use Rattle.std.specs.List.{flat_map}
use Rattle.std.proofs.lemmas.List.{nil_from_length}
use Rattle.ua_value.proofs.Items.{here, flat_here}
use Rattle.ua_value.proofs.array.len_of_items.Goals as goal

pub overflow_add-total : goal.overflow_add-total
overflow_add-total g c =
    let f = g.T.Wire.format in
    let e = flat_here f.canon c.args.items.now c.loop-item.item-index c.item-item.result c.loop-item-test.true c.item-item.is in
    omega (arith, c.requires, ap length e, c.loop-item.invariant.sum, c.len-total.ensures.length, length-append (f.canon c.item-item.result) (flat_map f.canon (drop (c.loop-item.item-index + 1) c.args.items.now)))

pub loop-item-preserved : goal.loop-item-preserved
loop-item-preserved g c =
    let f = g.T.Wire.format in
    let e = flat_here f.canon c.args.items.now c.loop-item.item-index c.item-item.result c.loop-item-test.true c.item-item.is in
    record {
      sum = omega (arith, ap length e, c.loop-item.invariant.sum, c.len-total.ensures.length, length-append (f.canon c.item-item.result) (flat_map f.canon (drop (c.loop-item.item-index + 1) c.args.items.now)));
      values = λ rest. c.loop-item.invariant.values (rw (here c.args.items.now c.loop-item.item-index c.item-item.result c.loop-item-test.true c.item-item.is) (c.len-total.ensures.value, rest));
    }

pub returns-clause-length : goal.returns-clause-length
returns-clause-length g c =
    let gone = nil_from_length (drop c.loop-item.item-index c.args.items.now) (omega (arith, length-drop c.loop-item.item-index c.args.items.now)) in
    omega (arith, c.loop-item.invariant.sum, ap (λ vs. length (flat_map g.T.Wire.format.canon vs)) gone)

pub returns-clause-values : goal.returns-clause-values
returns-clause-values g c =
    let gone = nil_from_length (drop c.loop-item.item-index c.args.items.now) (omega (arith, length-drop c.loop-item.item-index c.args.items.now)) in
    c.loop-item.invariant.values (rw gone tt)
