use Rattle.std.proofs.Common.{◌≡◌, ◌++◌, ◌∷◌, [], arith, map, rules}
use Rattle.std.proofs.lemmas.Result.{err_from_is_err_and}
use Rattle.std.proofs.lemmas.List.{map_push}
use Rattle.ua_value.specs.Array.{items_at}
use Rattle.ua_value.specs.Sequence.{made}
use Rattle.ua_variant.specs.View.{element}
use Rattle.ua_value.proofs.Items.{goes_on, ends, is_done}
use Rattle.ua_variant.proofs.PlainSteps.{one_made, none_made}
use Rattle.ua_variant.proofs.leaves.each_of.Goals as goal

pub returns-in_err-value-clause-gives : goal.returns-in_err-value-clause-gives
returns-in_err-value-clause-gives g c =
    let values = made g.T.Leaf.wrap g.T.Wire.format.grammar in
    let p = err_from_is_err_and c.from_residual-in_err-value.result c.from_residual-in_err-value.ensures.1 in
    let none = none_made g.T.Leaf.wrap g.T.Wire.format.grammar c.in_err-value.field-0.0 c.loop.rest.now c.in_err-value.ensures.gives in
    rw (p.1, p.2) (ends values c.in_err-value.field-0.0 (map element c.loop.items.items) c.args.count c.loop.counter c.loop.rest.now (items_at values c.args.count c.args.input.now) c.loop-test.true none c.loop.invariant.so_far)

pub loop-preserved : goal.loop-preserved
loop-preserved g c =
    let values = made g.T.Leaf.wrap g.T.Wire.format.grammar in
    let e = c.into_element.result in
    let one = one_made g.T.Leaf.wrap g.T.Wire.format.grammar c.loop.rest.now c.in_ok-value.value (element e) c.in_ok-value.after.now c.in_ok-value.ensures.gives c.into_element.ensures in
    let items : map element c.push_reserved.new.self.items ≡ map element c.loop.items.items ++ element e ∷ [] = rw (c.push_reserved.ensures.items, c.reserve.ensures.items) (map_push element c.loop.items.items e) in
    record {
      within = omega (arith, c.loop.invariant.within, c.in_ok-value.ensures.shorter);
      so_far = rw items (goes_on values (map element c.loop.items.items) c.args.count c.loop.counter c.loop.rest.now (element e) c.in_ok-value.after.now (items_at values c.args.count c.args.input.now) c.loop-test.true one c.loop.invariant.so_far);
      counted = search rules;
    }

pub returns-clause-gives : goal.returns-clause-gives
returns-clause-gives g c =
    let values = made g.T.Leaf.wrap g.T.Wire.format.grammar in
    is_done values (map element c.loop.items.items) c.args.count c.loop.counter c.loop.rest.now (items_at values c.args.count c.args.input.now) (omega (arith, c.loop-test.false)) c.loop.invariant.so_far
