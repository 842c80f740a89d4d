use Rattle.std.proofs.Common.{arith, ap, ◌∙◌, ◌+◌}
use Rattle.std.proofs.lemmas.Result.{err_from_is_err_and}
use Rattle.ua_value.specs.Array.{items_at}
use Rattle.ua_value.proofs.Items.{goes_on, ends, is_done}
use Rattle.ua_value.proofs.Rooms.{by_read, by_limit, by_count}
use Rattle.ua_value.proofs.wire.Wire.read_into.Goals as goal

pub returns-in_err-item-clause-gives : goal.returns-in_err-item-clause-gives
returns-in_err-item-clause-gives g c =
    let p = err_from_is_err_and c.from_residual-in_err-item.result c.from_residual-in_err-item.ensures.1 in
    rw (p.1, p.2) (ends g.Self.Wire.format.grammar c.in_err-item.field-0.0 c.values.items.items c.args.count c.values.read c.values.rest.now (items_at g.Self.Wire.format.grammar c.args.count c.args.input.now) c.values-test.true c.in_err-item.ensures.gives c.values.invariant.so_far)

pub values-preserved : goal.values-preserved
values-preserved g c = record {
  within = omega (arith, c.values.invariant.within, c.in_ok-item.ensures.shorter);
  so_far = rw (c.push_reserved.ensures.items, c.in_ok-make_room.ensures.items) (goes_on g.Self.Wire.format.grammar c.values.items.items c.args.count c.values.read c.values.rest.now c.in_ok-item.item c.in_ok-item.after.now (items_at g.Self.Wire.format.grammar c.args.count c.args.input.now) c.values-test.true c.in_ok-item.ensures.gives c.values.invariant.so_far);
  as_many = c.push_reserved.ensures.len ∙ ap (λ n. n + 1) (c.in_ok-make_room.ensures.len ∙ c.values.invariant.as_many);
  read = by_read _ _ _ _ _ _ c.push_reserved.ensures.capacity (c.push_reserved.ensures.len ∙ ap (λ n. n + 1) c.in_ok-make_room.ensures.len) c.in_ok-make_room.ensures.read c.values.invariant.read;
  limit = by_limit _ _ _ _ _ _ c.args.limit c.push_reserved.ensures.capacity (c.push_reserved.ensures.len ∙ ap (λ n. n + 1) c.in_ok-make_room.ensures.len) c.in_ok-make_room.ensures.limit c.values.invariant.limit;
  count = by_count _ _ _ c.args.count _ _ c.push_reserved.ensures.capacity c.values.invariant.as_many c.values-test.true c.in_ok-make_room.ensures.count c.values.invariant.count;
}

pub returns-clause-gives : goal.returns-clause-gives
returns-clause-gives g c = is_done g.Self.Wire.format.grammar c.values.items.items c.args.count c.values.read c.values.rest.now (items_at g.Self.Wire.format.grammar c.args.count c.args.input.now) (omega (arith, c.values-test.false)) c.values.invariant.so_far
