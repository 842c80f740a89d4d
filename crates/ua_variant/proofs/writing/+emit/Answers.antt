use Rattle.std.proofs.Common.{◌∙◌, ◌++◌, List, ℕ, ap, sym, arith, rules}
use Rattle.std.specs.List.{flat_map}
use Rattle.std.proofs.lemmas.List.{take_all}
use Rattle.std.proofs.lemmas.Result.{err_from_is_err_and}
use Rattle.ua_variant.specs.Values.{depth}
use Rattle.ua_value.proofs.Items.{appends_part}
use Rattle.ua_variant.proofs.Arrays.{this_within, spelled, canon_flat, short, array_depth, cut_in_list, cut_in_shape, all_put}
use Rattle.ua_variant.proofs.writing.+emit.Goals as goal

pub emit_items-emit_one-requires : goal.emit_items-emit_one-requires
emit_items-emit_one-requires g t c κs within =
    let below = this_within c.args.items.now c.loop-item.item-index c.item-item.result c.loop-item-test.true c.item-item.is in
    (omega (arith, below, c.decreases), search rules)

pub emit_items-returns-in_err-emit_one-clause-err : goal.emit_items-returns-in_err-emit_one-clause-err
emit_items-returns-in_err-emit_one-clause-err g t c =
    let p = err_from_is_err_and c.from_residual.result c.from_residual.ensures.1 in
    rw p.1 (rw (canon_flat c.args.items.now) (appends_part spelled c.args.items.now c.loop-item.item-index c.item-item.result (g.S.Sink.contents c.args.out.now) (g.S.Sink.contents c.loop-item.out) (g.S.Sink.contents c.emit_one.new.out)
    c.loop-item-test.true c.item-item.is c.loop-item.invariant c.in_err-emit_one.ensures.err))

pub emit_items-returns-clause-ok : goal.emit_items-returns-clause-ok
emit_items-returns-clause-ok g t c =
    let whole = take_all c.loop-item.item-index c.args.items.now (omega arith) in
    c.loop-item.invariant ∙ ap (λ es. g.S.Sink.contents c.args.out.now ++ flat_map spelled es) whole ∙ ap (λ (b : List ℕ). g.S.Sink.contents c.args.out.now ++ b) (sym (canon_flat c.args.items.now))

pub emit_variant-emit_list-requires : goal.emit_variant-emit_list-requires
emit_variant-emit_list-requires g t c κs within =
    let a = c.in-Array in
    let less = array_depth c.value.inside.body a.kind a.items a.lengths a.is in
    let same = ap depth c.value.view_is in
    (omega (arith, less, same, c.decreases), (search rules, short c.value.inside.body a.kind a.items a.lengths a.is c.value.invariant.value))

pub emit_variant-returns-in_err-emit_list-in-Array-clause-err : goal.emit_variant-returns-in_err-emit_list-in-Array-clause-err
emit_variant-returns-in_err-emit_list-in-Array-clause-err g t c =
    let a = c.in-Array in
    let p = err_from_is_err_and c.from_residual-in_err-emit_list-in-Array.result c.from_residual-in_err-emit_list-in-Array.ensures.1 in
    rw p.1 (cut_in_list c.value.inside.body a.kind a.items a.lengths a.is c.args.value.now c.value.view_is c.array_head.result c.array_head.ensures
    (g.S.Sink.contents c.args.out.now) (g.S.Sink.contents c.put-in-Array.new.self) (g.S.Sink.contents c.emit_list.new.out) c.in_ok-put-in-Array.ensures c.in_err-emit_list-in-Array.ensures.err)

pub emit_variant-returns-in_err-emit_shape-in-Array-clause-err : goal.emit_variant-returns-in_err-emit_shape-in-Array-clause-err
emit_variant-returns-in_err-emit_shape-in-Array-clause-err g t c =
    let a = c.in-Array in
    let p = err_from_is_err_and c.from_residual-in_err-emit_shape-in-Array.result c.from_residual-in_err-emit_shape-in-Array.ensures.1 in
    rw p.1 (cut_in_shape c.value.inside.body a.kind a.items a.lengths a.is c.args.value.now c.value.view_is c.array_head.result c.array_head.ensures
    (g.S.Sink.contents c.args.out.now) (g.S.Sink.contents c.put-in-Array.new.self) (g.S.Sink.contents c.emit_list.new.out) (g.S.Sink.contents c.emit_shape.new.out) c.in_ok-put-in-Array.ensures c.in_ok-emit_list-in-Array.ensures.ok c.in_err-emit_shape-in-Array.ensures.err)

pub emit_variant-returns-in_ok-emit_shape-in-Array-clause-ok : goal.emit_variant-returns-in_ok-emit_shape-in-Array-clause-ok
emit_variant-returns-in_ok-emit_shape-in-Array-clause-ok g t c =
    let a = c.in-Array in
    all_put c.value.inside.body a.kind a.items a.lengths a.is c.args.value.now c.value.view_is c.array_head.result c.array_head.ensures
    (g.S.Sink.contents c.args.out.now) (g.S.Sink.contents c.put-in-Array.new.self) (g.S.Sink.contents c.emit_list.new.out) (g.S.Sink.contents c.emit_shape.new.out) c.in_ok-put-in-Array.ensures c.in_ok-emit_list-in-Array.ensures.ok c.in_ok-emit_shape-in-Array.ensures.ok
