use Rattle.std.proofs.Common.{◌≡◌, ◌<◌, ◌++◌, ◌∷◌, [], Ok, length, get_or, arith, sym, length-append}
use Rattle.std.proofs.lemmas.List.{get_or_read}
use Rattle.std.proofs.lemmas.Result.{err_from_is_err_and}
use Rattle.std.specs.Fmt.{decimal}
use Rattle.toml.specs.View.{view, array_view}
use Rattle.ua_disco.specs.Paths.{path_text}
use Rattle.ua_disco.specs.Reading.{items_value}
use Rattle.ua_disco.proofs.EachItem.{goes_on, ends, is_done, all_push}
use Rattle.ua_disco.proofs.reading.read_items.Goals as goal

pub loop-index-preserved : goal.loop-index-preserved
loop-index-preserved g c =
    let values = c.args.values.now.items in
    let i = c.loop-index.index in
    let d = c.index.result.now in
    let within : i < length values = omega (arith, c.loop-index-test.true, c.len-index-end.ensures) in
    let at : get_or values i d ≡ d = sym (get_or_read values _ _ within c.index.ensures d) in
    let read : g.T.FromValue.rule (path_text c.args.path.now ++ 46 ∷ decimal i) (view (get_or values i d)) ≡ Ok c.in_ok-item.item = rw (at, ← c.item_path-at.ensures) c.in_ok-item.ensures.gives in
    rw c.in-Ok.ensures.items (
      goes_on g.T.FromValue.rule (path_text c.args.path.now) c.loop-index.items.items values i d c.in_ok-item.item (items_value g.T.FromValue.rule (path_text c.args.path.now) 0 (array_view c.args.values.now)) within read c.loop-index.invariant.0,
      all_push g.T.FromValue.keeps c.loop-index.items.items c.in_ok-item.item c.loop-index.invariant.1 c.in_ok-item.ensures.kept,
      omega (arith, length-append c.loop-index.items.items (c.in_ok-item.item ∷ []), c.loop-index.invariant.2),
    )

pub returns-in_err-item-clause-gives : goal.returns-in_err-item-clause-gives
returns-in_err-item-clause-gives g c =
    let p = err_from_is_err_and c.from_residual.result c.from_residual.ensures.1 in
    let values = c.args.values.now.items in
    let d = c.index.result.now in
    let within : c.loop-index.index < length values = omega (arith, c.loop-index-test.true, c.len-index-end.ensures) in
    let at : get_or values c.loop-index.index d ≡ d = sym (get_or_read values _ _ within c.index.ensures d) in
    rw (p.1, p.2) (ends g.T.FromValue.rule (path_text c.args.path.now) c.in_err-item.field-0.0 c.loop-index.items.items values c.loop-index.index d (path_text c.item_path-at.result) (items_value g.T.FromValue.rule (path_text c.args.path.now) 0 (array_view c.args.values.now)) within c.item_path-at.ensures at c.in_err-item.ensures.gives c.loop-index.invariant.0)

pub returns-clause-gives : goal.returns-clause-gives
returns-clause-gives g c =
    is_done g.T.FromValue.rule (path_text c.args.path.now) c.loop-index.items.items c.args.values.now.items c.loop-index.index _ (omega (arith, c.loop-index-test.false, c.len-index-end.ensures)) c.loop-index.invariant.0
