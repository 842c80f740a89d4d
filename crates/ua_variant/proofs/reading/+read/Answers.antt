use Rattle.std.proofs.Common.{◌≡◌, ◌≤◌, ◌∙◌, ◌++◌, ◌∷◌, [], Option, Some, List, ℕ, arith, refl, ap, sym, subst, map, rules}
use Rattle.std.proofs.lemmas.Result.{err_from_is_err_and}
use Rattle.std.proofs.lemmas.List.{map_push}
use Rattle.ua_value.specs.Format.{Fails}
use Rattle.ua_value.specs.Array.{items_at}
use Rattle.ua_variant.specs.Kinds.{kind_number, data_kind}
use Rattle.ua_variant.specs.declared.variant.Element.TheVariants as elements
use Rattle.ua_variant.specs.Values.{Variant, with_value}
use Rattle.ua_variant.specs.Reading.{behind_mask, within, elements_within}
use Rattle.ua_variant.specs.View.{kind_of, element, body_of}
use Rattle.ua_value.proofs.Items.{goes_on, ends, is_done}
use Rattle.ua_variant.proofs.PlainVariants.{one_plain}
use Rattle.ua_variant.proofs.Steps.{no_level, no_data_level, no_first, no_mask, one_level, one_data_level, is_variant, is_data_behind}
use Rattle.ua_variant.proofs.reading.+read.Goals as goal

pub data::data_within-returns-then-allowance-eq0-clause-gives : goal.data::data_within-returns-then-allowance-eq0-clause-gives
data::data_within-returns-then-allowance-eq0-clause-gives t c = no_data_level c.args.allowance c.args.input.now (omega arith)

pub data::data_within-returns-in_default-clause-gives : goal.data::data_within-returns-in_default-clause-gives
data::data_within-returns-in_default-clause-gives t c = no_mask c.args.allowance c.args.input.now (omega (arith, c.in_default.len_below))

pub data::data_within-returns-in_default-has_value-clause-gives : goal.data::data_within-returns-in_default-has_value-clause-gives
data::data_within-returns-in_default-has_value-clause-gives t c =
    let step = one_data_level c.args.allowance c.args.input.now (omega arith) (omega (arith, c.in-len1-up.len_at_least)) in
    rw step (search rules)

pub data::data_within-returns-then-not-some-clause-gives : goal.data::data_within-returns-then-not-some-clause-gives
data::data_within-returns-then-not-some-clause-gives t c =
    let step = one_data_level c.args.allowance c.args.input.now (omega arith) (omega (arith, c.in-len1-up.len_at_least)) in
    rw step (search rules)

pub data::data_within-returns-clause-gives : goal.data::data_within-returns-clause-gives
data::data_within-returns-clause-gives t c =
    let step = one_data_level c.args.allowance c.args.input.now (omega arith) (omega (arith, c.in-len1-up.len_at_least)) in
    rw step c.valued_data.ensures.gives

pub data::valued_data-of-requires : goal.data::valued_data-of-requires
data::valued_data-of-requires t c =
    let found : (behind_mask (within c.args.allowance) c.args.mask).front c.args.input.now ≡ Some (with_value c.in_ok-value.value c.in-Ok.stamps, c.in-Ok.rest.now) = search rules in
    is_data_behind c.args.allowance c.args.mask c.args.input.now _ _ c.requires.allowed c.ranges.mask.fits (λ i. omega (arith, c.type_inv.input i)) c.requires.short found

pub each_within-returns-in_err-item-clause-gives : goal.each_within-returns-in_err-item-clause-gives
each_within-returns-in_err-item-clause-gives t c =
    let g = elements_within c.args.allowance (kind_of c.args.kind) in
    let p = err_from_is_err_and c.from_residual-in_err-item.result c.from_residual-in_err-item.ensures.1 in
    rw (p.1, p.2) (ends g c.in_err-item.field-0.0 (map element c.loop.items.items) c.args.count c.loop.counter c.loop.rest.now (items_at g c.args.count c.args.input.now) c.loop-test.true c.in_err-item.ensures.gives c.loop.invariant.so_far)

pub each_within-loop-preserved : goal.each_within-loop-preserved
each_within-loop-preserved t c =
    let g = elements_within c.args.allowance (kind_of c.args.kind) in
    let e = c.in_ok-item.item in
    let items : map element c.push_reserved.new.self.items ≡ map element c.loop.items.items ++ element e ∷ [] = rw (c.push_reserved.ensures.items, c.reserve.ensures.items) (map_push element c.loop.items.items e) in
    record {
      within = omega (arith, c.loop.invariant.within, c.in_ok-item.ensures.shorter);
      so_far = rw items (goes_on g (map element c.loop.items.items) c.args.count c.loop.counter c.loop.rest.now (element e) c.in_ok-item.after.now (items_at g c.args.count c.args.input.now) c.loop-test.true c.in_ok-item.ensures.gives c.loop.invariant.so_far);
      counted = search rules;
    }

pub each_within-returns-clause-gives : goal.each_within-returns-clause-gives
each_within-returns-clause-gives t c =
    let g = elements_within c.args.allowance (kind_of c.args.kind) in
    is_done g (map element c.loop.items.items) c.args.count c.loop.counter c.loop.rest.now (items_at g c.args.count c.args.input.now) (omega (arith, c.loop-test.false)) c.loop.invariant.so_far

pub data::each_data-returns-in_err-item-clause-gives : goal.data::each_data-returns-in_err-item-clause-gives
data::each_data-returns-in_err-item-clause-gives t c =
    let g = elements_within c.args.allowance data_kind in
    let p = err_from_is_err_and c.from_residual-in_err-item.result c.from_residual-in_err-item.ensures.1 in
    rw (p.1, p.2) (ends g c.in_err-item.field-0.0 (map element c.loop.items.items) c.args.count c.loop.counter c.loop.rest.now (items_at g c.args.count c.args.input.now) c.loop-test.true c.in_err-item.ensures.gives c.loop.invariant.so_far)

pub data::each_data-loop-preserved : goal.data::each_data-loop-preserved
data::each_data-loop-preserved t c =
    let g = elements_within c.args.allowance data_kind in
    let e = elements.DataValue c.in_ok-item.item in
    let items : map element c.push_reserved.new.self.items ≡ map element c.loop.items.items ++ element e ∷ [] = rw (c.push_reserved.ensures.items, c.reserve.ensures.items) (map_push element c.loop.items.items e) in
    record {
      within = omega (arith, c.loop.invariant.within, c.in_ok-item.ensures.shorter);
      so_far = rw items (goes_on g (map element c.loop.items.items) c.args.count c.loop.counter c.loop.rest.now (element e) c.in_ok-item.after.now (items_at g c.args.count c.args.input.now) c.loop-test.true c.in_ok-item.ensures.gives c.loop.invariant.so_far);
      counted = search rules;
    }

pub data::each_data-returns-clause-gives : goal.data::each_data-returns-clause-gives
data::each_data-returns-clause-gives t c =
    let g = elements_within c.args.allowance data_kind in
    is_done g (map element c.loop.items.items) c.args.count c.loop.counter c.loop.rest.now (items_at g c.args.count c.args.input.now) (omega (arith, c.loop-test.false)) c.loop.invariant.so_far

pub variant_within-returns-then-allowance-eq0-clause-gives : goal.variant_within-returns-then-allowance-eq0-clause-gives
variant_within-returns-then-allowance-eq0-clause-gives t c = no_level c.args.allowance c.args.input.now (omega arith)

pub variant_within-returns-in_default-clause-gives : goal.variant_within-returns-in_default-clause-gives
variant_within-returns-in_default-clause-gives t c = no_first c.args.allowance c.args.input.now (omega (arith, c.in_default.len_below))

pub variant_within-returns-in_err-body-clause-gives : goal.variant_within-returns-in_err-body-clause-gives
variant_within-returns-in_err-body-clause-gives t c =
    let p = err_from_is_err_and c.from_residual.result c.from_residual.ensures.1 in
    let step = one_level c.args.allowance c.args.input.now (omega arith) (omega (arith, c.in-len1-up.len_at_least)) in
    rw (p.1, p.2) (subst (λ (r : Option (Variant × List ℕ)). Fails c.in_err-body.field-0.0 r) (sym step) c.in_err-body.ensures.gives)

pub variant_within-returns-then-is_plain-clause-gives : goal.variant_within-returns-then-is_plain-clause-gives
variant_within-returns-then-is_plain-clause-gives t c =
    let few : kind_number (kind_of c.in-Some.kind) ≤ 22 = c.if-is_plain.ensures.0 refl in
    rw (one_plain c.args.allowance c.args.input.now (kind_of c.in-Some.kind) (omega arith) (omega (arith, c.in-len1-up.len_at_least)) c.if-head-eq0.true c.if-head-eq0-2.true (sym c.in-Some.ensures) few) c.plain_variant.ensures.gives

pub variant_within-of-requires : goal.variant_within-of-requires
variant_within-of-requires t c =
    let step = one_level c.args.allowance c.args.input.now (omega arith) (omega (arith, c.in-len1-up.len_at_least)) in
    is_variant c.args.allowance c.args.input.now (body_of c.in_ok-body.body) c.in_ok-body.rest.now c.requires.allowed (λ i. omega (arith, c.type_inv.input i)) c.requires.short (step ∙ c.in_ok-body.ensures.gives)

pub variant_within-returns-clause-gives : goal.variant_within-returns-clause-gives
variant_within-returns-clause-gives t c =
    let step = one_level c.args.allowance c.args.input.now (omega arith) (omega (arith, c.in-len1-up.len_at_least)) in
    step ∙ c.in_ok-body.ensures.gives ∙ ap (λ (v : Variant). let r : Option (Variant × List ℕ) = Some (v, c.in_ok-body.rest.now) in r) (sym c.of.ensures)
