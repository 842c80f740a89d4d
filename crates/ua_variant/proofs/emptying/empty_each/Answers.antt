use Rattle.std.proofs.Common.{◌≤◌, ℕ, zero, suc, List, [], ◌∷◌, get_or, slice_set, ap, arith}
use denote.Param.Weighed.{most}
use Rattle.ua_variant.specs.declared.variant.DataValue.TheDeep.{deep-Element}
use Rattle.ua_variant.specs.declared.variant.Element.{Element}
use Rattle.ua_variant.proofs.emptying.empty_each.Goals as goal

-- an element in place of one that is as deep
most_set : (es : List Element) (i : ℕ) (d e : Element) → deep-Element e ≤ deep-Element (get_or es i d) → most deep-Element (slice_set es i e) ≤ most deep-Element es
most_set [] i d e less = omega arith
most_set (x ∷ es) zero d e less = omega (arith, less)
most_set (x ∷ es) (suc i) d e less = let inside : most deep-Element (slice_set es i e) ≤ most deep-Element es = most_set es i d e less in omega arith

pub loop-item-preserved : goal.loop-item-preserved
loop-item-preserved c =
    let is_there : deep-Element c.empty.new.item ≤ deep-Element (get_or c.loop-item.item-items c.loop-item.item-index c.item-item.result) = omega (arith, c.empty.ensures, ap deep-Element c.item-item.is) in
    omega (arith, most_set c.loop-item.item-items c.loop-item.item-index c.item-item.result c.empty.new.item is_there, c.loop-item.invariant)
