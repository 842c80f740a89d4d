use Rattle.std.proofs.Common.{◌∙◌, ℕ, ap, sym, arith}
use Rattle.ua_variant.specs.Making.{has_shape}
use Rattle.ua_variant.specs.View.{kind_of, items_in}
use Rattle.ua_variant.specs.Falls.{depth_of_array}
use Rattle.ua_variant.proofs.Made.{array_value}
use Rattle.ua_variant.proofs.variant.Variant.array.Goals as goal

pub invariant_of-result : goal.invariant_of-result
invariant_of-result c =
    let k = kind_of c.args.kind in
    let o = items_in c.args.elements in
    let ds = c.array_of-dimensions.result in
    let same = sym c.are_all_of.ensures ∙ c.if-not-are_all_of.false in
    let shape = ap (λ (n : ℕ). has_shape n ds) (sym c.count_in.ensures) ∙ sym c.has_shape.ensures.shape ∙ c.if-not-has_shape.false in
    record {
      value = array_value k o ds c.requires.elements same shape c.levels_in-inside.ensures.values c.has_shape.ensures.value (omega (arith, c.levels_in-inside.ensures.depth));
      levels = omega (arith, depth_of_array k o ds, c.levels_in-inside.ensures.depth);
    }
