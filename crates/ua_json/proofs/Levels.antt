-- The elements of an array are less deep than it is.
use Rattle.std.proofs.Common.{◌≡◌, suc, ◌≤◌, Some, arith}
use Rattle.ua_variant.specs.Values.{Variant, null, one, null_array, many, Items, depth, items_depth}
use Rattle.ua_variant.specs.Making.{elements_in}

pub less_deep : (v : Variant) (es : Items) → Some es ≡ elements_in v → suc (items_depth es) ≤ depth v
less_deep null es e = grind arith
less_deep (one x) es e = grind arith
less_deep (null_array k ds) es e = grind arith
less_deep (many k is ds) es e = grind arith
