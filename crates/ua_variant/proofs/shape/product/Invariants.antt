use Rattle.std.proofs.Common.{◌≡◌, ◌≤◌, ◌-◌, min, length, drop}
use Rattle.ua_variant.specs.Values.{product}
use Rattle.ua_variant.proofs.shape.product.Given as goal

abbrev pub invariant-loop-i : goal.invariant-loop-i
invariant-loop-i l = record { within : l.i ≤ length l.lengths; so_far : l.product ≡ min (product (drop l.i l.lengths)) 0xffff_ffff_ffff_ffff }

abbrev pub decreases-loop-i : goal.decreases-loop-i
decreases-loop-i l = l.i
