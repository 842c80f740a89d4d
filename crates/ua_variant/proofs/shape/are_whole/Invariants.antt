use Rattle.std.proofs.Common.{◌≡◌, drop}
use Rattle.ua_variant.specs.Values.{are_whole}
use Rattle.ua_variant.proofs.shape.are_whole.Given as goal

abbrev pub invariant-loop-length : goal.invariant-loop-length
invariant-loop-length l = are_whole (drop l.length-index l.lengths) ≡ are_whole l.lengths
