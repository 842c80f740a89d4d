use Rattle.std.proofs.Common.{◌≡◌, length, take}
use Rattle.ua_walk.specs.Parts.{joined}
use Rattle.ua_walk.proofs.parts.size_of.Given as goal

abbrev pub invariant-parts : goal.invariant-parts
invariant-parts l = l.size ≡ length (joined (take l.part-index l.parts))
