use Rattle.std.proofs.Common.{◌≡◌, ◌++◌, take}
use Rattle.ua_walk.specs.Parts.{joined}
use Rattle.ua_walk.proofs.parts.append.Given as goal

abbrev pub invariant-parts : goal.invariant-parts
invariant-parts l = l.whole.items ≡ l.fn.whole.items ++ joined (take l.part-index l.parts)
