use Rattle.std.proofs.Common.{◌≡◌, Option, List, ℕ, take}
use Rattle.ua_choice.specs.Choosing.{is_among}
use Rattle.ua_choice.specs.Index.{is_indexed}
use Rattle.ua_choice.proofs.index.Index.of.Given as goal

-- the texts that were gone through are there
abbrev pub invariant-loop-text : goal.invariant-loop-text
invariant-loop-text l = (other : Option (List ℕ)) → is_indexed other l.index ≡ is_among other (take l.text-index l.texts)
