use Rattle.std.proofs.Common.{◌≡◌, drop}
use Rattle.ua_choice.specs.Choosing.{is_among}
use Rattle.ua_choice.proofs.choosing.is_one_of.Given as goal

abbrev pub invariant-loop-other : goal.invariant-loop-other
invariant-loop-other l = is_among l.text l.texts ≡ is_among l.text (drop l.other-index l.texts)
