use Rattle.std.proofs.Common.{◌≡◌, drop}
use Rattle.std.specs.Prelude.{IfSome}
use Rattle.std.specs.List.{AllByRecursion}
use Rattle.ua_choice.specs.Choosing.{is_asked}
use Rattle.ua_choice.proofs.verdicts.Verdicts.remembered.Given as goal

abbrev pub invariant-loop-given : goal.invariant-loop-given
invariant-loop-given l = AllByRecursion (λ g. IfSome g (λ j. j.1 ≡ is_asked l.self j.0.now)) (drop l.given-index l.given-items)
