use Rattle.std.proofs.Common.{drop}
use Rattle.std.specs.List.{AllByRecursion}
use Rattle.ua_disco.specs.Values.{IsApplicationValue}
use Rattle.ua_disco.proofs.valid.applications_are_values.Given as goal

abbrev pub invariant-loop-application : goal.invariant-loop-application
invariant-loop-application l = AllByRecursion IsApplicationValue (drop l.application-index l.applications) → AllByRecursion IsApplicationValue l.applications
