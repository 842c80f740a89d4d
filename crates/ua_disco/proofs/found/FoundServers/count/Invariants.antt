use Rattle.std.proofs.Common.{◌≡◌, ◌≤◌, length, take}
use Rattle.std.specs.List.{filter}
use Rattle.ua_choice.specs.Choosing.{is_asked}
use Rattle.ua_disco.proofs.found.FoundServers.count.Given as goal

abbrev pub invariant-loop-application : goal.invariant-loop-application
invariant-loop-application l = (l.number ≤ l.application-index) × (l.number ≡ length (filter (λ a. is_asked l.filter a.uri) (take l.application-index l.listed)))
