use Rattle.std.proofs.Common.{◌≡◌, ◌≤◌, length, take}
use Rattle.std.specs.List.{filter}
use Rattle.ua_choice.specs.Choosing.{is_asked}
use Rattle.ua_disco.proofs.found.endpoint_count.Given as goal

abbrev pub invariant-loop-endpoint : goal.invariant-loop-endpoint
invariant-loop-endpoint l = (l.verdicts ≡ l.request.profile_uris)
    × (l.count ≤ l.endpoint-index)
    × (l.count ≡ length (filter (λ e. is_asked l.request.profile_uris e.transport) (take l.endpoint-index l.offered)))
