use Rattle.std.proofs.Common.{◌≡◌, take, map}
use Rattle.std.specs.List.{filter}
use Rattle.ua_choice.specs.Choosing.{is_asked}
use Rattle.ua_disco.specs.Answers.{described_endpoint}
use Rattle.ua_disco.proofs.answering.endpoints.Given as goal

abbrev pub invariant-loop-endpoint : goal.invariant-loop-endpoint
invariant-loop-endpoint l = (l.verdicts ≡ l.request.profile_uris)
    × (l.found.items ≡ map (described_endpoint l.application l.name) (filter (λ e. is_asked l.request.profile_uris e.transport) (take l.endpoint-index l.offered)))
