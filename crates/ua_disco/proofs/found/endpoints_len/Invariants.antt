use Rattle.std.proofs.Common.{◌≡◌, length, map, take}
use Rattle.std.specs.List.{flat_map, filter}
use Rattle.ua_service.specs.Endpoint.{endpoint_description}
use Rattle.ua_choice.specs.Choosing.{is_asked}
use Rattle.ua_disco.specs.Answers.{described_endpoint}
use Rattle.ua_disco.proofs.found.endpoints_len.Given as goal

abbrev pub invariant-loop-endpoint : goal.invariant-loop-endpoint
invariant-loop-endpoint l = (l.verdicts ≡ l.request.profile_uris)
    × (l.total ≡ length (flat_map endpoint_description.canon (map (described_endpoint l.server.application.now l.server.name.now) (filter (λ e. is_asked l.request.profile_uris e.transport) (take l.endpoint-index l.offered)))))
