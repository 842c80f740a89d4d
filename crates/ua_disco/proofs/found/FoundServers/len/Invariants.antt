use Rattle.std.proofs.Common.{◌≡◌, length, take}
use Rattle.std.specs.List.{flat_map}
use Rattle.ua_service.specs.Application.{application_description}
use Rattle.ua_disco.specs.Answers.{servers_among}
use Rattle.ua_disco.proofs.found.FoundServers.len.Given as goal

abbrev pub invariant-loop-application : goal.invariant-loop-application
invariant-loop-application l = l.total ≡ length (flat_map application_description.canon (servers_among l.locales l.filter (take l.application-index l.listed)))
