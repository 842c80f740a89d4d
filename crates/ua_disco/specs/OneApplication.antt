-- What a server of one application answers. OPC 10000-4, 5.5.2 and 5.5.4.
use Rattle.std.specs.Prelude.{◌≡◌, ℤ, List, [], ◌∷◌, Some, map, if◌then◌else◌}
use Rattle.std.specs.List.{filter}
use Rattle.ua_service.specs.declared.application.ApplicationDescription.{ApplicationDescription}
use Rattle.ua_service.specs.declared.discovery.FindServersRequest.{FindServersRequest}
use Rattle.ua_service.specs.declared.request.Request.{Request}
use Rattle.ua_service.specs.declared.request.Request.TheVariants as requests
use Rattle.ua_service.specs.declared.response.Response.{Response}
use Rattle.ua_service.specs.declared.response.Response.TheVariants as responses
use Rattle.ua_service.specs.Headers.{response_header_at}
use Rattle.ua_disco.specs.declared.application.Application.{Application}
use Rattle.ua_disco.specs.declared.endpoint.Endpoint.{Endpoint}
use Rattle.ua_choice.specs.Choosing.{is_asked}
use Rattle.ua_disco.specs.Configuration.{Configuration}
use Rattle.ua_disco.specs.Answers.{application_for, endpoint_for, unsupported, answer_of}

-- the application, where the filter asks for its URI
abbrev pub one_found : Application → FindServersRequest → List ApplicationDescription
one_found a m = if is_asked m.server_uris a.uri then application_for m.locale_ids a ∷ [] else []

-- what a server answers that has this application and these endpoints
abbrev pub answer_of_one : Application → List Endpoint → Request → ℤ → Response
answer_of_one a es (requests.FindServers m) now = responses.FindServers (record { header = response_header_at now m.header.request_handle 0; servers = Some (one_found a m) })
answer_of_one a es (requests.GetEndpoints m) now = responses.GetEndpoints (record {
  header = response_header_at now m.header.request_handle 0;
  endpoints = Some (map (endpoint_for m.locale_ids a) (filter (λ e. is_asked m.profile_uris e.transport) es));
})
answer_of_one a es (requests.Other m) now = responses.Fault (unsupported m.header now)

-- settings of one application answer as that application does
abbrev pub OneApplication : Type 0
OneApplication = (c : Configuration) (a : Application) → c.applications ≡ a ∷ [] → (r : Request) (now : ℤ) → answer_of c r now ≡ answer_of_one a c.endpoints r now
