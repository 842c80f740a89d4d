-- What a server says to a request. OPC 10000-4, 5.5.2, 5.5.4, 7.33 to 7.35.
use Rattle.std.specs.Prelude.{ℕ, ℤ, List, Option, Some, map}
use Rattle.std.specs.List.{filter}
use Rattle.ua_value.specs.declared.localized.LocalizedText.{LocalizedText}
use Rattle.ua_service.specs.declared.headers.RequestHeader.{RequestHeader}
use Rattle.ua_service.specs.declared.headers.ServiceFault.{ServiceFault}
use Rattle.ua_service.specs.declared.application.ApplicationDescription.{ApplicationDescription}
use Rattle.ua_service.specs.declared.endpoint.EndpointDescription.{EndpointDescription}
use Rattle.ua_service.specs.declared.discovery.FindServersRequest.{FindServersRequest}
use Rattle.ua_service.specs.declared.discovery.FindServersResponse.{FindServersResponse}
use Rattle.ua_service.specs.declared.discovery.GetEndpointsRequest.{GetEndpointsRequest}
use Rattle.ua_service.specs.declared.discovery.GetEndpointsResponse.{GetEndpointsResponse}
use Rattle.ua_service.specs.declared.request.Request.{Request}
use Rattle.ua_service.specs.declared.request.Request.TheVariants as requests
use Rattle.ua_service.specs.declared.response.Response.{Response}
use Rattle.ua_service.specs.declared.response.Response.TheVariants as responses
use Rattle.ua_service.specs.Headers.{response_header_at}
use Rattle.ua_disco.specs.declared.application.Application.{Application}
use Rattle.ua_disco.specs.declared.endpoint.Endpoint.{Endpoint}
use Rattle.ua_choice.specs.Choosing.{is_asked}
use Rattle.ua_choice.specs.Names.{name_for}
use Rattle.ua_disco.specs.Configuration.{Configuration}
use Rattle.ua_disco.specs.Settings.{first_application}

-- an application under one of its names
abbrev pub described : Application → LocalizedText → ApplicationDescription
described a name = record {
  application_uri = a.uri;
  product_uri = a.product_uri;
  application_name = name;
  application_type = a.kind;
  gateway_server_uri = a.gateway_uri;
  discovery_profile_uri = a.profile_uri;
  discovery_urls = a.discovery_urls;
}

-- an endpoint whose server is the application
abbrev pub described_endpoint : Application → LocalizedText → Endpoint → EndpointDescription
described_endpoint a name e = record {
  endpoint_url = e.url;
  server = described a name;
  server_certificate = e.certificate;
  security_mode = e.mode;
  security_policy_uri = e.policy;
  user_identity_tokens = e.tokens;
  transport_profile_uri = e.transport;
  security_level = e.level;
}

-- an application for a reader of these locales
abbrev pub application_for : Option (List (Option (List ℕ))) → Application → ApplicationDescription
application_for locales a = described a (name_for locales a.names)

-- an endpoint of the application, likewise
abbrev pub endpoint_for : Option (List (Option (List ℕ))) → Application → Endpoint → EndpointDescription
endpoint_for locales a e = described_endpoint a (name_for locales a.names) e

-- of these applications those whose URI is asked for, in their order, each for a reader of these locales
abbrev pub servers_among : Option (List (Option (List ℕ))) → Option (List (Option (List ℕ))) → List Application → List ApplicationDescription
servers_among locales uris listed = map (application_for locales) (filter (λ a. is_asked uris a.uri) listed)

-- The applications whose URI the filter asks for, in the order of the settings. The url of the request changes nothing.
unfoldable pub servers_found : Configuration → FindServersRequest → List ApplicationDescription
servers_found c m = servers_among m.locale_ids m.server_uris c.applications

-- The endpoints whose transport the filter asks for, in the order of the settings. The server of each is the first application.
unfoldable pub endpoints_found : Configuration → GetEndpointsRequest → List EndpointDescription
endpoints_found c m = map (endpoint_for m.locale_ids (first_application c.applications)) (filter (λ e. is_asked m.profile_uris e.transport) c.endpoints)

abbrev pub find_servers_answer : Configuration → FindServersRequest → ℤ → FindServersResponse
find_servers_answer c m now = record { header = response_header_at now m.header.request_handle 0; servers = Some (servers_found c m) }

abbrev pub get_endpoints_answer : Configuration → GetEndpointsRequest → ℤ → GetEndpointsResponse
get_endpoints_answer c m now = record { header = response_header_at now m.header.request_handle 0; endpoints = Some (endpoints_found c m) }

-- BadServiceUnsupported
abbrev pub unsupported : RequestHeader → ℤ → ServiceFault
unsupported header now = record { header = response_header_at now header.request_handle 0x800B0000 }

-- what a server with these settings answers at the moment
unfoldable pub answer_of : Configuration → Request → ℤ → Response
answer_of c (requests.FindServers m) now = responses.FindServers (find_servers_answer c m now)
answer_of c (requests.GetEndpoints m) now = responses.GetEndpoints (get_endpoints_answer c m now)
answer_of c (requests.Other m) now = responses.Fault (unsupported m.header now)
