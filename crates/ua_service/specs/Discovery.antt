-- The messages of discovery, OPC 10000-4, 5.5.2 and 5.5.4.
use Rattle.std.specs.Prelude.{refl}
use Rattle.ua_service.specs.declared.discovery.FindServersRequest.{FindServersRequest}
use Rattle.ua_service.specs.declared.discovery.FindServersResponse.{FindServersResponse}
use Rattle.ua_service.specs.declared.discovery.GetEndpointsRequest.{GetEndpointsRequest}
use Rattle.ua_service.specs.declared.discovery.GetEndpointsResponse.{GetEndpointsResponse}
use Rattle.ua_value.specs.Format.{Format, IsLawful}
use Rattle.ua_value.specs.Text.{string}
use Rattle.ua_value.specs.TextLaws.{lawful_string}
use Rattle.ua_value.specs.Array.{array}
use Rattle.ua_value.specs.ArrayLaws.{lawful_array}
use Rattle.ua_value.specs.Sequence.{by, pair}
use Rattle.ua_value.specs.SequenceLaws.{lawful_by, lawful_pair}
use Rattle.ua_service.specs.Application.{application_description, lawful_application_description}
use Rattle.ua_service.specs.Headers.{response_header, lawful_response_header}
use Rattle.ua_service.specs.Endpoint.{endpoint_description, lawful_endpoint_description}
use Rattle.ua_service.specs.Headers.{request_header, lawful_request_header}

unfoldable pub find_servers_request : Format FindServersRequest
find_servers_request = by
    (λ v. (v.header, (v.endpoint_url, (v.locale_ids, v.server_uris))))
    (λ p. record { header = p.0; endpoint_url = p.1.0; locale_ids = p.1.1.0; server_uris = p.1.1.1 })
    (pair request_header (pair string (pair (array string) (array string))))

pub lawful_find_servers_request : IsLawful find_servers_request
unfolding find_servers_request
lawful_find_servers_request = lawful_by _ _ _ (λ v. refl) (λ p. refl)
    (lawful_pair _ _ lawful_request_header (lawful_pair _ _ lawful_string (lawful_pair _ _ (lawful_array _ lawful_string) (lawful_array _ lawful_string))))

unfoldable pub find_servers_response : Format FindServersResponse
find_servers_response = by
    (λ v. (v.header, v.servers))
    (λ p. record { header = p.0; servers = p.1 })
    (pair response_header (array application_description))

pub lawful_find_servers_response : IsLawful find_servers_response
unfolding find_servers_response
lawful_find_servers_response = lawful_by _ _ _ (λ v. refl) (λ p. refl)
    (lawful_pair _ _ lawful_response_header (lawful_array _ lawful_application_description))

unfoldable pub get_endpoints_request : Format GetEndpointsRequest
get_endpoints_request = by
    (λ v. (v.header, (v.endpoint_url, (v.locale_ids, v.profile_uris))))
    (λ p. record { header = p.0; endpoint_url = p.1.0; locale_ids = p.1.1.0; profile_uris = p.1.1.1 })
    (pair request_header (pair string (pair (array string) (array string))))

pub lawful_get_endpoints_request : IsLawful get_endpoints_request
unfolding get_endpoints_request
lawful_get_endpoints_request = lawful_by _ _ _ (λ v. refl) (λ p. refl)
    (lawful_pair _ _ lawful_request_header (lawful_pair _ _ lawful_string (lawful_pair _ _ (lawful_array _ lawful_string) (lawful_array _ lawful_string))))

unfoldable pub get_endpoints_response : Format GetEndpointsResponse
get_endpoints_response = by
    (λ v. (v.header, v.endpoints))
    (λ p. record { header = p.0; endpoints = p.1 })
    (pair response_header (array endpoint_description))

pub lawful_get_endpoints_response : IsLawful get_endpoints_response
unfolding get_endpoints_response
lawful_get_endpoints_response = lawful_by _ _ _ (λ v. refl) (λ p. refl)
    (lawful_pair _ _ lawful_response_header (lawful_array _ lawful_endpoint_description))
