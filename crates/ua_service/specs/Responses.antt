-- The bodies of responses, OPC 10000-6, 5.2.9.
use Rattle.std.specs.Prelude.{ℕ, List, Option, Some, None, if◌then◌else◌}
use Rattle.ua_value.specs.declared.node.NodeId.{NodeId}
use Rattle.ua_value.specs.Format.{◌>>=◌}
use Rattle.ua_value.specs.Whole.{only}
use Rattle.ua_value.specs.Node.{node_id}
use Rattle.ua_service.specs.declared.response.Response.{Response}
use Rattle.ua_service.specs.declared.response.Response.TheVariants as responses
use Rattle.ua_service.specs.Message.{Message, is_id, IsBodyOf, canon_of}
use Rattle.ua_service.specs.Headers.{service_fault}
use Rattle.ua_service.specs.Discovery.{find_servers_response, get_endpoints_response}

abbrev pub IsResponseBody : Response → List ℕ → Type 0
IsResponseBody (responses.FindServers m) b = IsBodyOf 425 find_servers_response m b
IsResponseBody (responses.GetEndpoints m) b = IsBodyOf 431 get_endpoints_response m b
IsResponseBody (responses.Fault m) b = IsBodyOf 397 service_fault m b

-- the response of each kind whose fields are all of the bytes
abbrev pub find_servers_of : List ℕ → Option Response
find_servers_of bytes = only find_servers_response.grammar bytes >>= λ m. Some (responses.FindServers m)

abbrev pub get_endpoints_of : List ℕ → Option Response
get_endpoints_of bytes = only get_endpoints_response.grammar bytes >>= λ m. Some (responses.GetEndpoints m)

abbrev pub fault_of : List ℕ → Option Response
fault_of bytes = only service_fault.grammar bytes >>= λ m. Some (responses.Fault m)

-- the response that follows an id
abbrev pub response_fields : NodeId → List ℕ → Option Response
response_fields id bytes =
    if is_id 425 id then (only find_servers_response.grammar bytes >>= λ m. Some (responses.FindServers m))
    else (if is_id 431 id then (only get_endpoints_response.grammar bytes >>= λ m. Some (responses.GetEndpoints m))
    else (if is_id 397 id then (only service_fault.grammar bytes >>= λ m. Some (responses.Fault m))
    else None))

-- the response of which the whole bytes are a body
unfoldable pub response_of : List ℕ → Option Response
response_of bytes = node_id.grammar.front bytes >>= λ id. response_fields id.0 id.1

abbrev pub canon_response : Response → List ℕ
canon_response (responses.FindServers m) = canon_of 425 find_servers_response m
canon_response (responses.GetEndpoints m) = canon_of 431 get_endpoints_response m
canon_response (responses.Fault m) = canon_of 397 service_fault m

abbrev pub IsResponse : Response → Type 0
IsResponse (responses.FindServers m) = find_servers_response.IsValue m
IsResponse (responses.GetEndpoints m) = get_endpoints_response.IsValue m
IsResponse (responses.Fault m) = service_fault.IsValue m

abbrev pub response_message : Message Response
response_message = record { IsBody = IsResponseBody; message_of = response_of; canon = canon_response; IsValue = IsResponse }
