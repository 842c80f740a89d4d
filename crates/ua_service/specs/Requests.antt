-- The bodies of requests, OPC 10000-6, 5.2.9.
use Rattle.std.specs.Prelude.{ℕ, List, Option, Some, if◌then◌else◌}
use Rattle.ua_value.specs.declared.node.NodeId.{NodeId}
use Rattle.ua_value.specs.Format.{◌>>=◌}
use Rattle.ua_value.specs.Whole.{only}
use Rattle.ua_value.specs.Node.{node_id}
use Rattle.ua_service.specs.declared.request.Request.{Request}
use Rattle.ua_service.specs.declared.request.Request.TheVariants as requests
use Rattle.ua_service.specs.Message.{Message, is_id, IsBodyOf, canon_of}
use Rattle.ua_service.specs.Headers.{request_header}
use Rattle.ua_service.specs.Discovery.{find_servers_request, get_endpoints_request}
use Rattle.ua_service.specs.OtherFields.{IsOther, IsOtherBody, canon_other}

abbrev pub IsRequestBody : Request → List ℕ → Type 0
IsRequestBody (requests.FindServers m) b = IsBodyOf 422 find_servers_request m b
IsRequestBody (requests.GetEndpoints m) b = IsBodyOf 428 get_endpoints_request m b
IsRequestBody (requests.Other o) b = IsOtherBody o b

-- the request of each kind whose fields are all of the bytes
abbrev pub find_servers_of : List ℕ → Option Request
find_servers_of bytes = only find_servers_request.grammar bytes >>= λ m. Some (requests.FindServers m)

abbrev pub get_endpoints_of : List ℕ → Option Request
get_endpoints_of bytes = only get_endpoints_request.grammar bytes >>= λ m. Some (requests.GetEndpoints m)

abbrev pub other_of : NodeId → List ℕ → Option Request
other_of id bytes = request_header.grammar.front bytes >>= λ h. Some (requests.Other (record { type_id = id; header = h.0; rest = h.1 }))

-- the request that follows an id
abbrev pub request_fields : NodeId → List ℕ → Option Request
request_fields id bytes =
    if is_id 422 id then find_servers_of bytes
    else (if is_id 428 id then get_endpoints_of bytes
    else other_of id bytes)

-- the request of which the whole bytes are a body
unfoldable pub request_of : List ℕ → Option Request
request_of bytes = node_id.grammar.front bytes >>= λ id. request_fields id.0 id.1

abbrev pub canon_request : Request → List ℕ
canon_request (requests.FindServers m) = canon_of 422 find_servers_request m
canon_request (requests.GetEndpoints m) = canon_of 428 get_endpoints_request m
canon_request (requests.Other o) = canon_other o

abbrev pub IsRequest : Request → Type 0
IsRequest (requests.FindServers m) = find_servers_request.IsValue m
IsRequest (requests.GetEndpoints m) = get_endpoints_request.IsValue m
IsRequest (requests.Other o) = IsOther o

abbrev pub request_message : Message Request
request_message = record { IsBody = IsRequestBody; message_of = request_of; canon = canon_request; IsValue = IsRequest }
