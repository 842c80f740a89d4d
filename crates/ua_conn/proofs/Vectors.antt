-- The frames of the worked rows.
use Rattle.std.proofs.Common.{ℕ, ◌+◌, List, [], ◌∷◌, ◌++◌, Some, None, length}
use Rattle.std.specs.Prelude.{pos, codes}
use Rattle.std.specs.Int.{w32, w64, to_le_bytes}
use Rattle.ua_frame.specs.Streams.{Piece}
use Rattle.ua_frame.specs.declared.limits.Limits.{Limits}
use Rattle.ua_disco.specs.declared.application.Application.{Application}
use Rattle.ua_disco.specs.declared.endpoint.Endpoint.{Endpoint}
use Rattle.ua_disco.specs.Configuration.{Configuration}
use Rattle.ua_conn.specs.server.Site.{Site}

-- ---- numbers and parts

abbrev pub n4 : ℕ → List ℕ
n4 n = to_le_bytes w32 n

abbrev pub null : List ℕ
null = 0xFF ∷ 0xFF ∷ 0xFF ∷ 0xFF ∷ []

abbrev pub url : List ℕ
url = 24 ∷ 0 ∷ 0 ∷ 0 ∷ codes "opc.tcp://localhost:4840"

abbrev pub policy_uri : List ℕ
policy_uri = codes "http://opcfoundation.org/UA/SecurityPolicy#None"

abbrev pub binary_profile : List ℕ
binary_profile = codes "http://opcfoundation.org/UA-Profile/Transport/uatcp-uasc-uabinary"

-- a policy URI of up to 255 bytes
abbrev pub policy : List ℕ → List ℕ
policy uri = length uri ∷ 0 ∷ 0 ∷ 0 ∷ uri

-- null token, moment 0, handle, no diagnostics, null audit id, timeout 0, no additional header
abbrev pub header_asked : ℕ → List ℕ
header_asked handle = (0 ∷ 0 ∷ 0 ∷ 0 ∷ 0 ∷ 0 ∷ 0 ∷ 0 ∷ 0 ∷ 0 ∷ []) ++ n4 handle ++ (0 ∷ 0 ∷ 0 ∷ 0 ∷ []) ++ null ++ (0 ∷ 0 ∷ 0 ∷ 0 ∷ 0 ∷ 0 ∷ 0 ∷ [])

-- moment, handle, result, no diagnostics, null string table, no additional header
abbrev pub header_answered : ℕ → ℕ → ℕ → List ℕ
header_answered now handle status = to_le_bytes w64 now ++ n4 handle ++ n4 status ++ (0 ∷ []) ++ null ++ (0 ∷ 0 ∷ 0 ∷ [])

-- ---- frames that a client sends

-- with the sizes that it takes, and its limits on answers
abbrev pub hello_with : ℕ → ℕ → ℕ → ℕ → List ℕ
hello_with receive send max_message max_chunks =
    codes "HELF" ++ n4 56 ++ n4 0 ++ n4 receive ++ n4 send ++ n4 max_message ++ n4 max_chunks ++ url

abbrev pub hello : List ℕ
hello = hello_with 65535 65535 0 0

-- request type, security mode, lifetime
abbrev pub open_body : ℕ → ℕ → ℕ → ℕ → List ℕ
open_body handle type mode lifetime = (1 ∷ 0 ∷ 0xBE ∷ 1 ∷ []) ++ header_asked handle ++ n4 0 ++ n4 type ++ n4 mode ++ null ++ n4 lifetime

-- channel, policy, sequence number, request id, body
abbrev pub open_with : ℕ → List ℕ → ℕ → ℕ → List ℕ → List ℕ
open_with channel uri sequence id body =
    codes "OPNF" ++ n4 (32 + length uri + length body) ++ n4 channel ++ policy uri ++ null ++ null ++ n4 sequence ++ n4 id ++ body

abbrev pub open_first : List ℕ
open_first = open_with 0 policy_uri 1 1 (open_body 1 0 1 0)

-- type and flag, channel, token, sequence number, request id, body
abbrev pub chunk_with : List ℕ → ℕ → ℕ → ℕ → ℕ → List ℕ → List ℕ
chunk_with name channel token sequence id body = name ++ n4 (24 + length body) ++ n4 channel ++ n4 token ++ n4 sequence ++ n4 id ++ body

abbrev pub find_body : ℕ → List ℕ
find_body handle = (1 ∷ 0 ∷ 0xA6 ∷ 1 ∷ []) ++ header_asked handle ++ url ++ null ++ null

abbrev pub find_first : List ℕ
find_first = chunk_with (codes "MSGF") 1 1 2 2 (find_body 2)

abbrev pub endpoints_first : List ℕ
endpoints_first = chunk_with (codes "MSGF") 1 1 2 2 ((1 ∷ 0 ∷ 0xAC ∷ 1 ∷ []) ++ header_asked 2 ++ url ++ null ++ null)

abbrev pub other_body : ℕ → List ℕ
other_body handle = (1 ∷ 0 ∷ 0xCD ∷ 1 ∷ []) ++ header_asked handle ++ (0xAA ∷ 0xBB ∷ [])

abbrev pub other_first : List ℕ
other_first = chunk_with (codes "MSGF") 1 1 2 2 (other_body 2)

abbrev pub close_first : List ℕ
close_first = chunk_with (codes "CLOF") 1 1 3 3 ((1 ∷ 0 ∷ 0xC4 ∷ 1 ∷ []) ++ header_asked 3)

-- ---- frames that the server sends

abbrev pub acknowledge : List ℕ
acknowledge = codes "ACKF" ++ n4 28 ++ n4 0 ++ n4 65535 ++ n4 65535 ++ n4 1048576 ++ n4 64

-- moment, channel, token, lifetime
abbrev pub body_opened : ℕ → ℕ → ℕ → ℕ → ℕ → List ℕ
body_opened handle now channel token lifetime =
    (1 ∷ 0 ∷ 0xC1 ∷ 1 ∷ []) ++ header_answered now handle 0 ++ n4 0 ++ n4 channel ++ n4 token ++ to_le_bytes w64 now ++ n4 lifetime ++ null

abbrev pub opened_first : List ℕ
opened_first = open_with 1 policy_uri 1 1 (body_opened 1 0 1 1 3600000)

abbrev pub fault_body : ℕ → ℕ → List ℕ
fault_body handle now = (1 ∷ 0 ∷ 0x8D ∷ 1 ∷ []) ++ header_answered now handle 0x800B0000

abbrev pub fault_first : List ℕ
fault_first = chunk_with (codes "MSGF") 1 1 2 2 (fault_body 2 0)

-- URI, product, name, a server, no gateway, no profile, one url
abbrev pub application_spelled : List ℕ
application_spelled = n4 5 ++ codes "urn:a" ++ n4 5 ++ codes "urn:p" ++ (3 ∷ []) ++ n4 2 ++ codes "en" ++ n4 5 ++ codes "Press" ++ n4 0 ++ null ++ null ++ n4 1 ++ url

abbrev pub found_body : ℕ → ℕ → List ℕ
found_body handle now = (1 ∷ 0 ∷ 0xA9 ∷ 1 ∷ []) ++ header_answered now handle 0 ++ n4 1 ++ application_spelled

abbrev pub found_first : List ℕ
found_first = chunk_with (codes "MSGF") 1 1 2 2 (found_body 2 0)

-- url, application, no certificate, no security, its policy, an anonymous token, transport profile, level
abbrev pub endpoint_spelled : List ℕ
endpoint_spelled = url ++ application_spelled ++ null ++ n4 1 ++ policy policy_uri ++ n4 1 ++ (n4 1 ++ codes "0" ++ n4 0 ++ null ++ null ++ null) ++ n4 65 ++ binary_profile ++ (0 ∷ [])

abbrev pub offered_first : List ℕ
offered_first = chunk_with (codes "MSGF") 1 1 2 2 ((1 ∷ 0 ∷ 0xAF ∷ 1 ∷ []) ++ header_answered 0 2 0 ++ n4 1 ++ endpoint_spelled)

abbrev pub error : ℕ → List ℕ
error status = codes "ERRF" ++ n4 16 ++ n4 status ++ null

-- ---- a server

abbrev pub limits : Limits
limits = record { receive = 65535; send = 65535; max_message = 1048576; max_chunks = 64 }

abbrev pub application : Application
application = record {
  uri = Some (codes "urn:a");
  product_uri = Some (codes "urn:p");
  kind = pos 0;
  names = record { locale = Some (codes "en"); text = Some (codes "Press") } ∷ [];
  gateway_uri = None;
  profile_uri = None;
  discovery_urls = Some (Some (codes "opc.tcp://localhost:4840") ∷ []);
}

abbrev pub endpoint : Endpoint
endpoint = record {
  url = Some (codes "opc.tcp://localhost:4840");
  mode = pos 1;
  policy = Some policy_uri;
  certificate = None;
  transport = Some binary_profile;
  level = 0;
  tokens = Some (record { policy_id = Some (codes "0"); token_type = pos 0; issued_token_type = None; issuer_endpoint_url = None; security_policy_uri = None } ∷ []);
}

abbrev pub settings : Configuration
settings = record { limits = limits; applications = application ∷ []; endpoints = endpoint ∷ [] }

abbrev pub site : Site
site = record { settings = settings; channel = 1 }

-- all at one moment
abbrev pub at_once : List ℕ → List Piece
at_once bytes = record { moment = 0; bytes = bytes } ∷ []
