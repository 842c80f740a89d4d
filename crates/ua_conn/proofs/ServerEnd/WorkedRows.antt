-- Worked rows, by computing the definitions.
use Rattle.std.proofs.Common.{false, ◌≡◌, ℕ, List, [], ◌∷◌, ◌++◌, map, length, refl}
use Rattle.std.specs.Prelude.{codes, flat_map, take, drop}
use Rattle.std.specs.List.{range_with_len}
use Rattle.std.specs.Str.{is_utf8, chars}
use lib.Utf8.{encode}
use Rattle.ua_value.specs.Number.{unsigned}
use Rattle.ua_value.specs.Text.{bytes_of}
use Rattle.ua_frame.specs.Streams.{Piece, timed, cuts_within, rest_within, size_of}
use Rattle.ua_frame.specs.Layout.{kind_of}
use Rattle.ua_frame.specs.Hello.{hello_layout, acknowledge_layout, error_layout}
use Rattle.ua_chunk.specs.Layout.{open_header, chunk_header, abort_body, open_chunk_of, chunk_of, abort_of}
use Rattle.ua_chunk.specs.Cut.{fill}
use Rattle.ua_chunk.specs.Written.{open_frame, chunk_frame}
use Rattle.ua_value.specs.Number.{signed}
use Rattle.ua_value.specs.Node.{node_id}
use Rattle.ua_value.specs.Date.{date_time}
use Rattle.ua_value.specs.Localized.{localized_text}
use Rattle.ua_value.specs.Status.{status_code}
use Rattle.ua_value.specs.Array.{array, items_at}
use Rattle.ua_variant.specs.Extension.{extension_object, extension_body}
use Rattle.ua_variant.specs.Diagnostic.{diagnostic}
use Rattle.ua_variant.specs.DiagnosticParts.{diagnostic_parts}
use Rattle.ua_service.specs.declared.request.Request.{Request}
use Rattle.ua_service.specs.Message.{message}
use Rattle.ua_service.specs.Requests.{request_of}
use Rattle.ua_service.specs.Headers.{request_header, response_header, service_fault}
use Rattle.ua_service.specs.Channel.{open_request, open_response, close_request}
use Rattle.ua_service.specs.Discovery.{find_servers_request, find_servers_response, get_endpoints_request, get_endpoints_response}
use Rattle.ua_service.specs.Application.{application_description}
use Rattle.ua_service.specs.Endpoint.{endpoint_description, user_token_policy}
use Rattle.ua_service.specs.declared.request.Request.TheVariants as requests
use Rattle.ua_service.specs.declared.headers.RequestHeader.{RequestHeader}
use Rattle.ua_disco.specs.Answers.{answer_of, servers_found, endpoints_found}
use Rattle.ua_conn.specs.server.Answers.{answer_body, opened_body}
use Rattle.ua_conn.specs.Past.{known}
use Rattle.ua_conn.specs.server.Faults.{fault_at, fault_in_rest}
use Rattle.ua_conn.specs.server.Replies.{end_of, reply_bytes, reply_to, handed_at, handed, spelled}
use Rattle.ua_conn.specs.declared.outcome.End.{End}
use Rattle.ua_conn.specs.declared.outcome.End.TheVariants.{Closed, InputEnded, Truncated, Refused}
use Rattle.ua_conn.proofs.Vectors.{n4, site, at_once, hello, hello_with, policy_uri, open_body, open_with, open_first, chunk_with, find_body, find_first, other_first, close_first, acknowledge, body_opened, opened_first, fault_first, found_body, found_first, endpoints_first, offered_first, error}

-- what is answered to the pieces, and how they end
abbrev Says : List Piece → List ℕ → End → Type 0
Says ps reply ending = (reply_bytes false site (timed ps) ≡ reply) × (end_of site (timed ps) ≡ ending)

abbrev header_of : Request → RequestHeader
header_of (requests.FindServers m) = m.header
header_of (requests.GetEndpoints m) = m.header
header_of (requests.Other m) = m.header

-- the numbers of the requests that are handed on
abbrev Hands : List Piece → List ℕ → Type 0
Hands ps handles = map (λ (r : Request). (header_of r).request_handle) (handed site (timed ps)) ≡ handles

abbrev at : ℕ → List ℕ → Piece
at now bytes = record { moment = now; bytes = bytes }

abbrev opening : List ℕ
opening = hello ++ open_first

abbrev opened : List ℕ
opened = acknowledge ++ opened_first

-- the frames are as long as they say
lengths : (length hello ≡ 56) ×
    (length open_first ≡ 132) ×
    (length find_first ≡ 93) ×
    (length other_first ≡ 59) ×
    (length close_first ≡ 57) ×
    (length acknowledge ≡ 28) ×
    (length opened_first ≡ 135) ×
    (length fault_first ≡ 52) ×
    (length found_first ≡ 134) ×
    (length endpoints_first ≡ 93) ×
    (length offered_first ≡ 316)
unfolding cuts_within rest_within size_of kind_of hello_layout acknowledge_layout error_layout open_header chunk_header abort_body open_chunk_of chunk_of abort_of fill open_frame chunk_frame unsigned bytes_of is_utf8 chars encode known fault_at fault_in_rest reply_to handed_at spelled answer_body opened_body message request_of request_header response_header open_request open_response close_request service_fault find_servers_request get_endpoints_request find_servers_response get_endpoints_response application_description endpoint_description user_token_policy localized_text answer_of servers_found endpoints_found node_id date_time status_code extension_object extension_body signed array items_at diagnostic diagnostic_parts
lengths = (refl, refl, refl, refl, refl, refl, refl, refl, refl, refl, refl)

-- no bytes, a cut frame, the opening in one piece and in two
opening_is_answered : (Says [] [] InputEnded) ×
    (Says (at_once (take 55 hello)) [] Truncated) ×
    (Says (at_once hello) acknowledge InputEnded) ×
    (Says (at_once opening) opened InputEnded) ×
    (Says (at 0 (take 60 opening) ∷ at 7 [] ∷ at 0 (drop 60 opening) ∷ []) (acknowledge ++ open_with 1 policy_uri 1 1 (body_opened 1 7 1 1 3600000)) InputEnded)
unfolding cuts_within rest_within size_of kind_of hello_layout acknowledge_layout error_layout open_header chunk_header abort_body open_chunk_of chunk_of abort_of fill open_frame chunk_frame unsigned bytes_of is_utf8 chars encode known fault_at fault_in_rest reply_to handed_at spelled answer_body opened_body message request_of request_header response_header open_request open_response close_request service_fault find_servers_request get_endpoints_request find_servers_response get_endpoints_response application_description endpoint_description user_token_policy localized_text answer_of servers_found endpoints_found node_id date_time status_code extension_object extension_body signed array items_at diagnostic diagnostic_parts
opening_is_answered = ((refl, refl), (refl, refl), (refl, refl), (refl, refl), (refl, refl))

-- the beginning of an HTTP request; a MSG before the HEL; a second HEL; an ACK
types_out_of_turn : (Says (at_once (codes "GET / HT")) (error 0x807E0000) (Refused 0x807E0000)) ×
    (Says (at_once (find_first)) (error 0x807E0000) (Refused 0x807E0000)) ×
    (Says (at_once (hello ++ hello)) (acknowledge ++ error 0x807E0000) (Refused 0x807E0000)) ×
    (Says (at_once (opening ++ acknowledge)) (opened ++ error 0x807E0000) (Refused 0x807E0000))
unfolding cuts_within rest_within size_of kind_of hello_layout acknowledge_layout error_layout open_header chunk_header abort_body open_chunk_of chunk_of abort_of fill open_frame chunk_frame unsigned bytes_of is_utf8 chars encode known fault_at fault_in_rest reply_to handed_at spelled answer_body opened_body message request_of request_header response_header open_request open_response close_request service_fault find_servers_request get_endpoints_request find_servers_response get_endpoints_response application_description endpoint_description user_token_policy localized_text answer_of servers_found endpoints_found node_id date_time status_code extension_object extension_body signed array items_at diagnostic diagnostic_parts
types_out_of_turn = ((refl, refl), (refl, refl), (refl, refl), (refl, refl))

-- buffers under 8192 bytes; the least one
buffers : (Says (at_once (hello_with 8191 65535 0 0)) (error 0x80810000) (Refused 0x80810000)) ×
    (Says (at_once (hello_with 65535 8191 0 0)) (error 0x80810000) (Refused 0x80810000)) ×
    (Says (at_once (hello_with 8192 65535 0 0)) (codes "ACKF" ++ n4 28 ++ n4 0 ++ n4 65535 ++ n4 8192 ++ n4 1048576 ++ n4 64) InputEnded)
unfolding cuts_within rest_within size_of kind_of hello_layout acknowledge_layout error_layout open_header chunk_header abort_body open_chunk_of chunk_of abort_of fill open_frame chunk_frame unsigned bytes_of is_utf8 chars encode known fault_at fault_in_rest reply_to handed_at spelled answer_body opened_body message request_of request_header response_header open_request open_response close_request service_fault find_servers_request get_endpoints_request find_servers_response get_endpoints_response application_description endpoint_description user_token_policy localized_text answer_of servers_found endpoints_found node_id date_time status_code extension_object extension_body signed array items_at diagnostic diagnostic_parts
buffers = ((refl, refl), (refl, refl), (refl, refl))

-- a header that is refused on 8 bytes, and one that waits for its frame
header_on_eight_bytes : (Says (at_once (hello ++ codes "MSGC" ++ n4 65535)) acknowledge Truncated) ×
    (Says (at_once (hello ++ codes "MSGC" ++ n4 65536)) (acknowledge ++ error 0x80800000) (Refused 0x80800000)) ×
    (Says (at_once (hello ++ codes "OPNC" ++ n4 132)) (acknowledge ++ error 0x807E0000) (Refused 0x807E0000)) ×
    (Says (at_once (hello ++ codes "OPNF" ++ n4 7)) (acknowledge ++ error 0x80070000) (Refused 0x80070000)) ×
    (Says (at_once (codes "HELF" ++ n4 8193)) (error 0x80800000) (Refused 0x80800000))
unfolding cuts_within rest_within size_of kind_of hello_layout acknowledge_layout error_layout open_header chunk_header abort_body open_chunk_of chunk_of abort_of fill open_frame chunk_frame unsigned bytes_of is_utf8 chars encode known fault_at fault_in_rest reply_to handed_at spelled answer_body opened_body message request_of request_header response_header open_request open_response close_request service_fault find_servers_request get_endpoints_request find_servers_response get_endpoints_response application_description endpoint_description user_token_policy localized_text answer_of servers_found endpoints_found node_id date_time status_code extension_object extension_body signed array items_at diagnostic diagnostic_parts
header_on_eight_bytes = ((refl, refl), (refl, refl), (refl, refl), (refl, refl), (refl, refl))

-- another policy, another mode, a renewal first, another channel, a body that is none, a second issue
open_requests_refused : (Says (at_once (hello ++ open_with 0 (codes "http://opcfoundation.org/UA/SecurityPolicy#Basic256Sha256") 1 1 (open_body 1 0 1 0))) (acknowledge ++ error 0x80550000) (Refused 0x80550000)) ×
    (Says (at_once (hello ++ open_with 0 policy_uri 1 1 (open_body 1 0 2 0))) (acknowledge ++ error 0x80540000) (Refused 0x80540000)) ×
    (Says (at_once (hello ++ open_with 0 policy_uri 1 1 (open_body 1 1 1 0))) (acknowledge ++ error 0x80530000) (Refused 0x80530000)) ×
    (Says (at_once (hello ++ open_with 1 policy_uri 1 1 (open_body 1 0 1 0))) (acknowledge ++ error 0x807F0000) (Refused 0x807F0000)) ×
    (Says (at_once (hello ++ open_with 0 policy_uri 1 1 [])) (acknowledge ++ error 0x80070000) (Refused 0x80070000)) ×
    (Says (at_once (opening ++ open_with 1 policy_uri 2 2 (open_body 2 0 1 0))) (opened ++ error 0x80530000) (Refused 0x80530000))
unfolding cuts_within rest_within size_of kind_of hello_layout acknowledge_layout error_layout open_header chunk_header abort_body open_chunk_of chunk_of abort_of fill open_frame chunk_frame unsigned bytes_of is_utf8 chars encode known fault_at fault_in_rest reply_to handed_at spelled answer_body opened_body message request_of request_header response_header open_request open_response close_request service_fault find_servers_request get_endpoints_request find_servers_response get_endpoints_response application_description endpoint_description user_token_policy localized_text answer_of servers_found endpoints_found node_id date_time status_code extension_object extension_body signed array items_at diagnostic diagnostic_parts
open_requests_refused = ((refl, refl), (refl, refl), (refl, refl), (refl, refl), (refl, refl), (refl, refl))

-- requests are answered, and handed on; a close request ends without a byte
requests_are_answered : (Says (at_once (opening ++ find_first)) (opened ++ found_first) InputEnded) ×
    (Hands (at_once (opening ++ find_first)) (2 ∷ [])) ×
    (Says (at_once (opening ++ endpoints_first)) (opened ++ offered_first) InputEnded) ×
    (Says (at_once (opening ++ other_first)) (opened ++ fault_first) InputEnded) ×
    (Says (at_once (opening ++ other_first ++ close_first)) (opened ++ fault_first) Closed) ×
    (Says (at_once (opening ++ other_first ++ close_first ++ hello)) (opened ++ fault_first) Closed) ×
    (Hands (at_once (opening ++ other_first ++ close_first ++ find_first)) (2 ∷ []))
unfolding cuts_within rest_within size_of kind_of hello_layout acknowledge_layout error_layout open_header chunk_header abort_body open_chunk_of chunk_of abort_of fill open_frame chunk_frame unsigned bytes_of is_utf8 chars encode known fault_at fault_in_rest reply_to handed_at spelled answer_body opened_body message request_of request_header response_header open_request open_response close_request service_fault find_servers_request get_endpoints_request find_servers_response get_endpoints_response application_description endpoint_description user_token_policy localized_text answer_of servers_found endpoints_found node_id date_time status_code extension_object extension_body signed array items_at diagnostic diagnostic_parts
requests_are_answered = ((refl, refl), refl, (refl, refl), (refl, refl), (refl, refl), (refl, refl), refl)

-- an opening whose OPN has a sequence number, and requests behind it with theirs
abbrev numbered : ℕ → List ℕ → List Piece
numbered first more = at_once (hello ++ open_with 0 policy_uri first 1 (open_body 1 0 1 0) ++ flat_map (λ n. chunk_with (codes "MSGF") 1 1 n 2 (find_body 2)) more)

abbrev answer : ℕ → List ℕ
answer n = chunk_with (codes "MSGF") 1 1 n 2 (found_body 2 0)

-- where sequence numbers wrap
numbers_wrap : (Says (numbered 4294966271 (4294966272 ∷ 1 ∷ [])) (opened ++ answer 2 ++ answer 3) InputEnded) ×
    (Says (numbered 4294966271 (1 ∷ [])) (opened ++ error 0x80880000) (Refused 0x80880000)) ×
    (Says (numbered 4294966272 (4294966273 ∷ [])) (opened ++ answer 2) InputEnded) ×
    (Says (numbered 4294966272 (1023 ∷ [])) (opened ++ answer 2) InputEnded) ×
    (Says (numbered 4294966272 (1024 ∷ [])) (opened ++ error 0x80880000) (Refused 0x80880000)) ×
    (Says (numbered 4294967295 (0 ∷ [])) (opened ++ answer 2) InputEnded) ×
    (Says (numbered 1 (3 ∷ [])) (opened ++ error 0x80880000) (Refused 0x80880000))
unfolding cuts_within rest_within size_of kind_of hello_layout acknowledge_layout error_layout open_header chunk_header abort_body open_chunk_of chunk_of abort_of fill open_frame chunk_frame unsigned bytes_of is_utf8 chars encode known fault_at fault_in_rest reply_to handed_at spelled answer_body opened_body message request_of request_header response_header open_request open_response close_request service_fault find_servers_request get_endpoints_request find_servers_response get_endpoints_response application_description endpoint_description user_token_policy localized_text answer_of servers_found endpoints_found node_id date_time status_code extension_object extension_body signed array items_at diagnostic diagnostic_parts
numbers_wrap = ((refl, refl), (refl, refl), (refl, refl), (refl, refl), (refl, refl), (refl, refl), (refl, refl))

-- an opening with a lifetime of ten seconds
abbrev short : List ℕ
short = hello ++ open_with 0 policy_uri 1 1 (open_body 1 0 1 10000)

abbrev short_opened : List ℕ
short_opened = acknowledge ++ open_with 1 policy_uri 1 1 (body_opened 1 0 1 1 10000)

-- a token's last tick; a frame's moment is that of its last byte, and no moment goes back
tokens_age : (Says (at 0 short ∷ at 124999999 find_first ∷ []) (short_opened ++ chunk_with (codes "MSGF") 1 1 2 2 (found_body 2 124999999)) InputEnded) ×
    (Says (at 0 short ∷ at 125000000 find_first ∷ []) (short_opened ++ error 0x80870000) (Refused 0x80870000)) ×
    (Says (at 0 (short ++ take 1 find_first) ∷ at 125000000 (drop 1 find_first) ∷ []) (short_opened ++ error 0x80870000) (Refused 0x80870000)) ×
    (Says (at 0 short ∷ at 125000000 [] ∷ at 0 find_first ∷ []) (short_opened ++ error 0x80870000) (Refused 0x80870000))
unfolding cuts_within rest_within size_of kind_of hello_layout acknowledge_layout error_layout open_header chunk_header abort_body open_chunk_of chunk_of abort_of fill open_frame chunk_frame unsigned bytes_of is_utf8 chars encode known fault_at fault_in_rest reply_to handed_at spelled answer_body opened_body message request_of request_header response_header open_request open_response close_request service_fault find_servers_request get_endpoints_request find_servers_response get_endpoints_response application_description endpoint_description user_token_policy localized_text answer_of servers_found endpoints_found node_id date_time status_code extension_object extension_body signed array items_at diagnostic diagnostic_parts
tokens_age = ((refl, refl), (refl, refl), (refl, refl), (refl, refl))

-- a part of a message: flag, sequence number, request id, body
abbrev part : List ℕ → ℕ → ℕ → List ℕ → List ℕ
part name sequence id body = chunk_with name 1 1 sequence id body

abbrev C : List ℕ
C = codes "MSGC"

abbrev F : List ℕ
F = codes "MSGF"

abbrev A : List ℕ
A = codes "MSGA"

abbrev no_reason : List ℕ
no_reason = n4 0x80010000 ++ n4 4294967295

-- an abort in the middle drops the parts before it; an abort may stand alone
aborts : (Says (at_once (opening ++ part C 2 2 (take 5 (find_body 2)) ++ part C 3 2 [] ++ part A 4 2 no_reason ++ part F 5 3 (find_body 3))) (opened ++ chunk_with F 1 1 2 3 (found_body 3 0)) InputEnded) ×
    (Hands (at_once (opening ++ part C 2 2 (take 5 (find_body 2)) ++ part C 3 2 [] ++ part A 4 2 no_reason ++ part F 5 3 (find_body 3))) (3 ∷ [])) ×
    (Says (at_once (opening ++ part A 2 2 no_reason)) opened InputEnded) ×
    (Says (at_once (opening ++ part A 2 2 (0 ∷ []))) (opened ++ error 0x80070000) (Refused 0x80070000))
unfolding cuts_within rest_within size_of kind_of hello_layout acknowledge_layout error_layout open_header chunk_header abort_body open_chunk_of chunk_of abort_of fill open_frame chunk_frame unsigned bytes_of is_utf8 chars encode known fault_at fault_in_rest reply_to handed_at spelled answer_body opened_body message request_of request_header response_header open_request open_response close_request service_fault find_servers_request get_endpoints_request find_servers_response get_endpoints_response application_description endpoint_description user_token_policy localized_text answer_of servers_found endpoints_found node_id date_time status_code extension_object extension_body signed array items_at diagnostic diagnostic_parts
aborts = ((refl, refl), refl, (refl, refl), (refl, refl))

-- a message in parts; another request id, an OPN and a CLO in the middle of it; too many parts
parts : (Says (at_once (opening ++ part C 2 2 (take 5 (find_body 2)) ++ part C 3 2 [] ++ part F 4 2 (drop 5 (find_body 2)))) (opened ++ found_first) InputEnded) ×
    (Says (at_once (opening ++ part C 2 2 (take 5 (find_body 2)) ++ part F 3 3 (drop 5 (find_body 2)))) (opened ++ error 0x807E0000) (Refused 0x807E0000)) ×
    (Says (at_once (opening ++ part C 2 2 [] ++ open_with 1 policy_uri 3 3 (open_body 3 1 1 0))) (opened ++ error 0x807E0000) (Refused 0x807E0000)) ×
    (Says (at_once (opening ++ part C 2 2 [] ++ close_first)) opened Closed) ×
    (Says (at_once (opening ++ flat_map (λ n. part C n 2 []) (range_with_len 2 64))) opened InputEnded) ×
    (Says (at_once (opening ++ flat_map (λ n. part C n 2 []) (range_with_len 2 65))) (opened ++ error 0x80800000) (Refused 0x80800000)) ×
    (Says (at_once (opening ++ part F 2 2 (2 ∷ []))) (opened ++ error 0x80070000) (Refused 0x80070000))
unfolding cuts_within rest_within size_of kind_of hello_layout acknowledge_layout error_layout open_header chunk_header abort_body open_chunk_of chunk_of abort_of fill open_frame chunk_frame unsigned bytes_of is_utf8 chars encode known fault_at fault_in_rest reply_to handed_at spelled answer_body opened_body message request_of request_header response_header open_request open_response close_request service_fault find_servers_request get_endpoints_request find_servers_response get_endpoints_response application_description endpoint_description user_token_policy localized_text answer_of servers_found endpoints_found node_id date_time status_code extension_object extension_body signed array items_at diagnostic diagnostic_parts
parts = ((refl, refl), (refl, refl), (refl, refl), (refl, refl), (refl, refl), (refl, refl), (refl, refl))

-- an answer over the limits of the HEL is replaced by an abort
answer_too_large : (Says (at_once (hello_with 65535 65535 27 0 ++ open_first ++ other_first)) (opened ++ chunk_with A 1 1 2 2 (n4 0x80B90000 ++ n4 4294967295)) InputEnded) ×
    (Says (at_once (hello_with 65535 65535 28 0 ++ open_first ++ other_first)) (opened ++ fault_first) InputEnded) ×
    (Says (at_once (hello_with 65535 65535 28 1 ++ open_first ++ other_first)) (opened ++ fault_first) InputEnded)
unfolding cuts_within rest_within size_of kind_of hello_layout acknowledge_layout error_layout open_header chunk_header abort_body open_chunk_of chunk_of abort_of fill open_frame chunk_frame unsigned bytes_of is_utf8 chars encode known fault_at fault_in_rest reply_to handed_at spelled answer_body opened_body message request_of request_header response_header open_request open_response close_request service_fault find_servers_request get_endpoints_request find_servers_response get_endpoints_response application_description endpoint_description user_token_policy localized_text answer_of servers_found endpoints_found node_id date_time status_code extension_object extension_body signed array items_at diagnostic diagnostic_parts
answer_too_large = ((refl, refl), (refl, refl), (refl, refl))

-- a renewal: sequence number and request id
abbrev renewal : ℕ → List ℕ
renewal n = open_with 1 policy_uri n n (open_body n 1 1 0)

-- a request with a token, and its answer: token, sequence number, request id
abbrev request : ℕ → ℕ → List ℕ
request token n = chunk_with F 1 token n n (find_body n)

abbrev answered : ℕ → ℕ → ℕ → List ℕ
answered token n id = chunk_with F 1 token n id (found_body id 0)

abbrev renewed : ℕ → ℕ → ℕ → List ℕ
renewed token n id = open_with 1 policy_uri n id (body_opened id 0 1 token 3600000)

-- A renewal with a request in flight: the answer has the newest token that the client has used; the two newest are known.
renewals : (Says (at_once (opening ++ renewal 2 ++ request 1 3 ++ request 2 4 ++ request 1 5)) (opened ++ renewed 2 2 2 ++ answered 1 3 3 ++ answered 2 4 4 ++ answered 2 5 5) InputEnded) ×
    (Says (at_once (opening ++ renewal 2 ++ renewal 3 ++ request 2 4 ++ request 3 5)) (opened ++ renewed 2 2 2 ++ renewed 3 3 3 ++ answered 2 4 4 ++ answered 3 5 5) InputEnded) ×
    (Says (at_once (opening ++ renewal 2 ++ renewal 3 ++ request 1 4)) (opened ++ renewed 2 2 2 ++ renewed 3 3 3 ++ error 0x80870000) (Refused 0x80870000)) ×
    (Says (at_once (opening ++ request 2 2)) (opened ++ error 0x80870000) (Refused 0x80870000)) ×
    (Says (at_once (opening ++ chunk_with F 2 1 2 2 (find_body 2))) (opened ++ error 0x807F0000) (Refused 0x807F0000))
unfolding cuts_within rest_within size_of kind_of hello_layout acknowledge_layout error_layout open_header chunk_header abort_body open_chunk_of chunk_of abort_of fill open_frame chunk_frame unsigned bytes_of is_utf8 chars encode known fault_at fault_in_rest reply_to handed_at spelled answer_body opened_body message request_of request_header response_header open_request open_response close_request service_fault find_servers_request get_endpoints_request find_servers_response get_endpoints_response application_description endpoint_description user_token_policy localized_text answer_of servers_found endpoints_found node_id date_time status_code extension_object extension_body signed array items_at diagnostic diagnostic_parts
renewals = ((refl, refl), (refl, refl), (refl, refl), (refl, refl), (refl, refl))
