-- Worked rows of the table of refusals of a client, by computing the definitions.
use Rattle.std.proofs.Common.{◌≡◌, ℕ, true, false, List, [], ◌∷◌, ◌++◌, map, refl, Option, Some, None}
use Rattle.std.specs.Prelude.{codes, take, drop}
use Rattle.std.specs.Str.{is_utf8, chars}
use lib.Utf8.{encode}
use Rattle.ua_value.specs.Number.{unsigned}
use Rattle.ua_value.specs.Text.{bytes_of}
use Rattle.ua_frame.specs.Streams.{cuts_within, rest_within, size_of}
use Rattle.ua_frame.specs.Layout.{kind_of}
use Rattle.ua_frame.specs.Hello.{hello_layout, acknowledge_layout, error_layout}
use Rattle.ua_chunk.specs.Layout.{open_header, chunk_header, abort_body, open_chunk_of, chunk_of, abort_of}
use Rattle.ua_chunk.specs.Cut.{fill}
use Rattle.ua_chunk.specs.Written.{open_frame, chunk_frame}
use Rattle.ua_value.specs.Number.{signed}
use Rattle.ua_value.specs.Node.{node_id}
use Rattle.ua_value.specs.Date.{date_time}
use Rattle.ua_value.specs.Localized.{localized_text}
use Rattle.ua_value.specs.Status.{status_code}
use Rattle.ua_value.specs.Array.{array, items_at}
use Rattle.ua_variant.specs.Extension.{extension_object, extension_body}
use Rattle.ua_variant.specs.Diagnostic.{diagnostic, within}
use Rattle.ua_variant.specs.DiagnosticParts.{diagnostic_parts}
use Rattle.ua_service.specs.declared.request.Request.{Request}
use Rattle.ua_service.specs.Message.{message}
use Rattle.ua_service.specs.Requests.{request_of}
use Rattle.ua_service.specs.Responses.{response_of}
use Rattle.ua_service.specs.Headers.{request_header, response_header, service_fault}
use Rattle.ua_service.specs.Channel.{open_request, open_response, close_request}
use Rattle.ua_service.specs.Discovery.{find_servers_request, find_servers_response, get_endpoints_request, get_endpoints_response}
use Rattle.ua_service.specs.Application.{application_description}
use Rattle.ua_service.specs.Endpoint.{endpoint_description, user_token_policy}
use Rattle.ua_disco.specs.Answers.{answer_of, servers_found, endpoints_found}
use Rattle.ua_conn.specs.server.Answers.{answer_body, opened_body}
use Rattle.ua_conn.specs.Past.{known}
use Rattle.ua_conn.specs.server.Faults.{fault_at, fault_in_rest}
use Rattle.ua_conn.specs.server.Replies.{reply_to, handed_at, spelled}
use Rattle.ua_conn.specs.client.Past.{client_known}
use Rattle.ua_conn.specs.client.Faults.{client_fault_by, client_fault_in_rest}
use Rattle.ua_conn.specs.client.Reading.{answer_at}
use Rattle.ua_conn.specs.client.Questions.{open_asked_body, close_asked_body}
use Rattle.ua_conn.specs.client.Sending.{sent_bytes}
use Rattle.ua_conn.specs.BothEnds.{expected}
use Rattle.ua_conn.specs.declared.client.fault.ClientFault.{ClientFault}
use Rattle.ua_conn.specs.declared.client.fault.ClientFault.TheVariants.{ServerSaid, Broken}
use Rattle.ua_frame.specs.Streams.{timed}
use Rattle.ua_conn.specs.client.Commands.{Act, Commands}
use Rattle.ua_conn.specs.client.Commands as commands
use Rattle.ua_conn.specs.client.Reading.{client_fault, matched}
use Rattle.ua_conn.specs.declared.client.answer.Answer.{Answer}
use Rattle.ua_conn.proofs.Vectors.{n4, at_once, policy_uri, null, header_answered, open_with, chunk_with, acknowledge, body_opened, opened_first, fault_body, found_body, found_first, offered_first, error}
use Rattle.ua_conn.specs.client.Held.{Event, Log, Came, Told, client_held, commands_of, stream_of, fault_in, renews}
use Rattle.ua_conn.proofs.BothEnds.WorkedStories.{asker, asker_with, find, hello}

-- ---- what comes to a client

-- a request behind the opening
abbrev asked_once : Commands
asked_once = record { act = commands.Ask (find 2) 69; moment = 0; seen = 163 } ∷ []

abbrev renews_once : Commands
renews_once = record { act = commands.Renew; moment = 0; seen = 163 } ∷ []

abbrev Meets : Commands → List ℕ → Option ClientFault → Type 0
Meets cmds bytes fault = client_fault asker cmds (timed (at_once bytes)) ≡ fault

abbrev opened : List ℕ
opened = acknowledge ++ opened_first

-- channel, token, sequence number, request id, body
abbrev part : List ℕ → ℕ → ℕ → ℕ → ℕ → List ℕ → List ℕ
part = chunk_with

abbrev F : List ℕ
F = codes "MSGF"

abbrev C : List ℕ
C = codes "MSGC"

abbrev A : List ℕ
A = codes "MSGA"

-- an Acknowledge with these sizes
abbrev ack : ℕ → ℕ → List ℕ
ack receive send = codes "ACKF" ++ n4 28 ++ n4 0 ++ n4 receive ++ n4 send ++ n4 1048576 ++ n4 64

-- an open response with this result
abbrev body_refused : ℕ → List ℕ
body_refused result = (1 ∷ 0 ∷ 0xC1 ∷ 1 ∷ []) ++ header_answered 0 1 result ++ n4 0 ++ n4 1 ++ n4 1 ++ n4 0 ++ n4 0 ++ n4 3600000 ++ null

-- unknown type, wrong flag, size under a header, size over the limit: before the Acknowledge, and behind it
header_rows : Meets [] (codes "GET / HT") (Some (Broken 0x807E0000))
    × Meets [] (codes "ACKC" ++ n4 28) (Some (Broken 0x807E0000))
    × Meets [] (codes "ACKF" ++ n4 7) (Some (Broken 0x80070000))
    × Meets [] (codes "ACKF" ++ n4 8193) (Some (Broken 0x80800000))
    × Meets [] (codes "ACKF" ++ n4 8192) None
    × Meets [] (acknowledge ++ codes "OPNF" ++ n4 65536) (Some (Broken 0x80800000))
    × Meets [] (acknowledge ++ codes "OPNF" ++ n4 65535) None
unfolding cuts_within rest_within size_of kind_of hello_layout acknowledge_layout error_layout open_header chunk_header abort_body open_chunk_of chunk_of abort_of fill open_frame chunk_frame unsigned bytes_of is_utf8 chars encode known fault_at fault_in_rest reply_to handed_at spelled answer_body opened_body message request_of response_of request_header response_header open_request open_response close_request service_fault find_servers_request get_endpoints_request find_servers_response get_endpoints_response application_description endpoint_description user_token_policy localized_text answer_of servers_found endpoints_found node_id date_time status_code extension_object extension_body signed array items_at diagnostic within diagnostic_parts client_known client_fault_by client_fault_in_rest answer_at open_asked_body close_asked_body sent_bytes expected
header_rows = (refl, refl, refl, refl, refl, refl, refl)

-- an ERR may come at any time; its layout
errors : Meets [] (error 0x80840000) (Some (ServerSaid 0x80840000 None))
    × Meets [] (acknowledge ++ codes "ERRF" ++ n4 19 ++ n4 0x80840000 ++ n4 3 ++ codes "low") (Some (ServerSaid 0x80840000 (Some (codes "low"))))
    × Meets asked_once (opened ++ error 0x80870000) (Some (ServerSaid 0x80870000 None))
    × Meets [] (codes "ERRF" ++ n4 12 ++ n4 0x80840000) (Some (Broken 0x80070000))
unfolding cuts_within rest_within size_of kind_of hello_layout acknowledge_layout error_layout open_header chunk_header abort_body open_chunk_of chunk_of abort_of fill open_frame chunk_frame unsigned bytes_of is_utf8 chars encode known fault_at fault_in_rest reply_to handed_at spelled answer_body opened_body message request_of response_of request_header response_header open_request open_response close_request service_fault find_servers_request get_endpoints_request find_servers_response get_endpoints_response application_description endpoint_description user_token_policy localized_text answer_of servers_found endpoints_found node_id date_time status_code extension_object extension_body signed array items_at diagnostic within diagnostic_parts client_known client_fault_by client_fault_in_rest answer_at open_asked_body close_asked_body sent_bytes expected
errors = (refl, refl, refl, refl)

-- an OPN and a MSG first, a second Acknowledge, an OPN without a renewal, a Hello, a CLO
types_out_of_turn : Meets [] opened_first (Some (Broken 0x807E0000))
    × Meets [] (acknowledge ++ found_first) (Some (Broken 0x807E0000))
    × Meets [] (acknowledge ++ acknowledge) (Some (Broken 0x807E0000))
    × Meets asked_once (opened ++ open_with 1 policy_uri 2 2 (body_opened 2 0 1 2 3600000)) (Some (Broken 0x807E0000))
    × Meets [] hello (Some (Broken 0x807E0000))
    × Meets asked_once (opened ++ part (codes "CLOF") 1 1 2 2 []) (Some (Broken 0x807E0000))
unfolding cuts_within rest_within size_of kind_of hello_layout acknowledge_layout error_layout open_header chunk_header abort_body open_chunk_of chunk_of abort_of fill open_frame chunk_frame unsigned bytes_of is_utf8 chars encode known fault_at fault_in_rest reply_to handed_at spelled answer_body opened_body message request_of response_of request_header response_header open_request open_response close_request service_fault find_servers_request get_endpoints_request find_servers_response get_endpoints_response application_description endpoint_description user_token_policy localized_text answer_of servers_found endpoints_found node_id date_time status_code extension_object extension_body signed array items_at diagnostic within diagnostic_parts client_known client_fault_by client_fault_in_rest answer_at open_asked_body close_asked_body sent_bytes expected
types_out_of_turn = (refl, refl, refl, refl, refl, refl)

-- acknowledge layout, acknowledge not acceptable; the least and the greatest sizes
acknowledges : Meets [] (codes "ACKF" ++ n4 24 ++ n4 0 ++ n4 65535 ++ n4 65535 ++ n4 0) (Some (Broken 0x80070000))
    × Meets [] (ack 65536 65535) (Some (Broken 0x80810000))
    × Meets [] (ack 65535 65536) (Some (Broken 0x80810000))
    × Meets [] (ack 8191 65535) (Some (Broken 0x80810000))
    × Meets [] (ack 8192 8192) None
    × Meets [] (ack 65535 65535) None
unfolding cuts_within rest_within size_of kind_of hello_layout acknowledge_layout error_layout open_header chunk_header abort_body open_chunk_of chunk_of abort_of fill open_frame chunk_frame unsigned bytes_of is_utf8 chars encode known fault_at fault_in_rest reply_to handed_at spelled answer_body opened_body message request_of response_of request_header response_header open_request open_response close_request service_fault find_servers_request get_endpoints_request find_servers_response get_endpoints_response application_description endpoint_description user_token_policy localized_text answer_of servers_found endpoints_found node_id date_time status_code extension_object extension_body signed array items_at diagnostic within diagnostic_parts client_known client_fault_by client_fault_in_rest answer_at open_asked_body close_asked_body sent_bytes expected
acknowledges = (refl, refl, refl, refl, refl, refl)

-- open layout; channel 0, and another than the open one; policy; sequence number; inside a message; other open request;
-- open body, also a fault; service refused; channel in the body
open_responses : Meets [] (acknowledge ++ codes "OPNF" ++ n4 12 ++ n4 1) (Some (Broken 0x80070000))
    × Meets [] (acknowledge ++ open_with 0 policy_uri 1 1 (body_opened 1 0 0 1 3600000)) (Some (Broken 0x807F0000))
    × Meets renews_once (opened ++ open_with 2 policy_uri 2 2 (body_opened 2 0 2 2 3600000)) (Some (Broken 0x807F0000))
    × Meets [] (acknowledge ++ open_with 1 (codes "http://opcfoundation.org/UA/SecurityPolicy#Basic256Sha256") 1 1 (body_opened 1 0 1 1 3600000)) (Some (Broken 0x80550000))
    × Meets renews_once (opened ++ open_with 1 policy_uri 3 2 (body_opened 2 0 1 2 3600000)) (Some (Broken 0x80880000))
    × Meets (record { act = commands.Renew; moment = 0; seen = 163 } ∷ asked_once) (opened ++ part C 1 1 2 2 [] ++ open_with 1 policy_uri 3 3 (body_opened 3 0 1 2 3600000)) (Some (Broken 0x807E0000))
    × Meets [] (acknowledge ++ open_with 1 policy_uri 1 2 (body_opened 1 0 1 1 3600000)) (Some (Broken 0x80090000))
    × Meets [] (acknowledge ++ open_with 1 policy_uri 1 1 (fault_body 1 0)) (Some (Broken 0x80070000))
    × Meets [] (acknowledge ++ open_with 1 policy_uri 1 1 (body_refused 0x80550000)) (Some (ServerSaid 0x80550000 None))
    × Meets [] (acknowledge ++ open_with 1 policy_uri 1 1 (body_opened 1 0 2 1 3600000)) (Some (Broken 0x807F0000))
    × Meets renews_once (opened ++ open_with 1 policy_uri 2 2 (body_opened 2 0 1 2 3600000)) None
unfolding cuts_within rest_within size_of kind_of hello_layout acknowledge_layout error_layout open_header chunk_header abort_body open_chunk_of chunk_of abort_of fill open_frame chunk_frame unsigned bytes_of is_utf8 chars encode known fault_at fault_in_rest reply_to handed_at spelled answer_body opened_body message request_of response_of request_header response_header open_request open_response close_request service_fault find_servers_request get_endpoints_request find_servers_response get_endpoints_response application_description endpoint_description user_token_policy localized_text answer_of servers_found endpoints_found node_id date_time status_code extension_object extension_body signed array items_at diagnostic within diagnostic_parts client_known client_fault_by client_fault_in_rest answer_at open_asked_body close_asked_body sent_bytes expected
open_responses = (refl, refl, refl, refl, refl, refl, refl, refl, refl, refl, refl)

-- message layout, channel, token, sequence number; other request id, not pending; message body, an abort's body;
-- answer of another service; a fault fits
messages : Meets asked_once (opened ++ codes "MSGF" ++ n4 20 ++ n4 1 ++ n4 1 ++ n4 2) (Some (Broken 0x80070000))
    × Meets asked_once (opened ++ part F 2 1 2 2 (found_body 2 0)) (Some (Broken 0x807F0000))
    × Meets asked_once (opened ++ part F 1 2 2 2 (found_body 2 0)) (Some (Broken 0x80870000))
    × Meets asked_once (opened ++ part F 1 1 3 2 (found_body 2 0)) (Some (Broken 0x80880000))
    × Meets asked_once (opened ++ part C 1 1 2 2 [] ++ part F 1 1 3 3 (found_body 2 0)) (Some (Broken 0x807E0000))
    × Meets asked_once (opened ++ part F 1 1 2 3 (found_body 2 0)) (Some (Broken 0x80090000))
    × Meets [] (opened ++ found_first) (Some (Broken 0x80090000))
    × Meets asked_once (opened ++ found_first ++ part F 1 1 3 2 (found_body 2 0)) (Some (Broken 0x80090000))
    × Meets asked_once (opened ++ part F 1 1 2 2 (7 ∷ [])) (Some (Broken 0x80070000))
    × Meets asked_once (opened ++ part A 1 1 2 2 (7 ∷ [])) (Some (Broken 0x80070000))
    × Meets asked_once (opened ++ offered_first) (Some (Broken 0x80090000))
    × Meets asked_once (opened ++ part F 1 1 2 2 (fault_body 2 0)) None
    × Meets asked_once (opened ++ part C 1 1 2 2 (take 5 (found_body 2 0)) ++ part F 1 1 3 2 (drop 5 (found_body 2 0))) None
unfolding cuts_within rest_within size_of kind_of hello_layout acknowledge_layout error_layout open_header chunk_header abort_body open_chunk_of chunk_of abort_of fill open_frame chunk_frame unsigned bytes_of is_utf8 chars encode known fault_at fault_in_rest reply_to handed_at spelled answer_body opened_body message request_of response_of request_header response_header open_request open_response close_request service_fault find_servers_request get_endpoints_request find_servers_response get_endpoints_response application_description endpoint_description user_token_policy localized_text answer_of servers_found endpoints_found node_id date_time status_code extension_object extension_body signed array items_at diagnostic within diagnostic_parts client_known client_fault_by client_fault_in_rest answer_at open_asked_body close_asked_body sent_bytes expected
messages = (refl, refl, refl, refl, refl, refl, refl, refl, refl, refl, refl, refl, refl)

-- own limits: of bytes, and of parts, of which an abort is none
own_limits : (client_fault (asker_with 109 64) asked_once (timed (at_once (opened ++ found_first))) ≡ Some (Broken 0x80800000))
    × (client_fault (asker_with 110 64) asked_once (timed (at_once (opened ++ found_first))) ≡ None)
    × (client_fault (asker_with 110 1) asked_once (timed (at_once (opened ++ part C 1 1 2 2 [] ++ part F 1 1 3 2 (found_body 2 0)))) ≡ Some (Broken 0x80800000))
    × (client_fault (asker_with 110 1) asked_once (timed (at_once (opened ++ part C 1 1 2 2 [] ++ part A 1 1 3 2 (n4 0x80B90000 ++ null)))) ≡ None)
unfolding cuts_within rest_within size_of kind_of hello_layout acknowledge_layout error_layout open_header chunk_header abort_body open_chunk_of chunk_of abort_of fill open_frame chunk_frame unsigned bytes_of is_utf8 chars encode known fault_at fault_in_rest reply_to handed_at spelled answer_body opened_body message request_of response_of request_header response_header open_request open_response close_request service_fault find_servers_request get_endpoints_request find_servers_response get_endpoints_response application_description endpoint_description user_token_policy localized_text answer_of servers_found endpoints_found node_id date_time status_code extension_object extension_body signed array items_at diagnostic within diagnostic_parts client_known client_fault_by client_fault_in_rest answer_at open_asked_body close_asked_body sent_bytes expected
own_limits = (refl, refl, refl, refl)

-- a command that comes behind the answer to it is too late; what is asked before the last byte of its answer is not
asked_in_time : (client_fault asker (record { act = commands.Ask (find 2) 69; moment = 0; seen = 297 } ∷ []) (timed (at_once (opened ++ found_first))) ≡ Some (Broken 0x80090000))
    × (client_fault asker (record { act = commands.Ask (find 2) 69; moment = 0; seen = 296 } ∷ []) (timed (at_once (opened ++ found_first))) ≡ None)
unfolding cuts_within rest_within size_of kind_of hello_layout acknowledge_layout error_layout open_header chunk_header abort_body open_chunk_of chunk_of abort_of fill open_frame chunk_frame unsigned bytes_of is_utf8 chars encode known fault_at fault_in_rest reply_to handed_at spelled answer_body opened_body message request_of response_of request_header response_header open_request open_response close_request service_fault find_servers_request get_endpoints_request find_servers_response get_endpoints_response application_description endpoint_description user_token_policy localized_text answer_of servers_found endpoints_found node_id date_time status_code extension_object extension_body signed array items_at diagnostic within diagnostic_parts client_known client_fault_by client_fault_in_rest answer_at open_asked_body close_asked_body sent_bytes expected
asked_in_time = (refl, refl)

-- ---- what is held

abbrev came : ℕ → List ℕ → Event
came now bytes = Came (record { moment = now; bytes = bytes })

-- asked twice, answered in the other order
abbrev asked_twice : Log
asked_twice = Told 0 (commands.Ask (find 3) 69) ∷ Told 0 (commands.Ask (find 2) 69) ∷ came 0 opened ∷ []

abbrev second_answered : Log
second_answered = came 0 (part F 1 1 2 3 (found_body 2 0)) ∷ asked_twice

abbrev both_answered : Log
both_answered = came 0 (part F 1 1 3 2 (found_body 2 0)) ∷ second_answered

other_order : (map (λ (w : ℕ × Request). w.0) (client_held asker second_answered).pending ≡ 2 ∷ [])
    × (map (λ (w : ℕ × Request). w.0) (client_held asker both_answered).pending ≡ [])
    × (map (λ (a : Answer). a.id) (matched asker (commands_of both_answered) (stream_of both_answered)) ≡ 3 ∷ 2 ∷ [])
    × (map (λ (a : Answer). a.request) (matched asker (commands_of both_answered) (stream_of both_answered)) ≡ find 3 ∷ find 2 ∷ [])
    × (fault_in asker both_answered ≡ None)
    × ((client_held asker both_answered).next_id ≡ 4)
    × ((client_held asker both_answered).next ≡ 4)
    × ((client_held asker (Told 0 commands.Renew ∷ both_answered)).due ≡ Some 4)
    × ((client_held asker (came 9 (take 5 acknowledge) ∷ [])).rest ≡ take 5 acknowledge)
    × ((client_held asker (came 4 [] ∷ came 9 (take 5 acknowledge) ∷ [])).moment ≡ 9)
unfolding cuts_within rest_within size_of kind_of hello_layout acknowledge_layout error_layout open_header chunk_header abort_body open_chunk_of chunk_of abort_of fill open_frame chunk_frame unsigned bytes_of is_utf8 chars encode known fault_at fault_in_rest reply_to handed_at spelled answer_body opened_body message request_of response_of request_header response_header open_request open_response close_request service_fault find_servers_request get_endpoints_request find_servers_response get_endpoints_response application_description endpoint_description user_token_policy localized_text answer_of servers_found endpoints_found node_id date_time status_code extension_object extension_body signed array items_at diagnostic within diagnostic_parts client_known client_fault_by client_fault_in_rest answer_at open_asked_body close_asked_body sent_bytes expected client_held
other_order = (refl, refl, refl, refl, refl, refl, refl, refl, refl, refl)

-- a lifetime of 10 seconds, of which three quarters are 75000000 ticks
abbrev short_lived : Log
short_lived = came 1000 (acknowledge ++ open_with 1 policy_uri 1 1 (body_opened 1 0 1 1 10000)) ∷ []

renewals_due : (renews (client_held asker short_lived) 75000999 ≡ false)
    × (renews (client_held asker short_lived) 75001000 ≡ true)
    × (renews (client_held asker (Told 0 commands.Close ∷ short_lived)) 75001000 ≡ false)
    × (renews (client_held asker []) 75001000 ≡ false)
unfolding cuts_within rest_within size_of kind_of hello_layout acknowledge_layout error_layout open_header chunk_header abort_body open_chunk_of chunk_of abort_of fill open_frame chunk_frame unsigned bytes_of is_utf8 chars encode known fault_at fault_in_rest reply_to handed_at spelled answer_body opened_body message request_of response_of request_header response_header open_request open_response close_request service_fault find_servers_request get_endpoints_request find_servers_response get_endpoints_response application_description endpoint_description user_token_policy localized_text answer_of servers_found endpoints_found node_id date_time status_code extension_object extension_body signed array items_at diagnostic within diagnostic_parts client_known client_fault_by client_fault_in_rest answer_at open_asked_body close_asked_body sent_bytes expected client_held
renewals_due = (refl, refl, refl, refl)

-- a token's last tick on the client, counted from the moment of the open response; no moment goes back
abbrev asked_short : Log
asked_short = Told 0 (commands.Ask (find 2) 69) ∷ short_lived

tokens_age : (fault_in asker (came 125000999 found_first ∷ asked_short) ≡ None)
    × (fault_in asker (came 125001000 found_first ∷ asked_short) ≡ Some (Broken 0x80870000))
    × (fault_in asker (came 125001000 (drop 1 found_first) ∷ came 5 (take 1 found_first) ∷ asked_short) ≡ Some (Broken 0x80870000))
    × (fault_in asker (came 5 found_first ∷ came 125001000 [] ∷ asked_short) ≡ Some (Broken 0x80870000))
unfolding cuts_within rest_within size_of kind_of hello_layout acknowledge_layout error_layout open_header chunk_header abort_body open_chunk_of chunk_of abort_of fill open_frame chunk_frame unsigned bytes_of is_utf8 chars encode known fault_at fault_in_rest reply_to handed_at spelled answer_body opened_body message request_of response_of request_header response_header open_request open_response close_request service_fault find_servers_request get_endpoints_request find_servers_response get_endpoints_response application_description endpoint_description user_token_policy localized_text answer_of servers_found endpoints_found node_id date_time status_code extension_object extension_body signed array items_at diagnostic within diagnostic_parts client_known client_fault_by client_fault_in_rest answer_at open_asked_body close_asked_body sent_bytes expected client_held
tokens_age = (refl, refl, refl, refl)
