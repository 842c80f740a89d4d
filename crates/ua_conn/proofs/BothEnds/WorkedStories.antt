-- Worked stories of both ends, by computing the definitions.
use Rattle.std.proofs.Common.{◌≡◌, ℕ, Bool, true, false, ◌+◌, ◌*◌, List, [], ◌∷◌, ◌++◌, map, length, refl, Option, Some, None}
use Rattle.std.specs.Prelude.{pos, codes, flat_map, drop, ◌&&◌}
use Rattle.std.specs.Int.{w64, to_le_bytes}
use Rattle.std.specs.Str.{is_utf8, chars, bytes_eq}
use lib.Utf8.{encode}
use Rattle.ua_value.specs.Number.{unsigned, signed}
use Rattle.ua_value.specs.Text.{bytes_of}
use Rattle.ua_frame.specs.Streams.{cuts_within, rest_within, size_of}
use Rattle.ua_frame.specs.Layout.{kind_of}
use Rattle.ua_frame.specs.Hello.{hello_layout, acknowledge_layout, error_layout}
use Rattle.ua_chunk.specs.Layout.{open_header, chunk_header, abort_body, open_chunk_of, chunk_of, abort_of}
use Rattle.ua_chunk.specs.Cut.{fill}
use Rattle.ua_chunk.specs.Written.{open_frame, chunk_frame}
use Rattle.ua_value.specs.Node.{node_id}
use Rattle.ua_value.specs.Date.{date_time}
use Rattle.ua_value.specs.Localized.{localized_text}
use Rattle.ua_value.specs.Status.{status_code}
use Rattle.ua_value.specs.Array.{array, items_at}
use Rattle.ua_variant.specs.Extension.{extension_object, extension_body}
use Rattle.ua_variant.specs.Diagnostic.{diagnostic, within}
use Rattle.ua_variant.specs.DiagnosticParts.{diagnostic_parts}
use Rattle.ua_service.specs.declared.request.Request.{Request}
use Rattle.ua_service.specs.Message.{message}
use Rattle.ua_service.specs.Requests.{request_of}
use Rattle.ua_service.specs.Responses.{response_of}
use Rattle.ua_service.specs.Headers.{request_header_at, request_header, response_header, service_fault}
use Rattle.ua_service.specs.Channel.{open_request, open_response, close_request}
use Rattle.ua_service.specs.Discovery.{find_servers_request, find_servers_response, get_endpoints_request, get_endpoints_response}
use Rattle.ua_service.specs.Application.{application_description}
use Rattle.ua_service.specs.Endpoint.{endpoint_description, user_token_policy}
use Rattle.ua_service.specs.declared.request.Request.TheVariants as requests
use Rattle.ua_disco.specs.Answers.{answer_of, servers_found, endpoints_found}
use Rattle.ua_conn.specs.server.Answers.{answer_body, opened_body}
use Rattle.ua_conn.specs.Past.{known}
use Rattle.ua_conn.specs.server.Faults.{fault_at, fault_in_rest}
use Rattle.ua_conn.specs.server.Replies.{reply_to, handed_at, spelled}
use Rattle.ua_conn.specs.client.Asker.{Asker}
use Rattle.ua_conn.specs.client.Past.{client_known}
use Rattle.ua_conn.specs.client.Faults.{client_fault_by, client_fault_in_rest}
use Rattle.ua_conn.specs.client.Reading.{answer_at}
use Rattle.ua_conn.specs.client.Questions.{open_asked_body, close_asked_body}
use Rattle.ua_conn.specs.client.Sending.{sent_bytes}
use Rattle.ua_conn.specs.BothEnds.{expected}
use Rattle.ua_conn.specs.Story.{Setup, World, Story, final, story_in}
use Rattle.ua_conn.specs.declared.schedule.Step.{Step}
use Rattle.ua_conn.specs.declared.schedule.Step.TheVariants.{Ask, Renew, Close, Tick, Up, Down}
use Rattle.ua_conn.specs.declared.outcome.End.{End}
use Rattle.ua_conn.specs.declared.outcome.End.TheVariants.{Closed}
use Rattle.ua_conn.specs.declared.client.fault.ClientFault.{ClientFault}
use Rattle.ua_conn.specs.client.Commands.{Act}
use Rattle.ua_conn.specs.client.Commands as commands
use Rattle.ua_conn.specs.client.Asking.{ask_fault}
use Rattle.ua_conn.specs.declared.client.ask_fault.AskFault.{AskFault}
use Rattle.ua_conn.specs.declared.client.ask_fault.AskFault.TheVariants.{NotOpen, TooLarge, RenewPending, StillPending, BadPartLimit}
use Rattle.ua_conn.specs.declared.client.answer.Answer.{Answer}
use Rattle.ua_conn.specs.declared.client.answer.AnswerResult.{AnswerResult}
use Rattle.ua_conn.specs.declared.client.answer.AnswerResult.TheVariants.{Response, Aborted}
use Rattle.ua_conn.proofs.Vectors.{n4, site, hello_with, policy_uri, null, open_body, open_with, open_first, chunk_with, find_body, find_first, close_first, acknowledge, body_opened, opened_first, found_body, found_first}

-- ---- a client and its server

abbrev pub asker_with : ℕ → ℕ → Asker
asker_with max_message max_chunks = record {
  config = record { buffer = 65535; max_message = max_message; max_chunks = max_chunks; lifetime = 0 };
  url = Some (codes "opc.tcp://localhost:4840");
  first_sequence = 1;
  reverse = false;
}

abbrev pub asker : Asker
asker = asker_with 1048576 64

abbrev pub plain_setup : Setup
plain_setup = record { site = site; asker = asker; start = pos 0 }

abbrev pub find_among : ℕ → Option (List (Option (List ℕ))) → Request
find_among handle uris = requests.FindServers (record {
  header = request_header_at (pos 0) handle;
  endpoint_url = Some (codes "opc.tcp://localhost:4840");
  locale_ids = None;
  server_uris = uris;
})

abbrev pub find : ℕ → Request
find handle = find_among handle None

abbrev pub endpoints : ℕ → Request
endpoints handle = requests.GetEndpoints (record {
  header = request_header_at (pos 0) handle;
  endpoint_url = Some (codes "opc.tcp://localhost:4840");
  locale_ids = None;
  profile_uris = None;
})

abbrev pub opening_steps : List Step
opening_steps = Up 56 ∷ Down 28 ∷ Up 132 ∷ Down 135 ∷ []

-- all that there is comes
abbrev pub up : Step
up = Up 100000

abbrev pub down : Step
down = Down 100000

abbrev pub world_of : Setup → List Step → World
world_of s steps = final s (opening_steps ++ steps)

abbrev pub told_by : Setup → List Step → Story
told_by s steps = story_in s (world_of s steps)

abbrev pub told : List Step → Story
told steps = told_by plain_setup steps

abbrev pub hello : List ℕ
hello = hello_with 65535 65535 1048576 64

-- ---- what is compared

abbrev pub is_said : Story → List ℕ → List ℕ → Bool
is_said story sent replied = bytes_eq story.up sent && bytes_eq story.down replied

abbrev pub ids : Story → List ℕ
ids story = map (λ (a : Answer). a.id) story.answers

-- 0 for a response, or the status of an abort
abbrev pub status_of : AnswerResult → ℕ
status_of (Response response) = 0
status_of (Aborted status) = status

abbrev pub statuses : Story → List ℕ
statuses story = map (λ (a : Answer). status_of a.result) story.answers

-- the answers, and how the ends ended
abbrev pub Ends : Story → List ℕ → List ℕ → Option End → Option ClientFault → Type 0
Ends story answered results server client =
    (ids story ≡ answered) × (statuses story ≡ results) × (story.server_end ≡ server) × (story.client_fault ≡ client)

abbrev pub refuses : List Step → Act → Option AskFault
refuses steps act = let w = world_of plain_setup steps in ask_fault asker w.cmds w.down act

-- a request with a token and its answer, a renewal and its answer: token, sequence number, request id
abbrev pub request : ℕ → ℕ → List ℕ
request token n = chunk_with (codes "MSGF") 1 token n n (find_body n)

abbrev pub answered : ℕ → ℕ → ℕ → List ℕ
answered token n id = chunk_with (codes "MSGF") 1 token n id (found_body id 0)

abbrev pub renewal : ℕ → List ℕ
renewal n = open_with 1 policy_uri n n (open_body n 1 1 0)

abbrev pub renewed : ℕ → ℕ → ℕ → List ℕ
renewed token n id = open_with 1 policy_uri n id (body_opened id 0 1 token 3600000)

-- an open request at a moment, with its handle and its type
abbrev pub open_body_at : ℕ → ℕ → ℕ → List ℕ
open_body_at now handle type =
    (1 ∷ 0 ∷ 0xBE ∷ 1 ∷ 0 ∷ 0 ∷ []) ++ to_le_bytes w64 now ++ n4 handle ++ n4 0 ++ null ++ n4 0 ++ (0 ∷ 0 ∷ 0 ∷ []) ++ n4 0 ++ n4 type ++ n4 1 ++ null ++ n4 0

-- ---- stories

-- one request and its answer; the request is the one that is handed on
one_request : let story = told (Ask (find 2) 69 ∷ Up 93 ∷ Down 134 ∷ []) in
    (is_said story (hello ++ open_first ++ find_first) (acknowledge ++ opened_first ++ found_first) ≡ true)
    × Ends story (2 ∷ []) (0 ∷ []) None None
    × (story.asked ≡ find 2 ∷ []) × (story.handed ≡ find 2 ∷ [])
unfolding cuts_within rest_within size_of kind_of hello_layout acknowledge_layout error_layout open_header chunk_header abort_body open_chunk_of chunk_of abort_of fill open_frame chunk_frame unsigned bytes_of is_utf8 chars encode known fault_at fault_in_rest reply_to handed_at spelled answer_body opened_body message request_of response_of request_header response_header open_request open_response close_request service_fault find_servers_request get_endpoints_request find_servers_response get_endpoints_response application_description endpoint_description user_token_policy localized_text answer_of servers_found endpoints_found node_id date_time status_code extension_object extension_body signed array items_at diagnostic within diagnostic_parts client_known client_fault_by client_fault_in_rest answer_at open_asked_body close_asked_body sent_bytes expected
one_request = (refl, (refl, refl, refl, refl), refl, refl)

-- in 35 parts, a byte at a time at first
in_parts : Ends (told (Ask (endpoints 2) 2 ∷ Up 1 ∷ Up 0 ∷ up ∷ Down 7 ∷ down ∷ [])) (2 ∷ []) (0 ∷ []) None None
    × (length (told (Ask (endpoints 2) 2 ∷ [])).up ≡ 188 + 69 + 35 * 24)
    × (refuses [] (commands.Ask (endpoints 2) 1) ≡ Some TooLarge)
    × (refuses [] (commands.Ask (endpoints 2) 0) ≡ Some BadPartLimit)
    × (refuses [] (commands.Ask (endpoints 2) 65512) ≡ Some BadPartLimit)
    × (refuses [] (commands.Ask (endpoints 2) 65511) ≡ None)
unfolding cuts_within rest_within size_of kind_of hello_layout acknowledge_layout error_layout open_header chunk_header abort_body open_chunk_of chunk_of abort_of fill open_frame chunk_frame unsigned bytes_of is_utf8 chars encode known fault_at fault_in_rest reply_to handed_at spelled answer_body opened_body message request_of response_of request_header response_header open_request open_response close_request service_fault find_servers_request get_endpoints_request find_servers_response get_endpoints_response application_description endpoint_description user_token_policy localized_text answer_of servers_found endpoints_found node_id date_time status_code extension_object extension_body signed array items_at diagnostic within diagnostic_parts client_known client_fault_by client_fault_in_rest answer_at open_asked_body close_asked_body sent_bytes expected
in_parts = ((refl, refl, refl, refl), refl, refl, refl, refl, refl)

-- renewals with a request in flight: its answer has the token that it used, and the next one the newest
renewals_between : let story = told (Renew ∷ up ∷ Ask (find 3) 69 ∷ down ∷ Renew ∷ up ∷ down ∷ Ask (find 5) 69 ∷ up ∷ down ∷ []) in
    (is_said story (hello ++ open_first ++ renewal 2 ++ request 1 3 ++ renewal 4 ++ request 3 5)
    (acknowledge ++ opened_first ++ renewed 2 2 2 ++ answered 1 3 3 ++ renewed 3 4 4 ++ answered 3 5 5) ≡ true)
    × Ends story (3 ∷ 5 ∷ []) (0 ∷ 0 ∷ []) None None
unfolding cuts_within rest_within size_of kind_of hello_layout acknowledge_layout error_layout open_header chunk_header abort_body open_chunk_of chunk_of abort_of fill open_frame chunk_frame unsigned bytes_of is_utf8 chars encode known fault_at fault_in_rest reply_to handed_at spelled answer_body opened_body message request_of response_of request_header response_header open_request open_response close_request service_fault find_servers_request get_endpoints_request find_servers_response get_endpoints_response application_description endpoint_description user_token_policy localized_text answer_of servers_found endpoints_found node_id date_time status_code extension_object extension_body signed array items_at diagnostic within diagnostic_parts client_known client_fault_by client_fault_in_rest answer_at open_asked_body close_asked_body sent_bytes expected
renewals_between = (refl, (refl, refl, refl, refl))

-- two requests in flight, each answered under its own id
two_in_flight : Ends (told (Ask (find_among 2 (Some (Some (codes "urn:a") ∷ []))) 80 ∷ Ask (find_among 3 (Some (Some (codes "urn:b") ∷ []))) 80 ∷ up ∷ down ∷ [])) (2 ∷ 3 ∷ []) (0 ∷ 0 ∷ []) None None
unfolding cuts_within rest_within size_of kind_of hello_layout acknowledge_layout error_layout open_header chunk_header abort_body open_chunk_of chunk_of abort_of fill open_frame chunk_frame unsigned bytes_of is_utf8 chars encode known fault_at fault_in_rest reply_to handed_at spelled answer_body opened_body message request_of response_of request_header response_header open_request open_response close_request service_fault find_servers_request get_endpoints_request find_servers_response get_endpoints_response application_description endpoint_description user_token_policy localized_text answer_of servers_found endpoints_found node_id date_time status_code extension_object extension_body signed array items_at diagnostic within diagnostic_parts client_known client_fault_by client_fault_in_rest answer_at open_asked_body close_asked_body sent_bytes expected
two_in_flight = (refl, refl, refl, refl)

-- an answer of 110 bytes to a client that takes 109, and one that it takes
large_answer : Ends (told_by (record plain_setup { asker = asker_with 109 64 }) (Ask (find 2) 69 ∷ Ask (find_among 3 (Some (Some (codes "urn:b") ∷ []))) 80 ∷ up ∷ down ∷ [])) (2 ∷ 3 ∷ []) (0x80B90000 ∷ 0 ∷ []) None None
    × Ends (told_by (record plain_setup { asker = asker_with 110 64 }) (Ask (find 2) 69 ∷ up ∷ down ∷ [])) (2 ∷ []) (0 ∷ []) None None
unfolding cuts_within rest_within size_of kind_of hello_layout acknowledge_layout error_layout open_header chunk_header abort_body open_chunk_of chunk_of abort_of fill open_frame chunk_frame unsigned bytes_of is_utf8 chars encode known fault_at fault_in_rest reply_to handed_at spelled answer_body opened_body message request_of response_of request_header response_header open_request open_response close_request service_fault find_servers_request get_endpoints_request find_servers_response get_endpoints_response application_description endpoint_description user_token_policy localized_text answer_of servers_found endpoints_found node_id date_time status_code extension_object extension_body signed array items_at diagnostic within diagnostic_parts client_known client_fault_by client_fault_in_rest answer_at open_asked_body close_asked_body sent_bytes expected
large_answer = ((refl, refl, refl, refl), (refl, refl, refl, refl))

-- what is closed is not asked any more
closing : Ends (told (Ask (find 2) 69 ∷ up ∷ down ∷ Close ∷ Ask (find 4) 69 ∷ up ∷ down ∷ [])) (2 ∷ []) (0 ∷ []) (Some Closed) None
    × (refuses (Close ∷ []) (commands.Ask (find 3) 69) ≡ Some NotOpen)
    × (refuses (Ask (find 2) 69 ∷ []) commands.Close ≡ Some StillPending)
    × (refuses (Renew ∷ []) commands.Close ≡ Some RenewPending)
    × (refuses (Renew ∷ []) commands.Renew ≡ Some RenewPending)
unfolding cuts_within rest_within size_of kind_of hello_layout acknowledge_layout error_layout open_header chunk_header abort_body open_chunk_of chunk_of abort_of fill open_frame chunk_frame unsigned bytes_of is_utf8 chars encode known fault_at fault_in_rest reply_to handed_at spelled answer_body opened_body message request_of response_of request_header response_header open_request open_response close_request service_fault find_servers_request get_endpoints_request find_servers_response get_endpoints_response application_description endpoint_description user_token_policy localized_text answer_of servers_found endpoints_found node_id date_time status_code extension_object extension_body signed array items_at diagnostic within diagnostic_parts client_known client_fault_by client_fault_in_rest answer_at open_asked_body close_asked_body sent_bytes expected
closing = ((refl, refl, refl, refl), refl, refl, refl, refl)

-- a request beside another and beside a renewal, and a renewal beside a request
beside : (refuses (Ask (find 2) 69 ∷ []) (commands.Ask (find 3) 69) ≡ None)
    × (refuses (Renew ∷ []) (commands.Ask (find 3) 69) ≡ None)
    × (refuses (Ask (find 2) 69 ∷ []) commands.Renew ≡ None)
unfolding cuts_within rest_within size_of kind_of hello_layout acknowledge_layout error_layout open_header chunk_header abort_body open_chunk_of chunk_of abort_of fill open_frame chunk_frame unsigned bytes_of is_utf8 chars encode known fault_at fault_in_rest reply_to handed_at spelled answer_body opened_body message request_of response_of request_header response_header open_request open_response close_request service_fault find_servers_request get_endpoints_request find_servers_response get_endpoints_response application_description endpoint_description user_token_policy localized_text answer_of servers_found endpoints_found node_id date_time status_code extension_object extension_body signed array items_at diagnostic within diagnostic_parts client_known client_fault_by client_fault_in_rest answer_at open_asked_body close_asked_body sent_bytes expected
beside = (refl, refl, refl)

-- the close request, with the moment and the id
closed_bytes : is_said (told (Ask (find 2) 69 ∷ up ∷ down ∷ Close ∷ up ∷ [])) (hello ++ open_first ++ find_first ++ close_first) (acknowledge ++ opened_first ++ found_first) ≡ true
unfolding cuts_within rest_within size_of kind_of hello_layout acknowledge_layout error_layout open_header chunk_header abort_body open_chunk_of chunk_of abort_of fill open_frame chunk_frame unsigned bytes_of is_utf8 chars encode known fault_at fault_in_rest reply_to handed_at spelled answer_body opened_body message request_of response_of request_header response_header open_request open_response close_request service_fault find_servers_request get_endpoints_request find_servers_response get_endpoints_response application_description endpoint_description user_token_policy localized_text answer_of servers_found endpoints_found node_id date_time status_code extension_object extension_body signed array items_at diagnostic within diagnostic_parts client_known client_fault_by client_fault_in_rest answer_at open_asked_body close_asked_body sent_bytes expected
closed_bytes = refl

-- the moments of what is said are those of the steps: the Acknowledge's, and each command's
moments : let story = told_by plain_setup (Tick 5 ∷ Renew ∷ []) in
    let later = story_in plain_setup (final plain_setup (Up 56 ∷ Tick 7 ∷ Down 28 ∷ [])) in
    (bytes_eq (drop 188 story.up) (open_with 1 policy_uri 2 2 (open_body_at 5 2 1)) ≡ true)
    × (bytes_eq (drop 56 later.up) (open_with 0 policy_uri 1 1 (open_body_at 7 1 0)) ≡ true)
unfolding cuts_within rest_within size_of kind_of hello_layout acknowledge_layout error_layout open_header chunk_header abort_body open_chunk_of chunk_of abort_of fill open_frame chunk_frame unsigned bytes_of is_utf8 chars encode known fault_at fault_in_rest reply_to handed_at spelled answer_body opened_body message request_of response_of request_header response_header open_request open_response close_request service_fault find_servers_request get_endpoints_request find_servers_response get_endpoints_response application_description endpoint_description user_token_policy localized_text answer_of servers_found endpoints_found node_id date_time status_code extension_object extension_body signed array items_at diagnostic within diagnostic_parts client_known client_fault_by client_fault_in_rest answer_at open_asked_body close_asked_body sent_bytes expected
moments = (refl, refl)

-- before the Acknowledge nothing is open
not_open : (let w = final plain_setup [] in ask_fault asker w.cmds w.down (commands.Ask (find 2) 69)) ≡ Some NotOpen
unfolding cuts_within rest_within size_of kind_of hello_layout acknowledge_layout error_layout open_header chunk_header abort_body open_chunk_of chunk_of abort_of fill open_frame chunk_frame unsigned bytes_of is_utf8 chars encode known fault_at fault_in_rest reply_to handed_at spelled answer_body opened_body message request_of response_of request_header response_header open_request open_response close_request service_fault find_servers_request get_endpoints_request find_servers_response get_endpoints_response application_description endpoint_description user_token_policy localized_text answer_of servers_found endpoints_found node_id date_time status_code extension_object extension_body signed array items_at diagnostic within diagnostic_parts client_known client_fault_by client_fault_in_rest answer_at open_asked_body close_asked_body sent_bytes expected
not_open = refl

-- a renewal, a request and its answer, three times
rounds : Ends (told (flat_map (λ n. Renew ∷ up ∷ down ∷ Ask (find n) 69 ∷ up ∷ down ∷ []) (3 ∷ 5 ∷ 7 ∷ []))) (3 ∷ 5 ∷ 7 ∷ []) (0 ∷ 0 ∷ 0 ∷ []) None None
unfolding cuts_within rest_within size_of kind_of hello_layout acknowledge_layout error_layout open_header chunk_header abort_body open_chunk_of chunk_of abort_of fill open_frame chunk_frame unsigned bytes_of is_utf8 chars encode known fault_at fault_in_rest reply_to handed_at spelled answer_body opened_body message request_of response_of request_header response_header open_request open_response close_request service_fault find_servers_request get_endpoints_request find_servers_response get_endpoints_response application_description endpoint_description user_token_policy localized_text answer_of servers_found endpoints_found node_id date_time status_code extension_object extension_body signed array items_at diagnostic within diagnostic_parts client_known client_fault_by client_fault_in_rest answer_at open_asked_body close_asked_body sent_bytes expected
rounds = (refl, refl, refl, refl)
