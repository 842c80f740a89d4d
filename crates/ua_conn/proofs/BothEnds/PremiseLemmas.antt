-- The premises of the law of both ends can be met: a worked story meets each.
use Rattle.std.proofs.Common.{arith, ◌≡◌, ℕ, true, false, List, [], ◌∷◌, ◌++◌, length, refl}
use Rattle.std.specs.Prelude.{pos, codes, ◌≤◌, IsUtf8}
use Rattle.std.specs.Str.{is_utf8, chars, bytes_eq}
use lib.Utf8.{encode}
use Rattle.ua_value.specs.Number.{unsigned, signed}
use Rattle.ua_value.specs.Text.{bytes_of, longest}
use Rattle.ua_frame.specs.Streams.{cuts_within, rest_within, size_of, plain}
use Rattle.ua_frame.specs.Layout.{kind_of}
use Rattle.ua_frame.specs.Hello.{hello_layout, acknowledge_layout, error_layout}
use Rattle.ua_chunk.specs.Layout.{open_header, chunk_header, abort_body, open_chunk_of, chunk_of, abort_of}
use Rattle.ua_chunk.specs.Cut.{fill}
use Rattle.ua_chunk.specs.Written.{open_frame, chunk_frame}
use Rattle.ua_value.specs.Node.{node_id}
use Rattle.ua_value.specs.Date.{date_time}
use Rattle.ua_value.specs.Localized.{localized_text}
use Rattle.ua_value.specs.Status.{status_code}
use Rattle.ua_value.specs.Array.{array, items_at}
use Rattle.ua_variant.specs.Extension.{extension_object, extension_body}
use Rattle.ua_variant.specs.Diagnostic.{diagnostic, within}
use Rattle.ua_variant.specs.DiagnosticParts.{diagnostic_parts}
use Rattle.ua_service.specs.Message.{message}
use Rattle.ua_service.specs.Requests.{request_of}
use Rattle.ua_service.specs.Responses.{response_of}
use Rattle.ua_service.specs.Headers.{request_header_at, request_header, response_header, service_fault}
use Rattle.ua_service.specs.Channel.{open_request, open_response, close_request}
use Rattle.ua_service.specs.Discovery.{find_servers_request, find_servers_response, get_endpoints_request, get_endpoints_response}
use Rattle.ua_service.specs.Application.{application_description}
use Rattle.ua_service.specs.Endpoint.{endpoint_description, user_token_policy}
use Rattle.ua_disco.specs.Answers.{answer_of, servers_found, endpoints_found}
use Rattle.ua_conn.specs.server.Answers.{answer_body, opened_body}
use Rattle.ua_conn.specs.Past.{known}
use Rattle.ua_conn.specs.server.Faults.{fault_at, fault_in_rest}
use Rattle.ua_conn.specs.server.Replies.{reply_to, handed_at, spelled}
use Rattle.ua_conn.specs.client.Past.{client_known}
use Rattle.ua_conn.specs.client.Faults.{client_fault_by, client_fault_in_rest}
use Rattle.ua_conn.specs.client.Reading.{answer_at}
use Rattle.ua_conn.specs.client.Questions.{open_asked_body, close_asked_body}
use Rattle.ua_conn.specs.client.Sending.{sent_bytes}
use Rattle.ua_conn.specs.BothEnds.{expected, IsConfig, IsSetup, IsSchedule, TokensLive}
use Rattle.ua_conn.specs.Story.{World, client_stream, server_stream}
use Rattle.ua_conn.specs.declared.schedule.Step.{Step}
use Rattle.ua_conn.specs.declared.schedule.Step.TheVariants.{Ask, Up, Down}
use Rattle.std.proofs.lemmas.Str.{IsUtf8-from_is_utf8}
use Rattle.ua_conn.proofs.BothEnds.WorkedStories.{asker, plain_setup, find, world_of, opening_steps}
use Rattle.ua_conn.proofs.BothEnds.SettingsLemmas.{settings_are}

is_config : IsConfig asker.config
is_config = record { buffer_least = omega arith; buffer_most = omega arith; message_least = omega arith; message_most = omega arith; chunks_least = omega arith; chunks_most = omega arith; lifetime = omega arith }

-- one request and its answer
abbrev steps_of_one : List Step
steps_of_one = Ask (find 2) 69 ∷ Up 93 ∷ Down 134 ∷ []

abbrev world : World
world = world_of plain_setup steps_of_one

not_here : {A : Type 0} → false ≡ true → A
not_here h = absurd (cc h)

tokens_live : TokensLive world
unfolding cuts_within rest_within size_of kind_of hello_layout acknowledge_layout error_layout open_header chunk_header abort_body open_chunk_of chunk_of abort_of fill open_frame chunk_frame unsigned bytes_of is_utf8 chars encode known fault_at fault_in_rest reply_to handed_at spelled answer_body opened_body message request_of response_of request_header response_header open_request open_response close_request service_fault find_servers_request get_endpoints_request find_servers_response get_endpoints_response application_description endpoint_description user_token_policy localized_text answer_of servers_found endpoints_found node_id date_time status_code extension_object extension_body signed array items_at diagnostic within diagnostic_parts client_known client_fault_by client_fault_in_rest answer_at open_asked_body close_asked_body sent_bytes expected
tokens_live = record { up = (not_here, (not_here, (λ h. refl, tt))); down = (not_here, (not_here, (λ h. refl, tt))) }

delivered_all : (bytes_eq (plain world.up) (client_stream plain_setup world) ≡ true) × (bytes_eq (plain world.down) (server_stream plain_setup world) ≡ true)
unfolding cuts_within rest_within size_of kind_of hello_layout acknowledge_layout error_layout open_header chunk_header abort_body open_chunk_of chunk_of abort_of fill open_frame chunk_frame unsigned bytes_of is_utf8 chars encode known fault_at fault_in_rest reply_to handed_at spelled answer_body opened_body message request_of response_of request_header response_header open_request open_response close_request service_fault find_servers_request get_endpoints_request find_servers_response get_endpoints_response application_description endpoint_description user_token_policy localized_text answer_of servers_found endpoints_found node_id date_time status_code extension_object extension_body signed array items_at diagnostic within diagnostic_parts client_known client_fault_by client_fault_in_rest answer_at open_asked_body close_asked_body sent_bytes expected
delivered_all = (refl, refl)

abbrev IsText : List ℕ → Type 0
IsText text = (length text ≤ longest) × IsUtf8 text

text : (t : List ℕ) → length t ≤ longest → is_utf8 t ≡ true → IsText t
text t le e = (le, IsUtf8-from_is_utf8 t e)

is_setup : IsSetup plain_setup
unfolding cuts_within rest_within size_of kind_of hello_layout acknowledge_layout error_layout open_header chunk_header abort_body open_chunk_of chunk_of abort_of fill open_frame chunk_frame unsigned bytes_of is_utf8 chars encode known fault_at fault_in_rest reply_to handed_at spelled answer_body opened_body message request_of response_of request_header response_header open_request open_response close_request service_fault find_servers_request get_endpoints_request find_servers_response get_endpoints_response application_description endpoint_description user_token_policy localized_text answer_of servers_found endpoints_found node_id date_time status_code extension_object extension_body signed array items_at diagnostic within diagnostic_parts client_known client_fault_by client_fault_in_rest answer_at open_asked_body close_asked_body sent_bytes expected
is_setup = record {
  site = record { settings = settings_are; channel = omega arith; channel_most = omega arith };
  asker = record { config = is_config; url = λ _. refl; text = text (codes "opc.tcp://localhost:4840") (omega arith) refl; first_least = omega arith; first_most = omega arith };
  start = omega arith;
  opens = λ e. absurd (cc e);
}

is_schedule : IsSchedule (opening_steps ++ steps_of_one)
unfolding cuts_within rest_within size_of kind_of hello_layout acknowledge_layout error_layout open_header chunk_header abort_body open_chunk_of chunk_of abort_of fill open_frame chunk_frame unsigned bytes_of is_utf8 chars encode known fault_at fault_in_rest reply_to handed_at spelled answer_body opened_body message request_of response_of request_header response_header open_request open_response close_request service_fault find_servers_request get_endpoints_request find_servers_response get_endpoints_response application_description endpoint_description user_token_policy localized_text answer_of servers_found endpoints_found node_id date_time status_code extension_object extension_body signed array items_at diagnostic within diagnostic_parts client_known client_fault_by client_fault_in_rest answer_at open_asked_body close_asked_body sent_bytes expected
is_schedule =
    let url : IsText (codes "opc.tcp://localhost:4840") = text _ (omega arith) refl in
    let header : request_header.IsValue (request_header_at (pos 0) 2) = ((omega arith, omega arith), (omega arith, (omega arith, (omega arith, (tt, (omega arith, ((omega arith, omega arith), tt))))))) in
    (tt, (tt, (tt, (tt, ((header, (url, (tt, tt))), (tt, (tt, tt)))))))
