-- What fails where a premise of the law of both ends does not hold: a worked story for each.
use Rattle.std.proofs.Common.{◌≡◌, [], ◌∷◌, refl, Some, None}
use Rattle.std.specs.Str.{is_utf8, chars}
use lib.Utf8.{encode}
use Rattle.ua_value.specs.Number.{unsigned}
use Rattle.ua_value.specs.Text.{bytes_of}
use Rattle.ua_frame.specs.Streams.{cuts_within, rest_within, size_of}
use Rattle.ua_frame.specs.Layout.{kind_of}
use Rattle.ua_frame.specs.Hello.{hello_layout, acknowledge_layout, error_layout}
use Rattle.ua_chunk.specs.Layout.{open_header, chunk_header, abort_body, open_chunk_of, chunk_of, abort_of}
use Rattle.ua_chunk.specs.Cut.{fill}
use Rattle.ua_chunk.specs.Written.{open_frame, chunk_frame}
use Rattle.ua_value.specs.Number.{signed}
use Rattle.ua_value.specs.Node.{node_id}
use Rattle.ua_value.specs.Date.{date_time}
use Rattle.ua_value.specs.Localized.{localized_text}
use Rattle.ua_value.specs.Status.{status_code}
use Rattle.ua_value.specs.Array.{array, items_at}
use Rattle.ua_variant.specs.Extension.{extension_object, extension_body}
use Rattle.ua_variant.specs.Diagnostic.{diagnostic, within}
use Rattle.ua_variant.specs.DiagnosticParts.{diagnostic_parts}
use Rattle.ua_service.specs.Message.{message}
use Rattle.ua_service.specs.Requests.{request_of}
use Rattle.ua_service.specs.Responses.{response_of}
use Rattle.ua_service.specs.Headers.{request_header, response_header, service_fault}
use Rattle.ua_service.specs.Channel.{open_request, open_response, close_request}
use Rattle.ua_service.specs.Discovery.{find_servers_request, find_servers_response, get_endpoints_request, get_endpoints_response}
use Rattle.ua_service.specs.Application.{application_description}
use Rattle.ua_service.specs.Endpoint.{endpoint_description, user_token_policy}
use Rattle.ua_disco.specs.Answers.{answer_of, servers_found, endpoints_found}
use Rattle.ua_conn.specs.server.Answers.{answer_body, opened_body}
use Rattle.ua_conn.specs.Past.{known}
use Rattle.ua_conn.specs.server.Faults.{fault_at, fault_in_rest}
use Rattle.ua_conn.specs.server.Replies.{reply_to, handed_at, spelled}
use Rattle.ua_conn.specs.client.Past.{client_known}
use Rattle.ua_conn.specs.client.Faults.{client_fault_by, client_fault_in_rest}
use Rattle.ua_conn.specs.client.Reading.{answer_at}
use Rattle.ua_conn.specs.client.Questions.{open_asked_body, close_asked_body}
use Rattle.ua_conn.specs.client.Sending.{sent_bytes}
use Rattle.ua_conn.specs.BothEnds.{expected}
use Rattle.ua_conn.specs.declared.schedule.Step.TheVariants.{Ask, Tick, Up, Down}
use Rattle.ua_conn.specs.declared.outcome.End.TheVariants.{Refused}
use Rattle.ua_conn.specs.declared.client.fault.ClientFault.TheVariants.{ServerSaid, Broken}
use Rattle.ua_conn.proofs.BothEnds.WorkedStories.{Ends, told, find, up, down}

-- A token that is dead when its request comes: the server refuses it. One tick before, it lives.
dead_at_the_server : Ends (told (Tick 45000000000 ∷ Ask (find 2) 69 ∷ up ∷ down ∷ [])) [] [] (Some (Refused 0x80870000)) (Some (ServerSaid 0x80870000 None))
    × Ends (told (Tick 44999999999 ∷ Ask (find 2) 69 ∷ up ∷ down ∷ [])) (2 ∷ []) (0 ∷ []) None None
unfolding cuts_within rest_within size_of kind_of hello_layout acknowledge_layout error_layout open_header chunk_header abort_body open_chunk_of chunk_of abort_of fill open_frame chunk_frame unsigned bytes_of is_utf8 chars encode known fault_at fault_in_rest reply_to handed_at spelled answer_body opened_body message request_of response_of request_header response_header open_request open_response close_request service_fault find_servers_request get_endpoints_request find_servers_response get_endpoints_response application_description endpoint_description user_token_policy localized_text answer_of servers_found endpoints_found node_id date_time status_code extension_object extension_body signed array items_at diagnostic within diagnostic_parts client_known client_fault_by client_fault_in_rest answer_at open_asked_body close_asked_body sent_bytes expected
dead_at_the_server = ((refl, refl, refl, refl), (refl, refl, refl, refl))

-- A token that is dead when its answer comes: the client refuses it.
dead_at_the_client : Ends (told (Ask (find 2) 69 ∷ up ∷ Tick 45000000000 ∷ down ∷ [])) [] [] None (Some (Broken 0x80870000))
    × Ends (told (Ask (find 2) 69 ∷ up ∷ Tick 44999999999 ∷ down ∷ [])) (2 ∷ []) (0 ∷ []) None None
unfolding cuts_within rest_within size_of kind_of hello_layout acknowledge_layout error_layout open_header chunk_header abort_body open_chunk_of chunk_of abort_of fill open_frame chunk_frame unsigned bytes_of is_utf8 chars encode known fault_at fault_in_rest reply_to handed_at spelled answer_body opened_body message request_of response_of request_header response_header open_request open_response close_request service_fault find_servers_request get_endpoints_request find_servers_response get_endpoints_response application_description endpoint_description user_token_policy localized_text answer_of servers_found endpoints_found node_id date_time status_code extension_object extension_body signed array items_at diagnostic within diagnostic_parts client_known client_fault_by client_fault_in_rest answer_at open_asked_body close_asked_body sent_bytes expected
dead_at_the_client = ((refl, refl, refl, refl), (refl, refl, refl, refl))

-- A request of which the last byte is not delivered: it is not handed on.
request_not_delivered : let story = told (Ask (find 2) 69 ∷ Up 92 ∷ down ∷ []) in
    Ends story [] [] None None × (story.asked ≡ find 2 ∷ []) × (story.handed ≡ [])
unfolding cuts_within rest_within size_of kind_of hello_layout acknowledge_layout error_layout open_header chunk_header abort_body open_chunk_of chunk_of abort_of fill open_frame chunk_frame unsigned bytes_of is_utf8 chars encode known fault_at fault_in_rest reply_to handed_at spelled answer_body opened_body message request_of response_of request_header response_header open_request open_response close_request service_fault find_servers_request get_endpoints_request find_servers_response get_endpoints_response application_description endpoint_description user_token_policy localized_text answer_of servers_found endpoints_found node_id date_time status_code extension_object extension_body signed array items_at diagnostic within diagnostic_parts client_known client_fault_by client_fault_in_rest answer_at open_asked_body close_asked_body sent_bytes expected
request_not_delivered = ((refl, refl, refl, refl), refl, refl)

-- An answer of which the last byte is not delivered: it is missing.
answer_not_delivered : let story = told (Ask (find 2) 69 ∷ up ∷ Down 133 ∷ []) in
    Ends story [] [] None None × (story.asked ≡ find 2 ∷ []) × (story.handed ≡ find 2 ∷ [])
unfolding cuts_within rest_within size_of kind_of hello_layout acknowledge_layout error_layout open_header chunk_header abort_body open_chunk_of chunk_of abort_of fill open_frame chunk_frame unsigned bytes_of is_utf8 chars encode known fault_at fault_in_rest reply_to handed_at spelled answer_body opened_body message request_of response_of request_header response_header open_request open_response close_request service_fault find_servers_request get_endpoints_request find_servers_response get_endpoints_response application_description endpoint_description user_token_policy localized_text answer_of servers_found endpoints_found node_id date_time status_code extension_object extension_body signed array items_at diagnostic within diagnostic_parts client_known client_fault_by client_fault_in_rest answer_at open_asked_body close_asked_body sent_bytes expected
answer_not_delivered = ((refl, refl, refl, refl), refl, refl)
