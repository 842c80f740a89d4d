-- The table of refusals of a client, at one frame behind others. OPC 10000-6, 6.7 and 7.1; OPC 10000-4, 5.6.2.
use Rattle.std.specs.Prelude.{ℕ, Bool, true, false, not, ◌&&◌, ◌||◌, ◌==◌, nat_le, List, [], ◌∷◌, ◌++◌, map, length, Option, Some, None, is_some, is_none, option_map, if◌then◌else◌}
use Rattle.ua_frame.specs.Layout.{Frame, kind_of, flag_of, fields_of}
use Rattle.ua_frame.specs.Rows.{Row, first_row, or_else}
use Rattle.ua_frame.specs.HeaderRows.{header_fault}
use Rattle.ua_frame.specs.Hello.{is_acceptable, is_long}
use Rattle.ua_frame.specs.declared.kind.Kind.{Kind}
use Rattle.ua_frame.specs.declared.kind.Kind.TheVariants as kinds
use Rattle.ua_frame.specs.declared.acknowledge.Ack.{Ack}
use Rattle.ua_frame.specs.declared.error_frame.ErrorFrame.{ErrorFrame}
use Rattle.ua_frame.specs.declared.reverse_hello.ReverseHello.{ReverseHello}
use Rattle.ua_chunk.specs.Layout.{OpenChunk, Chunk, chunk_of}
use Rattle.ua_chunk.specs.Half.{body_of, other_request_id, message_too_large, abort_malformed}
use Rattle.ua_channel.specs.Token.{is_usable}
use Rattle.ua_channel.specs.Admission.{admit_rows_by}
use Rattle.ua_channel.specs.ClientChannel.{admit_response_rows}
use Rattle.ua_service.specs.declared.channel.OpenResponse.{OpenResponse}
use Rattle.ua_service.specs.declared.request.Request.{Request}
use Rattle.ua_service.specs.declared.request.Request.TheVariants as requests
use Rattle.ua_service.specs.declared.response.Response.{Response}
use Rattle.ua_service.specs.declared.response.Response.TheVariants as responses
use Rattle.ua_service.specs.ChannelMessages.{open_response_of}
use Rattle.ua_service.specs.Responses.{response_of}
use Rattle.ua_conn.specs.FirstFrame.{greatest_first_frame}
use Rattle.ua_conn.specs.Past.{is_open, is_message, carried, open_in}
use Rattle.ua_conn.specs.client.Past.{ClientKnown, client_channel, is_acknowledge, acknowledge_in, error_in, is_reverse, reverse_in}
use Rattle.ua_conn.specs.client.Asker.{Asker, hello_by}
use Rattle.ua_conn.specs.declared.client.fault.ClientFault.{ClientFault}
use Rattle.ua_conn.specs.declared.client.fault.ClientFault.TheVariants.{ServerSaid, Broken}

-- ---- rows with the fault that they bring

abbrev pub FaultRow : Type 0
FaultRow = Bool × ClientFault

abbrev pub broken : List Row → List FaultRow
broken rows = map (λ row. (row.0, Broken row.1)) rows

-- ---- the header and the type

-- the greatest frame: that of the first ones before the Acknowledge, what it says afterwards
abbrev pub greatest_answer : Option Ack → ℕ
greatest_answer None = greatest_first_frame
greatest_answer (Some ack) = ack.send

-- A ReverseHello while one is awaited; then an Acknowledge, then an OPN, then MSG, and OPN while a renewal is pending.
abbrev pub is_awaited : Bool → ClientKnown → Option ℕ → Option Kind → Bool
is_awaited reverse k due kind =
    if reverse then is_reverse kind
    else (if is_none k.ack then is_acknowledge kind
    else (if length k.tokens == 0 then is_open kind
    else is_message kind || (is_open kind && is_some due)))

-- ---- an ERR

-- what the server says, or error layout
abbrev pub error_rows : Option ErrorFrame → List FaultRow
error_rows None = (true, Broken 0x80070000) ∷ []
error_rows (Some e) = (true, ServerSaid e.status e.reason) ∷ []

-- ---- an RHE

-- reverse hello layout; url too long. The server's URI may be any.
abbrev pub reverse_rows : Option ReverseHello → List Row
reverse_rows None = (true, 0x80070000) ∷ []
reverse_rows (Some hello) = (is_long hello.endpoint_url, 0x80830000) ∷ []

-- ---- an ACK

-- acknowledge layout; acknowledge not acceptable
abbrev pub acknowledge_rows : Asker → Option Ack → List Row
acknowledge_rows a None = (true, 0x80070000) ∷ []
acknowledge_rows a (Some ack) = (not (is_acceptable (hello_by a) ack), 0x80810000) ∷ []

-- ---- an OPN

abbrev pub is_id : Option ℕ → ℕ → Bool
is_id None id = false
is_id (Some due) id = due == id

-- open body; service refused, with the result of the service; channel in the body
abbrev pub response_rows : ℕ → Option OpenResponse → List FaultRow
response_rows channel None = (true, Broken 0x80070000) ∷ []
response_rows channel (Some response) =
    (nat_le 0x80000000 response.header.service_result.0, ServerSaid response.header.service_result.0 None)
    ∷ (not (response.channel_id == channel), Broken 0x807F0000)
    ∷ []

-- open channel, policy, open sequence number; open inside a message, other open request
abbrev pub opening_rows : ClientKnown → Option ℕ → OpenChunk → List Row
opening_rows k due opening =
    admit_response_rows (client_channel k) opening
    ++ (is_some k.half, 0x807E0000)
    ∷ (not (is_id due opening.request_id), 0x80090000)
    ∷ []

-- open layout, and the rows above; due is the id of the open request that is pending
abbrev pub opened_rows : ClientKnown → Option ℕ → Option OpenChunk → List FaultRow
opened_rows k due None = (true, Broken 0x80070000) ∷ []
opened_rows k due (Some opening) = broken (opening_rows k due opening) ++ response_rows opening.channel (open_response_of opening.body)

-- ---- a MSG

-- Each service is answered by its own response, or by a fault.
abbrev pub fits : Request → Response → Bool
fits request (responses.Fault m) = true
fits (requests.FindServers q) (responses.FindServers m) = true
fits (requests.GetEndpoints q) (responses.GetEndpoints m) = true
fits request response = false

abbrev pub is_unfit : Option Request → Option Response → Bool
is_unfit (Some request) (Some response) = not (fits request response)
is_unfit request response = false

-- message layout; message channel, token, message sequence number
abbrev pub answer_admitted_rows : ClientKnown → Bool → Frame → List Row
answer_admitted_rows k usable f =
    (is_none (chunk_of (fields_of f.bytes)), 0x80070000)
    ∷ admit_rows_by (client_channel k) (carried f) usable

-- the rows of a message's last part: message body, answer of another service
abbrev pub whole_rows : Option Request → Option Response → List Row
whole_rows wanted response =
    (is_none response, 0x80070000)
    ∷ (is_unfit wanted response, 0x80090000)
    ∷ []

-- the response that the part makes whole with those before it
abbrev pub whole_response : ClientKnown → Chunk → Option Response
whole_response k chunk = response_of (body_of k.half ++ chunk.body)

-- Other request id, not pending, own limits, and of message body an abort's; then the rows of a whole message.
-- wanted is the pending request of the frame's id.
abbrev pub answer_rows : Asker → ClientKnown → Option Request → ℕ → Chunk → List Row
answer_rows a k wanted flag chunk =
    other_request_id k.half chunk.request_id
    ∷ (is_none wanted, 0x80090000)
    ∷ message_too_large a.config.max_message a.config.max_chunks k.half flag chunk.body
    ∷ abort_malformed flag chunk.body
    ∷ (if flag == 70 then whole_rows wanted (whole_response k chunk) else [])

-- ---- the table

-- the rows of the frame's type
abbrev pub awaited_rows : Asker → ClientKnown → Option ℕ → Option Request → Bool → Frame → ℕ → Option Kind → List FaultRow
awaited_rows a k due wanted usable f flag (Some kinds.ReverseHello) = broken (reverse_rows (reverse_in f))
awaited_rows a k due wanted usable f flag (Some kinds.Acknowledge) = broken (acknowledge_rows a (acknowledge_in f))
awaited_rows a k due wanted usable f flag (Some kinds.Open) = opened_rows k due (open_in f)
awaited_rows a k due wanted usable f flag (Some kinds.Message) = broken (answer_admitted_rows k usable f ++ answer_rows a k wanted flag (carried f))
awaited_rows a k due wanted usable f flag kind = []

-- An ERR may come at any time; of any other frame, type out of turn, and the rows of the type.
abbrev pub client_rows : Asker → Bool → ClientKnown → Option ℕ → Option Request → Bool → Frame → ℕ → Option Kind → List FaultRow
client_rows a reverse k due wanted usable f flag (Some kinds.Error) = error_rows (error_in f)
client_rows a reverse k due wanted usable f flag kind = (not (is_awaited reverse k due kind), Broken 0x807E0000) ∷ awaited_rows a k due wanted usable f flag kind

-- The whole table, at a whole frame. Whether a ReverseHello is awaited, and whether its token is usable, is said apart.
unfoldable pub client_fault_by : Asker → Bool → ClientKnown → Option ℕ → Option Request → Bool → Frame → Option ClientFault
client_fault_by a reverse k due wanted usable f =
    or_else (option_map Broken (header_fault (greatest_answer k.ack) f.bytes)) (first_row (client_rows a reverse k due wanted usable f (flag_of f.bytes) (kind_of f.bytes)))

-- its token is one of the two newest, and alive at its moment
abbrev pub token_usable : ClientKnown → Frame → Bool
token_usable k f = is_usable k.tokens (carried f).token f.moment

-- the table where no whole frame is: the header rows alone, as soon as eight bytes are there
unfoldable pub client_fault_in_rest : ClientKnown → List ℕ → Option ClientFault
client_fault_in_rest k rest = option_map Broken (header_fault (greatest_answer k.ack) rest)
