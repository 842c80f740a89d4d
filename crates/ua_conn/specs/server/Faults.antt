-- The server's refusals: at each place the first row that holds. OPC 10000-6, 6.7 and 7.1.5; OPC 10000-4, 7.39.2 (status codes).
use Rattle.std.specs.Prelude.{ℕ, Bool, true, not, ◌&&◌, ◌==◌, List, [], ◌∷◌, ◌++◌, length, Option, Some, None, is_some, is_none, if◌then◌else◌}
use Rattle.ua_frame.specs.Layout.{Frame, kind_of, flag_of, fields_of}
use Rattle.ua_frame.specs.Rows.{Row, first_row, or_else}
use Rattle.ua_frame.specs.HeaderRows.{header_fault}
use Rattle.ua_frame.specs.Hello.{hello_rows}
use Rattle.ua_frame.specs.declared.kind.Kind.{Kind}
use Rattle.ua_frame.specs.declared.kind.Kind.TheVariants as kinds
use Rattle.ua_chunk.specs.Layout.{OpenChunk, Chunk, chunk_of}
use Rattle.ua_chunk.specs.Half.{body_of, part_rows}
use Rattle.ua_channel.specs.Token.{is_usable}
use Rattle.ua_channel.specs.Channel.{Channel}
use Rattle.ua_channel.specs.Admission.{admit_open_rows, issue_rows, admit_rows_by}
use Rattle.ua_service.specs.declared.channel.OpenRequest.{OpenRequest}
use Rattle.ua_conn.specs.server.Site.{Site}
use Rattle.ua_conn.specs.FirstFrame.{greatest_first_frame}
use Rattle.ua_conn.specs.Past.{Known, Agreed, is_hello, is_open, has_number, hello_in, open_in, carried}
use Rattle.ua_service.specs.ChannelMessages.{open_of, close_of}
use Rattle.ua_service.specs.Requests.{request_of}

-- ---- the header and the type

-- the greatest frame: that of the first ones before the Acknowledge, what it says afterwards
abbrev pub greatest_frame : Option Agreed → ℕ
greatest_frame None = greatest_first_frame
greatest_frame (Some agreed) = agreed.ack.receive

-- no OpenSecureChannel request was granted yet. OPC 10000-4, 5.6.2.
abbrev pub is_unopened : Known → Bool
is_unopened k = length k.tokens == 0

-- First a Hello, then an OPN, then MSG, OPN and CLO.
abbrev pub is_allowed : Known → Option Kind → Bool
is_allowed k kind =
    if is_none k.limits then is_hello kind
    else (if is_unopened k then is_open kind
    else has_number kind)

-- ---- an OPN

-- what its channel knows
abbrev pub channel_of : Site → Known → Channel
channel_of site k = record { id = site.channel; tokens = k.tokens; last = k.last; used = k.used }

-- open body; request type, security mode, token ids spent
abbrev pub request_rows : Site → Known → Option OpenRequest → List Row
request_rows site k None = (true, 0x80070000) ∷ []
request_rows site k (Some request) = issue_rows (channel_of site k) request

-- open layout; open channel, policy, open sequence number; open inside a message; and the rows of its body
abbrev pub open_rows : Site → Known → Option OpenChunk → List Row
open_rows site k None = (true, 0x80070000) ∷ []
open_rows site k (Some opening) =
    admit_open_rows (channel_of site k) opening
    ++ (is_some k.half, 0x807E0000)
    ∷ request_rows site k (open_of opening.body)

-- ---- a MSG or CLO

-- its token is one of the two newest, and alive at its moment
abbrev pub names_usable : Known → Frame → Bool
names_usable k f = is_usable k.tokens (carried f).token f.moment

-- message layout; message channel, token, message sequence number. Whether its token is usable is said apart.
abbrev pub chunk_rows_by : Site → Known → Frame → Bool → List Row
chunk_rows_by site k f usable =
    (is_none (chunk_of (fields_of f.bytes)), 0x80070000)
    ∷ admit_rows_by (channel_of site k) (carried f) usable

-- Other request id, message too large, and of message body an abort's; then, of message body, a whole request's.
abbrev pub message_rows : Site → Known → ℕ → Chunk → List Row
message_rows site k flag chunk =
    part_rows site.settings.limits.max_message site.settings.limits.max_chunks k.half flag chunk.request_id chunk.body
    ++ (flag == 70 && is_none (request_of (body_of k.half ++ chunk.body)), 0x80070000)
    ∷ []

-- message body: a close request's
abbrev pub close_rows : Chunk → List Row
close_rows chunk = (is_none (close_of chunk.body), 0x80070000) ∷ []

-- ---- the table

-- the rows of the frame's type; of a Hello: hello layout, url too long, buffer too small
abbrev pub type_rows_by : Site → Known → Frame → Bool → ℕ → Option Kind → List Row
type_rows_by site k f usable flag (Some kinds.Hello) = hello_rows (hello_in f)
type_rows_by site k f usable flag (Some kinds.Open) = open_rows site k (open_in f)
type_rows_by site k f usable flag (Some kinds.Message) = chunk_rows_by site k f usable ++ message_rows site k flag (carried f)
type_rows_by site k f usable flag (Some kinds.Close) = chunk_rows_by site k f usable ++ close_rows (carried f)
type_rows_by site k f usable flag kind = []

abbrev pub type_rows : Site → Known → Frame → ℕ → Option Kind → List Row
type_rows site k f flag kind = type_rows_by site k f (names_usable k f) flag kind

-- type out of turn, and the rows of the type
abbrev pub frame_rows_by : Site → Known → Frame → Bool → Option Kind → ℕ → List Row
frame_rows_by site k f usable kind flag = (not (is_allowed k kind), 0x807E0000) ∷ type_rows_by site k f usable flag kind

abbrev pub frame_rows : Site → Known → Frame → Option Kind → ℕ → List Row
frame_rows site k f kind flag = frame_rows_by site k f (names_usable k f) kind flag

-- The whole table, with what is said of the token in the place of its test.
unfoldable pub fault_by : Site → Known → Frame → Bool → Option ℕ
fault_by site k f usable =
    or_else (header_fault (greatest_frame k.limits) f.bytes) (first_row (frame_rows_by site k f usable (kind_of f.bytes) (flag_of f.bytes)))

-- The whole table, at a whole frame: unknown type, wrong flag, size under a header, size over the limit, and then the rows above.
unfoldable pub fault_at : Site → Known → Frame → Option ℕ
fault_at site k f =
    or_else (header_fault (greatest_frame k.limits) f.bytes) (first_row (frame_rows site k f (kind_of f.bytes) (flag_of f.bytes)))

-- the table where no whole frame is: the header rows alone, as soon as eight bytes are there
unfoldable pub fault_in_rest : Known → List ℕ → Option ℕ
fault_in_rest k rest = header_fault (greatest_frame k.limits) rest
