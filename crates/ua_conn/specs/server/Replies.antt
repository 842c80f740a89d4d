-- What the server answers to a stream, which requests it hands on, and how it ends.
use Rattle.std.specs.Prelude.{ℕ, ◌+◌, ◌-◌, Bool, true, false, not, ◌&&◌, ◌||◌, ◌==◌, nat_lt, List, [], ◌∷◌, ◌++◌, map, length, Option, Some, None, if◌then◌else◌}
use Rattle.ua_frame.specs.Streams.{TimedByte, plain, rest_of}
use Rattle.ua_frame.specs.Layout.{Frame, frames_of, kind_of, flag_of}
use Rattle.ua_frame.specs.Hello.{negotiated, acknowledge_frame, error_frame}
use Rattle.ua_frame.specs.declared.kind.Kind.{Kind}
use Rattle.ua_frame.specs.declared.kind.Kind.TheVariants as kinds
use Rattle.ua_frame.specs.declared.hello.Hello.{Hello}
use Rattle.ua_frame.specs.declared.acknowledge.Ack.{Ack}
use Rattle.ua_chunk.specs.Layout.{OpenChunk, abort_bytes}
use Rattle.ua_chunk.specs.Half.{body_of}
use Rattle.ua_chunk.specs.Written.{open_frame, part_frame}
use Rattle.ua_chunk.specs.Cut.{Part, fill, part_count}
use Rattle.ua_chunk.specs.Numbers.{number_after}
use Rattle.ua_channel.specs.Token.{next_token}
use Rattle.ua_channel.specs.Channel.{most}
use Rattle.ua_service.specs.declared.channel.OpenRequest.{OpenRequest}
use Rattle.ua_service.specs.declared.request.Request.{Request}
use Rattle.ua_conn.specs.server.Site.{Site}
use Rattle.ua_conn.specs.Past.{Past, Agreed, Known, known, is_message, is_close, hello_in, open_in, carried, asked_open}
use Rattle.ua_conn.specs.server.Faults.{fault_at, fault_in_rest}
use Rattle.ua_conn.specs.declared.outcome.End.{End}
use Rattle.ua_conn.specs.declared.outcome.End.TheVariants.{Closed, InputEnded, Truncated, Refused}
use Rattle.ua_service.specs.Requests.{request_of}
use Rattle.ua_conn.specs.server.Answers.{answer_body, opened_body}
use Rattle.ua_conn.specs.server.Greeting.{greeting}

-- ---- frames of the reply

-- a frame of the reply, but for its sequence number
pub data Reply : Type 0 where
  Acknowledge : Ack → Reply
  -- request id and body
  Opened : ℕ → List ℕ → Reply
  -- token, and a part of an answer
  Answer : ℕ → Part → Reply
  Failed : ℕ → Reply

abbrev pub is_numbered : Reply → Bool
is_numbered (Acknowledge ack) = false
is_numbered (Opened id body) = true
is_numbered (Answer token part) = true
is_numbered (Failed status) = false

-- the frame; n is its sequence number, where it has one. OPC 10000-6, 6.7.2 and 7.1.2.
unfoldable pub spelled : Site → ℕ → Reply → List ℕ
spelled site n (Acknowledge ack) = acknowledge_frame ack
spelled site n (Opened id body) = open_frame site.channel n id body
spelled site n (Answer token part) = part_frame site.channel token n part
spelled site n (Failed status) = error_frame (record { status = status; reason = None })

-- how many frames are numbered, after n others
abbrev pub more_numbered : ℕ → Reply → ℕ
more_numbered n reply = if is_numbered reply then n + 1 else n

abbrev pub numbered_after : ℕ → List Reply → ℕ
numbered_after n [] = n
numbered_after n (reply ∷ replies) = numbered_after (more_numbered n reply) replies

-- The j-th OPN or MSG of the reply has the j-th number from 1.
abbrev pub spelled_all : Site → ℕ → List Reply → List ℕ
spelled_all site n [] = []
spelled_all site n (reply ∷ replies) = spelled site (number_after 1 n) reply ++ spelled_all site (more_numbered n reply) replies

-- ---- what a frame is answered

-- In the Hello, a limit of 0 is none.
abbrev pub is_over : ℕ → ℕ → Bool
is_over limit n = not (limit == 0) && nat_lt limit n

-- the bytes of a body in a frame of the answers
abbrev pub part_size : Agreed → ℕ
part_size agreed = agreed.ack.send - 24

abbrev pub is_over_limits : Agreed → List ℕ → Bool
is_over_limits agreed body = is_over agreed.answer_bytes (length body) || is_over agreed.answer_parts (part_count (length body) (part_size agreed))

-- an abort without a reason. OPC 10000-6, 6.7.3
abbrev pub aborted : ℕ → ℕ → Part
aborted id status = record { id = id; flag = 65; bytes = abort_bytes status }

-- an answer's parts, or one abort where it passes the limits of the Hello
abbrev pub answer_parts : Agreed → ℕ → List ℕ → List Part
answer_parts agreed id body =
    if is_over_limits agreed body then aborted id 0x80B90000 ∷ [] else fill id body (part_size agreed)

-- the request that a message makes whole with this frame
abbrev pub whole_request : Known → Frame → Option Request
whole_request k f =
    if is_message (kind_of f.bytes) && flag_of f.bytes == 70 then request_of (body_of k.half ++ (carried f).body) else None

-- Its answer has the greatest token used up to it. OPC 10000-4, 5.6.2.1.
abbrev pub answer_to : Site → Known → Frame → Option Agreed → Option Request → List Reply
answer_to site k f (Some agreed) (Some request) =
    map (Answer (most k.used (carried f).token)) (answer_parts agreed (carried f).request_id (answer_body site.settings request f.moment))
answer_to site k f (Some agreed) None = []
answer_to site k f None request = []

-- OPC 10000-4, 5.6.2.2
abbrev pub opened_by : Site → Known → ℕ → Option OpenChunk → Option OpenRequest → List Reply
opened_by site k now (Some opening) (Some request) =
    Opened opening.request_id (opened_body request.header.request_handle now site.channel (next_token k.tokens now request.requested_lifetime)) ∷ []
opened_by site k now (Some opening) None = []
opened_by site k now None request = []

abbrev pub acknowledged : Site → Option Hello → List Reply
acknowledged site None = []
acknowledged site (Some hello) = Acknowledge (negotiated site.settings.limits hello) ∷ []

-- by the frame's type
abbrev pub reply_by : Site → Known → Frame → Option Kind → List Reply
reply_by site k f (Some kinds.Hello) = acknowledged site (hello_in f)
reply_by site k f (Some kinds.Open) = opened_by site k f.moment (open_in f) (asked_open f)
reply_by site k f (Some kinds.Message) = answer_to site k f k.limits (whole_request k f)
reply_by site k f kind = []

unfoldable pub reply_to : Site → Known → Frame → List Reply
reply_to site k f = reply_by site k f (kind_of f.bytes)

abbrev pub to_list : {A : Type 0} → Option A → List A
to_list None = []
to_list (Some a) = a ∷ []

-- the request that is handed on at a frame
unfoldable pub handed_at : Known → Frame → List Request
handed_at k f = to_list (whole_request k f)

-- over all frames, each read with what lies before it
abbrev pub replies : Site → Past → List Reply
replies site [] = []
replies site (f ∷ past) = replies site past ++ reply_to site (known site past) f

abbrev pub requests : Site → Past → List Request
requests site [] = []
requests site (f ∷ past) = requests site past ++ handed_at (known site past) f

-- ---- a stream

-- the frames that stand, and the end
pub record Reading : Type 0 where
  pub past : Past
  pub ending : End

abbrev pub ended : Option ℕ → List ℕ → End
ended (Some status) rest = Refused status
ended None [] = InputEnded
ended None (b ∷ rest) = Truncated

-- The frames up to the first fault, which is not among them, or the first CLO, which is; and the end.
abbrev pub reading : Site → Past → List Frame → List ℕ → Reading
reading site past [] rest = record { past = past; ending = ended (fault_in_rest (known site past) rest) rest }
reading site past (f ∷ fs) rest =
    elim (fault_at site (known site past) f) [
      | Some status ↦ record { past = past; ending = Refused status }
      | None ↦ if is_close (kind_of f.bytes) then record { past = f ∷ past; ending = Closed } else reading site (f ∷ past) fs rest
    ]

abbrev pub reading_of : Site → List TimedByte → Reading
reading_of site s = reading site [] (frames_of s) (plain (rest_of s))

-- the frame that says why
abbrev pub failing : End → List Reply
failing (Refused status) = Failed status ∷ []
failing ending = []

-- the status of an end that a fault brought
abbrev pub fault_of : End → Option ℕ
fault_of (Refused status) = Some status
fault_of ending = None

-- the status of the first row at the least place where one holds
abbrev pub first_fault : Site → List TimedByte → Option ℕ
first_fault site s = fault_of (reading_of site s).ending

abbrev pub end_of : Site → List TimedByte → End
end_of site s = (reading_of site s).ending

-- the requests that are handed on, in order
abbrev pub handed : Site → List TimedByte → List Request
handed site s = requests site (reading_of site s).past

-- the frames that answer a stream, and the error that ends it
abbrev pub answering_bytes : Site → List TimedByte → List ℕ
answering_bytes site s = spelled_all site 0 (replies site (reading_of site s).past ++ failing (end_of site s))

-- all that is said, by a server that opened the connection itself or not
abbrev pub reply_bytes : Bool → Site → List TimedByte → List ℕ
reply_bytes reverse site s = greeting reverse site.settings ++ answering_bytes site s
