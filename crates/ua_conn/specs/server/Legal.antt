-- What a client may send, as a grammar over whole lists of frames. OPC 10000-6, 6.7.2 and 6.7.3 (chunks), 6.7.4 (OPN), 7.1.3 (opening).
use Rattle.std.specs.Prelude.{◌≡◌, ℕ, ◌<◌, ◌≤◌, ◌↔◌, pos, true, false, List, [], ◌∷◌, ◌++◌, length, Some, None, is_some}
use Rattle.std.specs.List.{flat_map, AllByRecursion}
use Rattle.ua_value.specs.Format.{IsBytes}
use Rattle.ua_frame.specs.Streams.{size_of, IsFrame}
use Rattle.ua_frame.specs.Layout.{Frame, kind_of, flag_of, fields_of}
use Rattle.ua_frame.specs.Hello.{is_long}
use Rattle.ua_frame.specs.Sizes.{least_buffer}
use Rattle.ua_frame.specs.declared.kind.Kind.{Kind}
use Rattle.ua_frame.specs.declared.kind.Kind.TheVariants as kinds
use Rattle.ua_frame.specs.declared.hello.Hello.{Hello}
use Rattle.ua_chunk.specs.Layout.{OpenChunk, chunk_of, abort_of, policy_none}
use Rattle.ua_channel.specs.Token.{newest_id, is_usable}
use Rattle.ua_channel.specs.Admission.{follows_last, is_text}
use Rattle.ua_service.specs.declared.channel.OpenRequest.{OpenRequest}
use Rattle.ua_conn.specs.server.Site.{Site}
use Rattle.ua_conn.specs.Past.{Past, Known, known, is_close, hello_in, open_in, carried}
use Rattle.ua_conn.specs.server.Faults.{fault_at, greatest_frame}
use Rattle.ua_conn.specs.server.Held.{newest_first}
use Rattle.ua_service.specs.ChannelMessages.{open_of, close_of}
use Rattle.ua_service.specs.Requests.{request_of}

-- a whole frame of bytes
pub record IsWhole (f : Frame) : Type 0 where
  pub frame : IsFrame f.bytes
  pub bytes : IsBytes f.bytes

-- whole, and no greater than is taken at this place
pub record HasSize (k : Known) (f : Frame) : Type 0 where
  pub whole : IsWhole f
  pub least : size_of f.bytes ≤ greatest_frame k.limits

-- a HEL
pub record IsHello (site : Site) (f : Frame) : Type 0 where
  pub kind : kind_of f.bytes ≡ Some kinds.Hello
  pub flag : flag_of f.bytes ≡ 70
  pub size : HasSize (known site []) f
  pub hello : Hello
  pub layout : hello_in f ≡ Some hello
  -- at most 4095 bytes
  pub url : is_long hello.url ≡ false
  pub receive : least_buffer ≤ hello.receive
  pub send : least_buffer ≤ hello.send

-- an OPN behind these frames, to this channel, issue (0) or renew (1)
pub record IsOpening (site : Site) (past : Past) (channel type : ℕ) (f : Frame) : Type 0 where
  pub kind : kind_of f.bytes ≡ Some kinds.Open
  pub flag : flag_of f.bytes ≡ 70
  pub size : HasSize (known site past) f
  pub opening : OpenChunk
  pub layout : open_in f ≡ Some opening
  pub channel_id : opening.channel ≡ channel
  pub policy : is_text policy_none opening.policy ≡ true
  pub number : follows_last (known site past).last opening.sequence ≡ true
  pub request : OpenRequest
  pub body : open_of opening.body ≡ Some request
  pub request_type : request.request_type ≡ pos type
  pub mode : request.security_mode ≡ pos 1
  pub unspent : newest_id (known site past).tokens < 4294967295

-- a MSG or CLO behind these frames
pub record IsChunk (site : Site) (past : Past) (kind : Kind) (flag : ℕ) (f : Frame) : Type 0 where
  pub kind_is : kind_of f.bytes ≡ Some kind
  pub flag_is : flag_of f.bytes ≡ flag
  pub size : HasSize (known site past) f
  pub layout : is_some (chunk_of (fields_of f.bytes)) ≡ true
  pub channel : (carried f).channel ≡ site.channel
  -- one of the two newest, and alive at the frame's moment
  pub token : is_usable (known site past).tokens (carried f).token f.moment ≡ true
  pub number : follows_last (known site past).last (carried f).sequence ≡ true

-- MSG parts flagged C, of one request id
abbrev pub AreParts : Site → Past → ℕ → List Frame → Type 0
AreParts site past id [] = Unit {0}
AreParts site past id (f ∷ fs) = IsChunk site past kinds.Message 67 f × ((carried f).request_id ≡ id) × AreParts site (f ∷ past) id fs

abbrev pub joined_body : List Frame → List ℕ
joined_body fs = flat_map (λ f. (carried f).body) fs

abbrev pub FitTheLimits : Site → List Frame → Type 0
FitTheLimits site fs = (length fs ≤ site.settings.limits.max_chunks) × (length (joined_body fs) ≤ site.settings.limits.max_message)

pub data Turn : Type 0 where
  Renewal : Frame → Turn
  -- parts, and the last
  Message : List Frame → Frame → Turn
  Dropped : List Frame → Frame → Turn

abbrev pub turn_frames : Turn → List Frame
turn_frames (Renewal f) = f ∷ []
turn_frames (Message parts last) = parts ++ last ∷ []
turn_frames (Dropped parts last) = parts ++ last ∷ []

-- parts flagged C, the last F, whose bodies joined are a request
pub record IsMessage (site : Site) (past : Past) (parts : List Frame) (last : Frame) : Type 0 where
  pub parts_are : AreParts site past (carried last).request_id parts
  pub last_is : IsChunk site (newest_first parts past) kinds.Message 70 last
  pub limits : FitTheLimits site (parts ++ last ∷ [])
  pub request : is_some (request_of (joined_body (parts ++ last ∷ []))) ≡ true

-- parts flagged C, the last A with an abort body, which is not counted
pub record IsDropped (site : Site) (past : Past) (parts : List Frame) (last : Frame) : Type 0 where
  pub parts_are : AreParts site past (carried last).request_id parts
  pub last_is : IsChunk site (newest_first parts past) kinds.Message 65 last
  pub limits : FitTheLimits site parts
  pub abort : is_some (abort_of (carried last).body) ≡ true

abbrev pub IsTurn : Site → Past → Turn → Type 0
IsTurn site past (Renewal f) = IsOpening site past site.channel 1 f
IsTurn site past (Message parts last) = IsMessage site past parts last
IsTurn site past (Dropped parts last) = IsDropped site past parts last

abbrev pub AreTurns : Site → Past → List Turn → Type 0
AreTurns site past [] = Unit {0}
AreTurns site past (t ∷ ts) = IsTurn site past t × AreTurns site (newest_first (turn_frames t) past) ts

abbrev pub all_frames : List Turn → List Frame
all_frames ts = flat_map turn_frames ts

-- nothing, or a CLO, behind parts of a message that then is never whole
pub data Tail : Type 0 where
  NoTail : Tail
  Close : List Frame → Frame → Tail

abbrev pub tail_frames : Tail → List Frame
tail_frames NoTail = []
tail_frames (Close parts close) = parts ++ close ∷ []

pub record IsClose (site : Site) (past : Past) (parts : List Frame) (close : Frame) : Type 0 where
  pub id : ℕ
  pub parts_are : AreParts site past id parts
  pub limits : FitTheLimits site parts
  pub close_is : IsChunk site (newest_first parts past) kinds.Close 70 close
  pub body : is_some (close_of (carried close).body) ≡ true

abbrev pub IsTail : Site → Past → Tail → Type 0
IsTail site past NoTail = Unit {0}
IsTail site past (Close parts close) = IsClose site past parts close

-- A HEL, an OPN that issues, turns, and at most a CLO.
pub record IsLegal (site : Site) (fs : List Frame) : Type 0 where
  pub hello : Frame
  pub opening : Frame
  pub turns : List Turn
  pub tail : Tail
  pub frames : fs ≡ hello ∷ opening ∷ (all_frames turns ++ tail_frames tail)
  pub hello_is : IsHello site hello
  pub opening_is : IsOpening site (hello ∷ []) 0 0 opening
  pub turns_are : AreTurns site (opening ∷ hello ∷ []) turns
  pub tail_is : IsTail site (newest_first (all_frames turns) (opening ∷ hello ∷ [])) tail

-- no row of the table holds at any place, and nothing comes after a CLO
abbrev pub IsFaultless : Site → Past → List Frame → Type 0
IsFaultless site past [] = Unit {0}
IsFaultless site past (f ∷ fs) = (fault_at site (known site past) f ≡ None) × (is_close (kind_of f.bytes) ≡ true → fs ≡ []) × IsFaultless site (f ∷ past) fs

abbrev pub IsBeginning : Site → List Frame → Type 0
IsBeginning site fs = (more : List Frame) × IsLegal site (fs ++ more)

-- OPC 10000-6, 7.1.2.3: a server takes frames as large as the least buffer.
abbrev pub HasRoom : Site → Type 0
HasRoom site = least_buffer ≤ site.settings.limits.receive

-- a message that is half received can be dropped: an A frame can come
abbrev pub CanDrop : Site → Past → ℕ → Type 0
CanDrop site past id =
    (a : Frame) × IsChunk site past kinds.Message 65 a × ((carried a).request_id ≡ id) × (is_some (abort_of (carried a).body) ≡ true)

-- a HEL and an open request can be written that the server takes
pub record Opens (site : Site) : Type 0 where
  pub hello : (f : Frame) × IsHello site f
  pub opening : (h : Frame) → IsHello site h → (f : Frame) × IsOpening site (h ∷ []) 0 0 f

-- No row of the table holds in a list of whole frames, with nothing after a CLO, exactly where the list is a beginning of a legal one.
abbrev pub BeginsLegal : Site → Type 0
BeginsLegal site = (fs : List Frame) → AllByRecursion IsWhole fs → IsFaultless site [] fs ↔ IsBeginning site fs
