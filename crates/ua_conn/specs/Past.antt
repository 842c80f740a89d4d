-- What lies before a frame: filters of the frames before it, newest first. OPC 10000-6, 6.7.2 to 6.7.4 and 7.1.2.
use Rattle.std.specs.Prelude.{ℕ, ◌+◌, Bool, true, false, ◌||◌, List, [], ◌∷◌, ◌++◌, map, length, Option, Some, None, option_map, if◌then◌else◌}
use Rattle.std.specs.List.{filter, find}
use Rattle.ua_frame.specs.Layout.{Frame, kind_of, flag_of, fields_of}
use Rattle.ua_frame.specs.Hello.{hello_of, negotiated}
use Rattle.ua_frame.specs.declared.kind.Kind.{Kind}
use Rattle.ua_frame.specs.declared.kind.Kind.TheVariants as kinds
use Rattle.ua_frame.specs.declared.hello.Hello.{Hello}
use Rattle.ua_frame.specs.declared.limits.Limits.{Limits}
use Rattle.ua_chunk.specs.Layout.{OpenChunk, Chunk, open_chunk_of, chunk_of}
use Rattle.ua_chunk.specs.Half.{Half, ends_message}
use Rattle.ua_channel.specs.declared.token.Token.{Token}
use Rattle.ua_channel.specs.Token.{revised, two_newest}
use Rattle.ua_channel.specs.Channel.{most}
use Rattle.ua_service.specs.declared.channel.OpenRequest.{OpenRequest}
use Rattle.ua_conn.specs.server.Site.{Site}
pub use Rattle.ua_conn.specs.declared.server.agreed.Agreed.{Agreed}
use Rattle.ua_service.specs.ChannelMessages.{open_of}

-- the frames before a place, newest first
abbrev pub Past : Type 0
Past = List Frame

-- ---- a frame's type

abbrev pub is_hello : Option Kind → Bool
is_hello (Some kinds.Hello) = true
is_hello kind = false

abbrev pub is_open : Option Kind → Bool
is_open (Some kinds.Open) = true
is_open kind = false

abbrev pub is_message : Option Kind → Bool
is_message (Some kinds.Message) = true
is_message kind = false

abbrev pub is_close : Option Kind → Bool
is_close (Some kinds.Close) = true
is_close kind = false

-- MSG and CLO carry a token; with OPN, a sequence number
abbrev pub has_token : Option Kind → Bool
has_token kind = is_message kind || is_close kind

abbrev pub has_number : Option Kind → Bool
has_number kind = is_open kind || has_token kind

-- ---- what it carries

abbrev pub hello_in : Frame → Option Hello
hello_in f = hello_of (fields_of f.bytes)

abbrev pub open_in : Frame → Option OpenChunk
open_in f = open_chunk_of (fields_of f.bytes)

abbrev pub or_empty : Option Chunk → Chunk
or_empty None = record { channel = 0; token = 0; sequence = 0; request_id = 0; body = [] }
or_empty (Some chunk) = chunk

-- what a MSG or CLO carries; a frame that stands has its layout
abbrev pub carried : Frame → Chunk
carried f = or_empty (chunk_of (fields_of f.bytes))

abbrev pub body_of : Option OpenChunk → List ℕ
body_of None = []
body_of (Some opening) = opening.body

-- the open request of an OPN
abbrev pub asked_open : Frame → Option OpenRequest
asked_open f = open_of (body_of (open_in f))

-- ---- the limits

-- What the Hello and the limits of a server agree on. OPC 10000-6, 7.1.2.3 and 7.1.2.4.
abbrev pub agreed_by : Limits → Hello → Agreed
agreed_by limits h = record { ack = negotiated limits h; answer_bytes = h.max_message; answer_parts = h.max_chunks }

abbrev pub agreed : Site → Hello → Agreed
agreed site h = agreed_by site.settings.limits h

abbrev pub limits_of : Site → Frame → Option Agreed
limits_of site f = option_map (agreed site) (hello_in f)

-- the limits that the Hello set
abbrev pub limits_in : Site → Past → Option Agreed
limits_in site [] = None
limits_in site (f ∷ past) = if is_hello (kind_of f.bytes) then limits_of site f else limits_in site past

-- ---- the tokens

abbrev pub lifetime_asked : Option OpenRequest → ℕ
lifetime_asked None = 0
lifetime_asked (Some request) = request.requested_lifetime

-- The k-th OPN issues token k, at its moment. OPC 10000-6, 6.7.4; OPC 10000-4, 5.6.2.2.
abbrev pub tokens_by : List Frame → List Token
tokens_by [] = []
tokens_by (f ∷ opens) =
    record { id = length opens + 1; issued = f.moment; lifetime = revised (lifetime_asked (asked_open f)) } ∷ tokens_by opens

abbrev pub tokens_in : Past → List Token
tokens_in past = tokens_by (filter (λ f. is_open (kind_of f.bytes)) past)

-- ---- the last sequence number

abbrev pub sequence_of : Option OpenChunk → ℕ
sequence_of None = 0
sequence_of (Some opening) = opening.sequence

abbrev pub number_of : Frame → ℕ
number_of f = if is_open (kind_of f.bytes) then sequence_of (open_in f) else (carried f).sequence

-- that of the last OPN, MSG or CLO. OPC 10000-6, 6.7.2.4.
abbrev pub last_number : Past → Option ℕ
last_number past = option_map number_of (find (λ f. has_number (kind_of f.bytes)) past)

-- ---- the half received message

abbrev pub until : {A : Type 0} → (A → Bool) → List A → List A
until test [] = []
until test (x ∷ xs) = if test x then [] else x ∷ until test xs

-- The MSG frames after the last one flagged F or A. OPC 10000-6, 6.7.2.2 and 6.7.3.
abbrev pub half_parts : Past → List Frame
half_parts past = until (λ f. ends_message (flag_of f.bytes)) (filter (λ f. is_message (kind_of f.bytes)) past)

-- their bodies joined, the oldest first
abbrev pub joined : List Frame → List ℕ
joined [] = []
joined (f ∷ parts) = joined parts ++ (carried f).body

-- the oldest of f and those after it
abbrev pub oldest : Frame → List Frame → Frame
oldest f [] = f
oldest f (g ∷ parts) = oldest g parts

-- under the request id of the oldest
abbrev pub half_by : List Frame → Option Half
half_by [] = None
half_by (f ∷ parts) = Some (record { id = (carried (oldest f parts)).request_id; body = joined (f ∷ parts); parts = length (f ∷ parts) })

abbrev pub half_in : Past → Option Half
half_in past = half_by (half_parts past)

-- ---- the tokens used

abbrev pub greatest : List ℕ → Option ℕ
greatest [] = None
greatest (n ∷ ns) = Some (most (greatest ns) n)

-- the greatest token that a MSG or CLO used. OPC 10000-4, 5.6.2.1.
abbrev pub used_in : Past → Option ℕ
used_in past = greatest (map (λ f. (carried f).token) (filter (λ f. has_token (kind_of f.bytes)) past))

-- ---- all of it

-- All that later frames can see of the frames before them.
pub record Known : Type 0 where
  pub limits : Option Agreed
  -- the two newest, the newest first
  pub tokens : List Token
  pub last : Option ℕ
  pub half : Option Half
  pub used : Option ℕ

unfoldable pub known : Site → Past → Known
known site past = record {
  limits = limits_in site past;
  tokens = two_newest (tokens_in past);
  last = last_number past;
  half = half_in past;
  used = used_in past;
}
