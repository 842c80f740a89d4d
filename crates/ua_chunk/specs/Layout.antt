-- What the fields of OPN, MSG and CLO frames say. OPC 10000-6, 6.7.2.3 (asymmetric and symmetric security header),
-- 6.7.2.4 (sequence header) and 6.7.3 (the body of an abort).
use Rattle.std.specs.Prelude.{◌≡◌, ℕ, List, ◌++◌, Option, Some, None}
use Rattle.std.specs.Int.{w32}
use Rattle.ua_value.specs.Format.{◌>>=◌, Format}
use Rattle.ua_value.specs.Number.{unsigned}
use Rattle.ua_value.specs.Text.{string, byte_string}
use Rattle.ua_value.specs.Sequence.{pair}
use Rattle.ua_value.specs.Whole.{only}
use Rattle.ua_frame.specs.Layout.{Parts}
pub use Rattle.ua_frame.specs.Policy.{policy_none}
use Rattle.ua_frame.specs.declared.kind.Kind.{Kind}
use Rattle.ua_frame.specs.declared.kind.Kind.TheVariants.{Open, Message, Close}

-- what an OPN frame carries
pub record OpenChunk : Type 0 where
  pub channel : ℕ
  pub policy : Option (List ℕ)
  pub sequence : ℕ
  pub request_id : ℕ
  pub body : List ℕ

-- what a MSG or CLO frame carries
pub record Chunk : Type 0 where
  pub channel : ℕ
  pub token : ℕ
  pub sequence : ℕ
  pub request_id : ℕ
  pub body : List ℕ

abbrev pub uint32 : Format ℕ
uint32 = unsigned w32

-- channel id, policy URI, sender certificate, receiver thumbprint, sequence number, request id
abbrev pub OpenHeader : Type 0
OpenHeader = ℕ × (Option (List ℕ) × (Option (List ℕ) × (Option (List ℕ) × (ℕ × ℕ))))

unfoldable pub open_header : Format OpenHeader
open_header = pair uint32 (pair string (pair byte_string (pair byte_string (pair uint32 uint32))))

-- channel id, token id, sequence number, request id
abbrev pub ChunkHeader : Type 0
ChunkHeader = ℕ × (ℕ × (ℕ × ℕ))

unfoldable pub chunk_header : Format ChunkHeader
chunk_header = pair uint32 (pair uint32 (pair uint32 uint32))

-- status and reason
unfoldable pub abort_body : Format (ℕ × Option (List ℕ))
abort_body = pair uint32 string

abbrev pub open_by : OpenHeader × List ℕ → OpenChunk
open_by x = record { channel = x.0.0; policy = x.0.1.0; sequence = x.0.1.1.1.1.0; request_id = x.0.1.1.1.1.1; body = x.1 }

abbrev pub chunk_by : ChunkHeader × List ℕ → Chunk
chunk_by x = record { channel = x.0.0; token = x.0.1.0; sequence = x.0.1.1.0; request_id = x.0.1.1.1; body = x.1 }

-- The fields are a header of this OPN and its body. Certificate and thumbprint are not looked at.
abbrev pub IsOpenChunk : OpenChunk → List ℕ → Type 0
IsOpenChunk c fields =
    (certificate : Option (List ℕ)) × (thumbprint : Option (List ℕ)) × (head : List ℕ)
    × open_header.grammar.spells (c.channel, (c.policy, (certificate, (thumbprint, (c.sequence, c.request_id))))) head
    × (fields ≡ head ++ c.body)

-- the fields are the header of this MSG or CLO and its body
abbrev pub IsChunk : Chunk → List ℕ → Type 0
IsChunk c fields =
    (head : List ℕ) × chunk_header.grammar.spells (c.channel, (c.token, (c.sequence, c.request_id))) head × (fields ≡ head ++ c.body)

-- the bytes are the body of an abort with this status
abbrev pub IsAbort : ℕ → List ℕ → Type 0
IsAbort status body = (reason : Option (List ℕ)) × abort_body.grammar.spells (status, reason) body

-- ---- the same, read

-- the OPN that the fields carry
unfoldable pub open_chunk_of : List ℕ → Option OpenChunk
open_chunk_of fields = open_header.grammar.front fields >>= λ x. Some (open_by x)

-- the MSG or CLO that the fields carry
unfoldable pub chunk_of : List ℕ → Option Chunk
chunk_of fields = chunk_header.grammar.front fields >>= λ x. Some (chunk_by x)

-- the status of the abort whose body the bytes are
unfoldable pub abort_of : List ℕ → Option ℕ
abort_of body = only abort_body.grammar body >>= λ x. Some x.0

-- a chunk with the type and the flag of its frame
pub record FlaggedChunk : Type 0 where
  pub kind : Kind
  pub flag : ℕ
  pub chunk : Chunk

abbrev pub open_chunk_by : Kind → List ℕ → Option OpenChunk
open_chunk_by Open fields = open_chunk_of fields
open_chunk_by kind fields = None

-- what the frame carries where it is an OPN
abbrev pub open_chunk_in : Parts → Option OpenChunk
open_chunk_in frame = open_chunk_by frame.kind frame.fields

abbrev pub with_flag : Kind → ℕ → Option Chunk → Option FlaggedChunk
with_flag kind flag chunk = chunk >>= λ c. Some (record { kind = kind; flag = flag; chunk = c })

abbrev pub chunk_by_kind : Kind → ℕ → List ℕ → Option FlaggedChunk
chunk_by_kind Message flag fields = with_flag Message flag (chunk_of fields)
chunk_by_kind Close flag fields = with_flag Close flag (chunk_of fields)
chunk_by_kind kind flag fields = None

-- what the frame carries where it is a MSG or CLO
abbrev pub chunk_in : Parts → Option FlaggedChunk
chunk_in frame = chunk_by_kind frame.kind frame.flag frame.fields

-- ---- the same, written

-- the fields of an OPN without certificate and thumbprint, by the policy None
abbrev pub open_fields : ℕ → ℕ → ℕ → List ℕ → List ℕ
open_fields channel sequence request_id body = open_header.canon (channel, (Some policy_none, (None, (None, (sequence, request_id))))) ++ body

abbrev pub chunk_fields : Chunk → List ℕ
chunk_fields c = chunk_header.canon (c.channel, (c.token, (c.sequence, c.request_id))) ++ c.body

-- without a reason
abbrev pub abort_bytes : ℕ → List ℕ
abort_bytes status = abort_body.canon (status, None)
