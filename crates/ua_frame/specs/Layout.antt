-- What the bytes of a frame say: three bytes of type, a flag, the size of the whole frame in four bytes, and
-- the fields. OPC 10000-6, 7.1.2.2 (HEL, ACK, ERR, RHE) and 6.7.2.2 (OPN, MSG, CLO).
use Rattle.std.specs.Prelude.{◌≡◌, ℕ, ◌+◌, List, [], ◌∷◌, ◌++◌, map, length, take, drop, slice_index, Option, Some, codes, find}
use Rattle.std.specs.Int.{w32, to_le_bytes}
use Rattle.std.specs.Str.{bytes_eq}
use Rattle.ua_frame.specs.declared.kind.Kind.{Kind}
use Rattle.ua_frame.specs.declared.kind.Kind.TheVariants.{Hello, Acknowledge, Error, ReverseHello, Open, Message, Close}
use Rattle.ua_frame.specs.Streams.{TimedByte, plain, cuts_of}
unfoldable pub use Rattle.ua_frame.specs.Streams.{size_of}
pub use Rattle.ua_frame.specs.Streams.{IsFrame}

-- the three bytes that name a type
abbrev pub name_of : Kind → List ℕ
name_of Hello = codes "HEL"
name_of Acknowledge = codes "ACK"
name_of Error = codes "ERR"
name_of ReverseHello = codes "RHE"
name_of Open = codes "OPN"
name_of Message = codes "MSG"
name_of Close = codes "CLO"

abbrev pub kinds : List Kind
kinds = Hello ∷ Acknowledge ∷ Error ∷ ReverseHello ∷ Open ∷ Message ∷ Close ∷ []

-- the type whose name the bytes begin with
unfoldable pub kind_of : List ℕ → Option Kind
kind_of bytes = find (λ kind. bytes_eq (take 3 bytes) (name_of kind)) kinds

abbrev pub flag_of : List ℕ → ℕ
flag_of bytes = slice_index bytes 3

-- what follows the header
abbrev pub fields_of : List ℕ → List ℕ
fields_of bytes = drop 8 bytes

-- ---- frames of a stream

-- A frame of a stream: its bytes, of a known type or not, and the moment of the last of them.
pub record Frame : Type 0 where
  pub bytes : List ℕ
  pub moment : ℕ

abbrev pub last_moment : List TimedByte → ℕ
last_moment [] = 0
last_moment (b ∷ []) = b.moment
last_moment (b ∷ c ∷ bs) = last_moment (c ∷ bs)

abbrev pub frame_by : List TimedByte → Frame
frame_by f = record { bytes = plain f; moment = last_moment f }

abbrev pub frames_of : List TimedByte → List Frame
frames_of s = map frame_by (cuts_of s)

-- ---- frames of a known type

-- a frame's type, flag and fields
pub record Parts : Type 0 where
  pub kind : Kind
  pub flag : ℕ
  pub fields : List ℕ

-- the header of a frame with this many bytes of fields
abbrev pub header : Kind → ℕ → ℕ → List ℕ
header kind flag len = name_of kind ++ (flag ∷ []) ++ to_le_bytes w32 (8 + len)

-- the one spelling of a frame
abbrev pub frame_bytes : Parts → List ℕ
frame_bytes f = header f.kind f.flag (length f.fields) ++ f.fields

-- The bytes are one frame, with this type, flag and fields.
pub record IsFrameOf (bytes : List ℕ) (f : Parts) : Type 0 where
  pub there : IsFrame bytes
  pub kind : kind_of bytes ≡ Some f.kind
  pub flag : flag_of bytes ≡ f.flag
  pub fields : fields_of bytes ≡ f.fields
