-- What a frame carries, by its type. OPC 10000-6, 6.7.2 and 7.1.2.
use Rattle.std.specs.Prelude.{◌≡◌, ℕ, List, Option, Some, None, Result, Ok, Err}
use Rattle.ua_value.specs.declared.fault.ReadFault.{ReadFault}
use Rattle.ua_value.specs.declared.fault.ReadFault.TheVariants as unread
use Rattle.ua_frame.specs.declared.kind.Kind.{Kind}
use Rattle.ua_frame.specs.declared.kind.Kind.TheVariants as kinds
use Rattle.ua_frame.specs.Layout.{Parts, kind_of, flag_of, fields_of}
use Rattle.ua_frame.specs.HeaderRows.{header_fault}
use Rattle.ua_frame.specs.Hello.{hello_of, acknowledge_of, error_of, reverse_hello_of}
use Rattle.ua_chunk.specs.Layout.{open_chunk_of, chunk_of, with_flag}
use Rattle.ua_chunk.specs.declared.content.Content.{Content}
use Rattle.ua_chunk.specs.declared.content.Content.TheVariants.{Hello, Acknowledge, Error, ReverseHello, Open, Message, Close}
use Rattle.ua_chunk.specs.declared.content.ContentFault.{ContentFault}
use Rattle.ua_chunk.specs.declared.content.ContentFault.TheVariants.{Refused, NoMemory}

-- what the fields spell, or else the status of fields that have not the layout of their type
abbrev pub spelled : {V : Type 0} → (V → Content) → Option V → Result Content ℕ
spelled as_content None = Err 0x80070000
spelled as_content (Some v) = Ok (as_content v)

-- the content of a frame of this type with this flag and these fields, or the status that refuses it
abbrev pub content_by : Kind → ℕ → List ℕ → Result Content ℕ
content_by kinds.Hello flag fields = spelled Hello (hello_of fields)
content_by kinds.Acknowledge flag fields = spelled Acknowledge (acknowledge_of fields)
content_by kinds.Error flag fields = spelled Error (error_of fields)
content_by kinds.ReverseHello flag fields = spelled ReverseHello (reverse_hello_of fields)
content_by kinds.Open flag fields = spelled Open (open_chunk_of fields)
content_by kinds.Message flag fields = spelled Message (with_flag kinds.Message flag (chunk_of fields))
content_by kinds.Close flag fields = spelled Close (with_flag kinds.Close flag (chunk_of fields))

abbrev pub content_in : Parts → Result Content ℕ
content_in frame = content_by frame.kind frame.flag frame.fields

-- memory may run out for the types whose content is copied, which are those before a channel
abbrev pub may_grow : Kind → Type 0
may_grow kinds.Open = ⊥
may_grow kinds.Message = ⊥
may_grow kinds.Close = ⊥
may_grow kind = Unit {0}

abbrev pub IsContentFault : Parts → ContentFault → Type 0
IsContentFault frame (Refused status) = content_in frame ≡ Err status
IsContentFault frame NoMemory = may_grow frame.kind

abbrev pub of_unread : ReadFault → ContentFault
of_unread unread.Refused = Refused 0x80070000
of_unread unread.NoMemory = NoMemory

-- ---- the same, of bytes

abbrev pub known : Option Kind → ℕ → List ℕ → Result Content ℕ
known None flag fields = Err 0x807E0000
known (Some kind) flag fields = content_by kind flag fields

abbrev pub unless : Option ℕ → Result Content ℕ → Result Content ℕ
unless None content = content
unless (Some status) content = Err status

-- What the bytes of a whole frame carry, or the status that refuses it: of its header, with this limit, or of its fields.
abbrev pub content_at : ℕ → List ℕ → Result Content ℕ
content_at limit bytes = unless (header_fault limit bytes) (known (kind_of bytes) (flag_of bytes) (fields_of bytes))
