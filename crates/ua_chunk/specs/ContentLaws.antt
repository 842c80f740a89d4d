-- What an end writes reads as its content.
use Rattle.std.proofs.Common.{◌≡◌, ℕ, ◌+◌, ◌<◌, ◌≤◌, ◌^◌, true, List, [], ◌∷◌, length, length-append, Option, Some, None, Ok, refl, ap, ◌∙◌, arith}
use Rattle.std.specs.Int.{w32, to_le_bytes}
use Rattle.std.specs.List.{AllByRecursion}
use Rattle.ua_value.specs.NumberLaws.{wide_32}
use Rattle.ua_value.specs.Text.{string, bytes_of}
use Rattle.ua_frame.specs.declared.kind.Kind.{Kind}
use Rattle.ua_frame.specs.declared.kind.Kind.TheVariants as kinds
use Rattle.ua_frame.specs.declared.hello.Hello as hello
use Rattle.ua_frame.specs.declared.acknowledge.Ack as acknowledge
use Rattle.ua_frame.specs.declared.error_frame.ErrorFrame as error_frame
use Rattle.ua_frame.specs.declared.reverse_hello.ReverseHello as reverse_hello
use Rattle.ua_frame.specs.Layout.{Parts, IsFrame, IsFrameOf}
use Rattle.ua_frame.specs.LayoutLaws.{frame_bytes_is}
use Rattle.ua_frame.specs.HeaderRows.{flag_fits, header_fault}
use Rattle.ua_frame.specs.Beginnings.{joined}
use Rattle.ua_frame.specs.FrameLaws.{header_passes}
use Rattle.ua_frame.specs.Hello.{hello_layout, acknowledge_layout, error_layout, reverse_hello_layout, hello_frame, acknowledge_frame, error_frame, reverse_hello_frame, text_bytes}
use Rattle.ua_frame.specs.HelloLaws.{hello_length, acknowledge_length, error_length, reverse_hello_length, hello_back, acknowledge_back, error_back, reverse_hello_back}
use Rattle.ua_chunk.specs.Numbers.{number_after}
use Rattle.ua_chunk.specs.Layout.{Chunk, FlaggedChunk, policy_none, open_fields, chunk_fields, abort_bytes, abort_of, with_flag}
use Rattle.ua_chunk.specs.LayoutLaws.{written_is_read}
use Rattle.ua_chunk.specs.Cut.{Part, fill}
use Rattle.ua_chunk.specs.Written.{open_frame, chunk_frame, close_frame, abort_frame, message_frames}
use Rattle.ua_chunk.specs.WrittenLaws.{chunk_frame_is, open_frame_is}
use Rattle.ua_chunk.specs.FrameLaws.{number_fits, abort_read, abort_length, IsPartOf, fill_parts, message_list, message_joined}
use Rattle.ua_chunk.specs.Content.{spelled, content_in, content_at, known, unless}
use Rattle.ua_chunk.specs.declared.content.Content.{Content}
use Rattle.ua_chunk.specs.declared.content.Content.TheVariants.{Hello, Acknowledge, Error, ReverseHello, Open, Message, Close}

-- The bytes are one frame, and by any limit that it is within this is its content.
abbrev pub Carries : List ℕ → Content → Type 0
Carries bytes content = IsFrame bytes × ((limit : ℕ) → length bytes ≤ limit → content_at limit bytes ≡ Ok content)

-- one after another
abbrev pub CarryEach : List (List ℕ) → List Content → Type 0
CarryEach [] [] = Unit {0}
CarryEach [] (c ∷ cs) = ⊥
CarryEach (f ∷ fs) [] = ⊥
CarryEach (f ∷ fs) (c ∷ cs) = Carries f c × CarryEach fs cs

-- what a frame is read as, by its parts, where no header row holds
pub content_is : (limit : ℕ) (bytes : List ℕ) (f : Parts) → IsFrameOf bytes f → header_fault limit bytes ≡ None → content_at limit bytes ≡ content_in f
content_is limit bytes f h passed = λ i. unless (passed i) (known (h.kind i) (h.flag i) (h.fields i))

carries_by : (bytes : List ℕ) (f : Parts) (c : Content) → IsFrameOf bytes f → flag_fits f.kind f.flag ≡ true → content_in f ≡ Ok c → Carries bytes c
carries_by bytes f c h fits e = (h.there, λ limit within. content_is limit bytes f h (header_passes limit bytes f h fits within) ∙ e)

-- ---- before a channel

text_length : (text : Option (List ℕ)) → string.IsValue text → length (string.canon text) ≤ 2147483651
unfolding bytes_of
text_length None is = omega arith
text_length (Some text) is = omega (arith, length-append (to_le_bytes w32 (length text)) text, wide_32.len (length text), is.0)

hello_url : (h : hello.Hello) → hello_layout.IsValue h → string.IsValue h.url
unfolding hello_layout
hello_url h is = is.1.1.1.1.1

error_reason : (e : error_frame.ErrorFrame) → error_layout.IsValue e → string.IsValue e.reason
unfolding error_layout
error_reason e is = is.1

hello_carries : (h : hello.Hello) → hello_layout.IsValue h → Carries (hello_frame h) (Hello h)
hello_carries h is =
    let f : Parts = record { kind = kinds.Hello; flag = 70; fields = hello_layout.canon h } in
    carries_by _ f (Hello h) (frame_bytes_is f (omega (arith, hello_length h, text_length h.url (hello_url h is)))) refl (ap (spelled Hello) (hello_back h is))

acknowledge_carries : (a : acknowledge.Ack) → acknowledge_layout.IsValue a → Carries (acknowledge_frame a) (Acknowledge a)
acknowledge_carries a is =
    let f : Parts = record { kind = kinds.Acknowledge; flag = 70; fields = acknowledge_layout.canon a } in
    carries_by _ f (Acknowledge a) (frame_bytes_is f (omega (arith, acknowledge_length a))) refl (ap (spelled Acknowledge) (acknowledge_back a is))

error_carries : (e : error_frame.ErrorFrame) → error_layout.IsValue e → Carries (error_frame e) (Error e)
error_carries e is =
    let f : Parts = record { kind = kinds.Error; flag = 70; fields = error_layout.canon e } in
    carries_by _ f (Error e) (frame_bytes_is f (omega (arith, error_length e, text_length e.reason (error_reason e is)))) refl (ap (spelled Error) (error_back e is))

reverse_hello_carries : (r : reverse_hello.ReverseHello) → reverse_hello_layout.IsValue r → text_bytes r.server_uri + text_bytes r.endpoint_url ≤ 4294967279
    → Carries (reverse_hello_frame r) (ReverseHello r)
reverse_hello_carries r is short =
    let f : Parts = record { kind = kinds.ReverseHello; flag = 70; fields = reverse_hello_layout.canon r } in
    carries_by _ f (ReverseHello r) (frame_bytes_is f (omega (arith, reverse_hello_length r, short))) refl (ap (spelled ReverseHello) (reverse_hello_back r is))

-- ---- on a channel

-- channel, sequence number, request id, body, by the policy None
abbrev pub opening : ℕ → ℕ → ℕ → List ℕ → Content
opening channel number id body = Open (record { channel = channel; policy = Some policy_none; sequence = number; request_id = id; body = body })

-- type, flag, channel, token, sequence number, request id, body
abbrev pub flagged : Kind → ℕ → ℕ → ℕ → ℕ → ℕ → List ℕ → FlaggedChunk
flagged kind flag channel token number id body =
    let c : Chunk = record { channel = channel; token = token; sequence = number; request_id = id; body = body } in
    record { kind = kind; flag = flag; chunk = c }

abbrev pub message_part : ℕ → ℕ → ℕ → Part → Content
message_part channel token number p = Message (flagged kinds.Message p.flag channel token number p.id p.bytes)

-- the parts of a message, of a sender that starts at first and gave n numbers before
abbrev pub message_parts : ℕ → ℕ → ℕ → ℕ → List Part → List Content
message_parts channel token first n [] = []
message_parts channel token first n (p ∷ parts) = message_part channel token (number_after first n) p ∷ message_parts channel token first (n + 1) parts

open_carries : (channel number id : ℕ) (body : List ℕ) → channel < 2 ^ 32 → number < 2 ^ 32 → id < 2 ^ 32 → 79 + length body < 2 ^ 32 → Carries (open_frame channel number id body) (opening channel number id body)
open_carries channel number id body c n i short =
    carries_by (open_frame channel number id body) (record { kind = kinds.Open; flag = 70; fields = open_fields channel number id body }) (opening channel number id body)
    (open_frame_is channel number id body short) refl (ap (spelled Open) (written_is_read.open_chunk channel number id body c n i))

message_carries : (flag channel token number id : ℕ) (body : List ℕ) → flag_fits kinds.Message flag ≡ true → channel < 2 ^ 32 → token < 2 ^ 32 → number < 2 ^ 32 → id < 2 ^ 32 → 24 + length body < 2 ^ 32
    → Carries (chunk_frame kinds.Message flag channel token number id body) (Message (flagged kinds.Message flag channel token number id body))
message_carries flag channel token number id body fits c t n i short =
    let own : Chunk = record { channel = channel; token = token; sequence = number; request_id = id; body = body } in
    carries_by (chunk_frame kinds.Message flag channel token number id body) (record { kind = kinds.Message; flag = flag; fields = chunk_fields own }) (Message (flagged kinds.Message flag channel token number id body))
    (chunk_frame_is kinds.Message flag channel token number id body short) fits
    (ap (λ o. spelled Message (with_flag kinds.Message flag o)) (written_is_read.chunk own (record { channel = c; token = t; sequence = n; request_id = i })))

close_carries : (channel token number id : ℕ) (body : List ℕ) → channel < 2 ^ 32 → token < 2 ^ 32 → number < 2 ^ 32 → id < 2 ^ 32 → 24 + length body < 2 ^ 32
    → Carries (close_frame channel token number id body) (Close (flagged kinds.Close 70 channel token number id body))
close_carries channel token number id body c t n i short =
    let own : Chunk = record { channel = channel; token = token; sequence = number; request_id = id; body = body } in
    carries_by (close_frame channel token number id body) (record { kind = kinds.Close; flag = 70; fields = chunk_fields own }) (Close (flagged kinds.Close 70 channel token number id body))
    (chunk_frame_is kinds.Close 70 channel token number id body short) refl
    (ap (λ o. spelled Close (with_flag kinds.Close 70 o)) (written_is_read.chunk own (record { channel = c; token = t; sequence = n; request_id = i })))

parts_carry : (channel token first n id k : ℕ) (parts : List Part) → channel < 2 ^ 32 → token < 2 ^ 32 → id < 2 ^ 32 → 24 + k < 2 ^ 32 → AllByRecursion (IsPartOf id k) parts
    → CarryEach (message_list channel token first n parts) (message_parts channel token first n parts)
parts_carry channel token first n id k [] c t i short each = tt
parts_carry channel token first n id k (p ∷ parts) c t i short each = (
  message_carries p.flag channel token (number_after first n) p.id p.bytes each.0.flag c t (number_fits first n) (omega (arith, each.0.same, i)) (omega (arith, each.0.size, short)),
  parts_carry channel token first (n + 1) id k parts c t i short each.1,
)

-- The frames of a body that is cut for a limit: each carries its part, in order.
pub record MessageIsRead (channel token first id k : ℕ) (body : List ℕ) : Type 0 where
  pub frames : message_frames channel token first 0 (fill id body k) ≡ joined (message_list channel token first 0 (fill id body k))
  pub each : CarryEach (message_list channel token first 0 (fill id body k)) (message_parts channel token first 0 (fill id body k))

-- The frame by which a message is given up carries the body of an abort with the status.
pub record AbortIsRead (channel token number id status : ℕ) : Type 0 where
  pub carried : Carries (abort_frame channel token number id status) (Message (flagged kinds.Message 65 channel token number id (abort_bytes status)))
  pub status_is : abort_of (abort_bytes status) ≡ Some status

-- Each frame that an end writes carries what it was made of.
pub record ContentsAreRead : Type 0 where
  pub hello : (h : hello.Hello) → hello_layout.IsValue h → Carries (hello_frame h) (Hello h)
  pub acknowledge : (a : acknowledge.Ack) → acknowledge_layout.IsValue a → Carries (acknowledge_frame a) (Acknowledge a)
  pub error : (e : error_frame.ErrorFrame) → error_layout.IsValue e → Carries (error_frame e) (Error e)
  pub reverse_hello : (r : reverse_hello.ReverseHello) → reverse_hello_layout.IsValue r → text_bytes r.server_uri + text_bytes r.endpoint_url ≤ 4294967279 → Carries (reverse_hello_frame r) (ReverseHello r)
  pub opens : (channel number id : ℕ) (body : List ℕ) → channel < 2 ^ 32 → number < 2 ^ 32 → id < 2 ^ 32 → 79 + length body < 2 ^ 32 → Carries (open_frame channel number id body) (opening channel number id body)
  pub message : (channel token first id k : ℕ) (body : List ℕ) → channel < 2 ^ 32 → token < 2 ^ 32 → id < 2 ^ 32 → 24 + k < 2 ^ 32 → MessageIsRead channel token first id k body
  pub closes : (channel token number id : ℕ) (body : List ℕ) → channel < 2 ^ 32 → token < 2 ^ 32 → number < 2 ^ 32 → id < 2 ^ 32 → 24 + length body < 2 ^ 32
      → Carries (close_frame channel token number id body) (Close (flagged kinds.Close 70 channel token number id body))
  pub abort : (channel token number id status : ℕ) → channel < 2 ^ 32 → token < 2 ^ 32 → number < 2 ^ 32 → id < 2 ^ 32 → status < 2 ^ 32 → AbortIsRead channel token number id status

pub contents_are_read : ContentsAreRead
contents_are_read = record {
  hello = hello_carries;
  acknowledge = acknowledge_carries;
  error = error_carries;
  reverse_hello = reverse_hello_carries;
  opens = open_carries;
  message = λ channel token first id k body c t i short. record {
    frames = message_joined channel token first 0 (fill id body k);
    each = parts_carry channel token first 0 id k (fill id body k) c t i short (fill_parts id k body);
  };
  closes = close_carries;
  abort = λ channel token number id status c t n i s. record {
    carried = message_carries 65 channel token number id (abort_bytes status) refl c t n i (omega (arith, abort_length status));
    status_is = abort_read status s;
  };
}
