-- Frames that are written one after another.
use Rattle.std.proofs.Common.{◌≡◌, ℕ, ◌+◌, ◌<◌, ◌≤◌, ◌^◌, List, [], ◌∷◌, ◌++◌, length, take, drop, refl, sym, ap, ◌∙◌, arith, append_assoc}
use Rattle.std.proofs.lemmas.List.{append-nil}
use Rattle.ua_chunk.specs.Numbers.{number_after}
use Rattle.ua_chunk.specs.NumberLaws.{IsNumber, number_after_none, number_after_more}
use Rattle.ua_chunk.specs.Cut.{Part, fill}
use Rattle.ua_chunk.specs.CutLaws.{fill_last, fill_more}
use Rattle.ua_value.specs.Number.{unsigned}
use Rattle.ua_value.specs.Text.{bytes_of}
use Rattle.ua_frame.specs.Layout.{Parts, IsFrameOf}
use Rattle.ua_frame.specs.LayoutLaws.{frame_bytes_is, frame_bytes_length}
use Rattle.ua_frame.specs.declared.kind.Kind.{Kind}
use Rattle.ua_frame.specs.declared.kind.Kind.TheVariants.{Open}
use Rattle.ua_chunk.specs.Layout.{Chunk, chunk_header, open_header, chunk_fields, open_fields}
use Rattle.ua_chunk.specs.Written.{open_frame, chunk_frame, part_frame, message_frames}

-- a sender that gave n numbers goes on as one that starts behind them
pub message_frames_after : (channel token first n m : ℕ) (parts : List Part) → 1 ≤ first → message_frames channel token (number_after first n) m parts ≡ message_frames channel token first (n + m) parts
message_frames_after channel token first n m [] h = refl
message_frames_after channel token first n m (p ∷ parts) h =
    let number = number_after_more first n m h in
    let on : n + (m + 1) ≡ n + m + 1 = omega arith in
    let rest : message_frames channel token (number_after first n) (m + 1) parts ≡ message_frames channel token first (n + m + 1) parts =
    message_frames_after channel token first n (m + 1) parts h ∙ ap (λ (k : ℕ). message_frames channel token first k parts) on in
    λ i. part_frame channel token (number i) p ++ rest i

-- all but the last part of a filled cut
pub part_written : (out : List ℕ) (channel token number id k : ℕ) (body : List ℕ) → 1 ≤ k → IsNumber number → k < length body
    → (out ++ part_frame channel token number (record { id = id; flag = 67; bytes = take k body })) ++ message_frames channel token (number_after number 1) 0 (fill id (drop k body) k)
    ≡ out ++ message_frames channel token number 0 (fill id body k)
part_written out channel token number id k body p is lt =
    let q : Part = record { id = id; flag = 67; bytes = take k body } in
    let rest = fill id (drop k body) k in
    let on : message_frames channel token (number_after number 1) 0 rest ≡ message_frames channel token number 1 rest =
    message_frames_after channel token number 1 0 rest is.some in
    append_assoc out (part_frame channel token number q) (message_frames channel token (number_after number 1) 0 rest)
    ∙ (λ i. out ++ (part_frame channel token (sym (number_after_none number is) i) q ++ on i))
    ∙ ap (λ (ps : List Part). out ++ message_frames channel token number 0 ps) (sym (fill_more id k body p lt))

-- its last part
pub last_written : (out : List ℕ) (channel token number id k : ℕ) (body : List ℕ) → 1 ≤ k → IsNumber number → length body ≤ k
    → out ++ part_frame channel token number (record { id = id; flag = 70; bytes = body }) ≡ out ++ message_frames channel token number 0 (fill id body k)
last_written out channel token number id k body p is le =
    let q : Part = record { id = id; flag = 70; bytes = body } in
    ap (λ (l : List ℕ). out ++ l) (ap (λ (n : ℕ). part_frame channel token n q) (sym (number_after_none number is)) ∙ sym (append-nil (part_frame channel token (number_after number 0) q)))
    ∙ ap (λ (ps : List Part). out ++ message_frames channel token number 0 ps) (sym (fill_last id k body p le))

-- ---- what is written is a frame

pub length-chunk_fields : (c : Chunk) → length (chunk_fields c) ≡ 16 + length c.body
unfolding chunk_header unsigned
length-chunk_fields c = omega arith

pub length-open_fields : (channel number id : ℕ) (body : List ℕ) → length (open_fields channel number id body) ≡ 71 + length body
unfolding open_header unsigned bytes_of
length-open_fields channel number id body = omega arith

abbrev chunk_parts : Kind → ℕ → ℕ → ℕ → ℕ → ℕ → List ℕ → Parts
chunk_parts kind flag channel token number id body =
    let c : Chunk = record { channel = channel; token = token; sequence = number; request_id = id; body = body } in
    record { kind = kind; flag = flag; fields = chunk_fields c }

abbrev open_parts : ℕ → ℕ → ℕ → List ℕ → Parts
open_parts channel number id body = record { kind = Open; flag = 70; fields = open_fields channel number id body }

pub length-chunk_frame : (kind : Kind) (flag channel token number id : ℕ) (body : List ℕ) → length (chunk_frame kind flag channel token number id body) ≡ 24 + length body
unfolding chunk_frame
length-chunk_frame kind flag channel token number id body =
    let fields = length-chunk_fields (record { channel = channel; token = token; sequence = number; request_id = id; body = body }) in
    frame_bytes_length (chunk_parts kind flag channel token number id body) ∙ ap (λ n. 8 + n) fields ∙ omega arith

pub length-open_frame : (channel number id : ℕ) (body : List ℕ) → length (open_frame channel number id body) ≡ 79 + length body
unfolding open_frame
length-open_frame channel number id body =
    frame_bytes_length (open_parts channel number id body) ∙ ap (λ n. 8 + n) (length-open_fields channel number id body) ∙ omega arith

pub chunk_frame_is : (kind : Kind) (flag channel token number id : ℕ) (body : List ℕ) → 24 + length body < 2 ^ 32
    → IsFrameOf (chunk_frame kind flag channel token number id body)
    (let c : Chunk = record { channel = channel; token = token; sequence = number; request_id = id; body = body } in record { kind = kind; flag = flag; fields = chunk_fields c })
unfolding chunk_frame
chunk_frame_is kind flag channel token number id body short =
    let fields = length-chunk_fields (record { channel = channel; token = token; sequence = number; request_id = id; body = body }) in
    frame_bytes_is (chunk_parts kind flag channel token number id body) (omega (arith, fields, short))

pub open_frame_is : (channel number id : ℕ) (body : List ℕ) → 79 + length body < 2 ^ 32
    → IsFrameOf (open_frame channel number id body) (record { kind = Open; flag = 70; fields = open_fields channel number id body })
unfolding open_frame
open_frame_is channel number id body short = frame_bytes_is (open_parts channel number id body) (omega (arith, length-open_fields channel number id body, short))
