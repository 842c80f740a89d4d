-- An A frame can follow any part: the part's own channel, token and id, the next number, and an abort body.
use Rattle.std.proofs.Common.{◌≡◌, ℕ, zero, suc, ◌+◌, ◌/◌, ◌%◌, ◌<◌, ◌≤◌, ◌^◌, Bool, true, false, cond, ◌&&◌, ◌||◌, ◌==◌, nat_lt, List, [], ◌∷◌, ◌++◌, length, Option, Some, None, is_some, refl, sym, ap, subst, ◌∙◌, arith}
use Rattle.std.proofs.lemmas.Bool.{lt-ltb, ltb-true, ltb-false, eq-eqb}
use Rattle.std.specs.Int.{w32, to_le_bytes}
use Rattle.ua_value.specs.Format.{IsBytes}
use Rattle.ua_value.specs.Lists.{IsBytes-drop}
use Rattle.ua_value.specs.Number.{unsigned}
use Rattle.ua_value.specs.Text.{bytes_of}
use Rattle.ua_frame.specs.Streams.{size_of}
use Rattle.ua_frame.specs.Layout.{Frame, kind_of, fields_of, Parts, frame_bytes, IsFrameOf}
use Rattle.ua_frame.specs.LayoutLaws.{frame_bytes_is}
use Rattle.ua_frame.specs.declared.kind.Kind.TheVariants as kinds
use Rattle.ua_chunk.specs.Numbers.{follows}
use Rattle.ua_chunk.specs.Layout.{Chunk, chunk_header, abort_body, chunk_of, abort_of, chunk_fields, abort_bytes}
use Rattle.ua_chunk.specs.Layout as layout
use Rattle.ua_chunk.specs.LayoutLaws.{chunk_takes, chunk_again, lawful_chunk_header}
use Rattle.ua_channel.specs.Token.{is_usable}
use Rattle.ua_channel.specs.Admission.{follows_last}
use Rattle.ua_conn.specs.server.Site.{Site}
use Rattle.ua_conn.specs.Past.{Past, Known, known, has_number, is_open, carried, or_empty, number_of, sequence_of, open_in}
use Rattle.ua_conn.specs.server.Faults.{greatest_frame}
use Rattle.ua_conn.specs.server.Legal.{IsChunk, CanDrop}
use Rattle.ua_conn.specs.server.Machine.{known_after}
use Rattle.ua_conn.proofs.ServerEnd.KnownLemmas.{known_step}
use Rattle.ua_conn.proofs.ServerEnd.ReadyLemmas.{msg_tokens, msg_limits}

-- ---- the next number, or 0 at a wrap

next_number : ℕ → ℕ
next_number q = cond (nat_lt q 4294966272) (q + 1) 0

or_second : (a b : Bool) → b ≡ true → (a || b) ≡ true
or_second true b h = refl
or_second false b h = h

next_follows : (q : ℕ) → follows q (next_number q) ≡ true
unfolding next_number
next_follows q = by_test (nat_lt q 4294966272) refl
  where
    by_test : (v : Bool) → nat_lt q 4294966272 ≡ v → follows q (cond v (q + 1) 0) ≡ true
    by_test true e = ap (λ b. b || (nat_lt 4294966271 q && nat_lt (q + 1) 1024)) (eq-eqb (q + 1) (q + 1) refl)
    by_test false e = or_second (0 == q + 1) _ (ap (λ b. b && nat_lt 0 1024) (lt-ltb 4294966271 q (omega (arith, ltb-false _ _ e))))

next_fits : (q : ℕ) → next_number q < 2 ^ 32
unfolding next_number
next_fits q = by_test (nat_lt q 4294966272) refl
  where
    by_test : (v : Bool) → nat_lt q 4294966272 ≡ v → cond v (q + 1) 0 < 2 ^ 32
    by_test true e = omega (arith, ltb-true _ _ e)
    by_test false e = omega arith

msg_last : (site : Site) (past : Past) (f : Frame) → kind_of f.bytes ≡ Some kinds.Message → (known site (f ∷ past)).last ≡ Some ((carried f).sequence)
unfolding known_after
msg_last site past f e = ap (λ (k : Known). k.last) (known_step site f past)
    ∙ (λ i. cond (has_number (e i)) (Some (number_of f)) (known site past).last)
    ∙ ap (λ κ. Some (cond (is_open κ) (sequence_of (open_in f)) ((carried f).sequence))) e

-- ---- lists of bytes

IsBytes-none : IsBytes []
IsBytes-none i = omega arith

IsBytes-more : (b : ℕ) (bytes : List ℕ) → b < 256 → IsBytes bytes → IsBytes (b ∷ bytes)
IsBytes-more b bytes lt h zero = lt
IsBytes-more b bytes lt h (suc i) = h i

IsBytes-number : (n : ℕ) (bytes : List ℕ) → IsBytes bytes → IsBytes (to_le_bytes w32 n ++ bytes)
IsBytes-number n bytes h =
    let c : List ℕ = n / 16777216 % 256 ∷ bytes in
    let b : List ℕ = n / 65536 % 256 ∷ c in
    let a : List ℕ = n / 256 % 256 ∷ b in
    IsBytes-more (n % 256) a (omega arith) (IsBytes-more (n / 256 % 256) b (omega arith) (IsBytes-more (n / 65536 % 256) c (omega arith) (IsBytes-more (n / 16777216 % 256) bytes (omega arith) h)))

-- ---- the frame

-- all four numbers fit four bytes
record Fits (c : Chunk) : Type 0 where
  channel : c.channel < 2 ^ 32
  token : c.token < 2 ^ 32
  sequence : c.sequence < 2 ^ 32
  id : c.request_id < 2 ^ 32

fits_of : (c : Chunk) (fields : List ℕ) → layout.IsChunk c fields → Fits c
unfolding chunk_header unsigned
fits_of c fields h = record { channel = h.1.2.0; token = h.1.3.2.0; sequence = h.1.3.3.2.0; id = h.1.3.3.3.0 }

abort : List ℕ
abort = abort_bytes 0

abort_is : abort_of abort ≡ Some 0
unfolding abort abort_of abort_body unsigned bytes_of
abort_is = refl

abort_fields : Chunk → ℕ → Chunk
abort_fields c n = record { channel = c.channel; token = c.token; sequence = n; request_id = c.request_id; body = abort }

abort_parts : Chunk → ℕ → Parts
abort_parts c n = record { kind = kinds.Message; flag = 65; fields = chunk_fields (abort_fields c n) }

abort_read : (c : Chunk) (n : ℕ) → Fits c → n < 2 ^ 32 → chunk_of (chunk_fields (abort_fields c n)) ≡ Some (abort_fields c n)
unfolding abort_fields chunk_header unsigned
abort_read c n h lt =
    chunk_again _ (abort_fields c n)
    (_, lawful_chunk_header.canonical (c.channel, (c.token, (n, c.request_id))) (h.channel, (h.token, (lt, h.id))), refl)

abort_len : (c : Chunk) (n : ℕ) → length (chunk_fields (abort_fields c n)) ≡ 24
unfolding abort_fields abort chunk_header abort_body unsigned bytes_of
abort_len c n = refl

abort_bytes_are : (c : Chunk) (n : ℕ) → IsBytes (frame_bytes (abort_parts c n))
unfolding abort_parts abort_fields abort chunk_header abort_body unsigned bytes_of
abort_bytes_are c n =
    let status : List ℕ = to_le_bytes w32 0 ++ (255 ∷ 255 ∷ 255 ∷ 255 ∷ []) in
    let id : List ℕ = to_le_bytes w32 c.request_id ++ status in
    let number : List ℕ = to_le_bytes w32 n ++ id in
    let token : List ℕ = to_le_bytes w32 c.token ++ number in
    let fields : List ℕ = to_le_bytes w32 c.channel ++ token in
    let size : List ℕ = to_le_bytes w32 32 ++ fields in
    let fine : IsBytes size =
    IsBytes-number 32 fields (IsBytes-number c.channel token (IsBytes-number c.token number (IsBytes-number n id (IsBytes-number c.request_id status
    (IsBytes-number 0 (255 ∷ 255 ∷ 255 ∷ 255 ∷ []) (IsBytes-number 4294967295 [] IsBytes-none)))))) in
    IsBytes-more 77 (83 ∷ 71 ∷ 65 ∷ size) (omega arith) (IsBytes-more 83 (71 ∷ 65 ∷ size) (omega arith) (IsBytes-more 71 (65 ∷ size) (omega arith) (IsBytes-more 65 size (omega arith) fine)))

abort_frame : Frame → ℕ → Frame
abort_frame f n = record { bytes = frame_bytes (abort_parts (carried f) n); moment = f.moment }

some_carried : (f : Frame) → is_some (chunk_of (fields_of f.bytes)) ≡ true → chunk_of (fields_of f.bytes) ≡ Some (carried f)
some_carried f h = by_option (chunk_of (fields_of f.bytes)) h
  where
    by_option : (o : Option Chunk) → is_some o ≡ true → o ≡ Some (or_empty o)
    by_option None h = absurd (cc)
    by_option (Some c) h = refl

pub can_drop : (site : Site) (past : Past) (f : Frame) → 8192 ≤ greatest_frame (known site past).limits → IsChunk site past kinds.Message 67 f → CanDrop site (f ∷ past) (carried f).request_id
unfolding abort_frame abort_parts abort_fields
can_drop site past f room c =
    let is = some_carried f c.layout in
    let fits = fits_of (carried f) (fields_of f.bytes) (chunk_takes (fields_of f.bytes) (carried f) (IsBytes-drop 8 f.bytes c.size.whole.bytes) is) in
    let n = next_number (carried f).sequence in
    let a = abort_frame f n in
    let len = abort_len (carried f) n in
    let there : IsFrameOf a.bytes (abort_parts (carried f) n) = frame_bytes_is (abort_parts (carried f) n) (omega (arith, len)) in
    let size : size_of a.bytes ≡ 32 = there.there.whole ∙ omega (arith, len) in
    let read : chunk_of (fields_of a.bytes) ≡ Some (abort_fields (carried f) n) = ap chunk_of there.fields ∙ abort_read (carried f) n fits (next_fits (carried f).sequence) in
    let same : carried a ≡ abort_fields (carried f) n = ap or_empty read in (
      a,
      record {
        kind_is = there.kind;
        flag_is = there.flag;
        size = record {
          whole = record { frame = there.there; bytes = abort_bytes_are (carried f) n };
          least = subst (λ l. size_of a.bytes ≤ greatest_frame l) (sym (msg_limits site past f c.kind_is)) (omega (arith, room, size));
        };
        layout = ap is_some read;
        channel = ap (λ (x : Chunk). x.channel) same ∙ c.channel;
        token = (λ i. is_usable (msg_tokens site past f c.kind_is i) (same i).token f.moment) ∙ c.token;
        number = (λ i. follows_last (msg_last site past f c.kind_is i) (same i).sequence) ∙ next_follows (carried f).sequence;
      },
      ap (λ (x : Chunk). x.request_id) same,
      ap (λ (x : Chunk). is_some (abort_of x.body)) same ∙ ap is_some abort_is,
    )
