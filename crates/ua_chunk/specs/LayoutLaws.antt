-- What is read is what is spelled, both ways.
use Rattle.std.proofs.Common.{◌≡◌, ℕ, ◌<◌, ◌^◌, true, List, Some, None, refl, ap, subst, ◌∙◌, lit≤}
use Rattle.std.specs.Prelude.{◌↔◌}
use Rattle.std.specs.Int.{w32}
use Rattle.ua_value.specs.Format.{◌>>=◌, IsBytes, IsLawful}
use Rattle.ua_value.specs.Number.{unsigned}
use Rattle.ua_value.specs.NumberLaws.{lawful_unsigned, wide_32}
use Rattle.std.specs.Str.{is_utf8, chars}
use lib.Utf8.{encode}
use Rattle.std.proofs.lemmas.Str.{IsUtf8-from_is_utf8}
use Rattle.ua_value.specs.Text.{string, byte_string, bytes_of}
use Rattle.ua_value.specs.TextLaws.{lawful_string, lawful_byte_string}
use Rattle.ua_value.specs.SequenceLaws.{lawful_pair}
use Rattle.ua_value.specs.Lists.{bind_some, same_some}
use Rattle.ua_value.specs.Whole.{only, only_takes, only_again}
use Rattle.ua_chunk.specs.Layout.{OpenChunk, Chunk, uint32, OpenHeader, open_header, ChunkHeader, chunk_header, abort_body, open_by, chunk_by, IsOpenChunk, IsChunk, IsAbort, open_chunk_of, chunk_of, abort_of, open_fields, chunk_fields, abort_bytes, policy_none}

lawful_uint32 : IsLawful uint32
lawful_uint32 = lawful_unsigned w32 wide_32

pub lawful_open_header : IsLawful open_header
unfolding open_header
lawful_open_header =
    lawful_pair uint32 _ lawful_uint32 (lawful_pair string _ lawful_string (lawful_pair byte_string _ lawful_byte_string
    (lawful_pair byte_string _ lawful_byte_string (lawful_pair uint32 uint32 lawful_uint32 lawful_uint32))))

pub lawful_chunk_header : IsLawful chunk_header
unfolding chunk_header
lawful_chunk_header = lawful_pair uint32 _ lawful_uint32 (lawful_pair uint32 _ lawful_uint32 (lawful_pair uint32 uint32 lawful_uint32 lawful_uint32))

pub lawful_abort_body : IsLawful abort_body
unfolding abort_body
lawful_abort_body = lawful_pair uint32 string lawful_uint32 lawful_string

-- ---- OPN

pub open_chunk_takes : (fields : List ℕ) (c : OpenChunk) → IsBytes fields → open_chunk_of fields ≡ Some c → IsOpenChunk c fields
unfolding open_chunk_of
open_chunk_takes fields c fits e =
    let one = bind_some (open_header.grammar.front fields) (λ x. Some (open_by x)) c e in
    let t = lawful_open_header.reads.takes fields one.0.0 one.0.1 fits one.1 in
    let same : open_by one.0 ≡ c = same_some (open_by one.0) c one.2 in
    subst (λ (c : OpenChunk). IsOpenChunk c fields) same (one.0.0.1.1.0, one.0.0.1.1.1.0, t.text, t.spelled, t.parts)

pub open_chunk_again : (fields : List ℕ) (c : OpenChunk) → IsOpenChunk c fields → open_chunk_of fields ≡ Some c
unfolding open_chunk_of
open_chunk_again fields c s =
    let head : OpenHeader = (c.channel, (c.policy, (s.0, (s.1, (c.sequence, c.request_id))))) in
    ap (λ (l : List ℕ). open_header.grammar.front l >>= λ x. Some (open_by x)) s.4 ∙ rw (lawful_open_header.reads.again head s.2 c.body s.3) refl

-- ---- MSG and CLO

pub chunk_takes : (fields : List ℕ) (c : Chunk) → IsBytes fields → chunk_of fields ≡ Some c → IsChunk c fields
unfolding chunk_of
chunk_takes fields c fits e =
    let one = bind_some (chunk_header.grammar.front fields) (λ x. Some (chunk_by x)) c e in
    let t = lawful_chunk_header.reads.takes fields one.0.0 one.0.1 fits one.1 in
    let same : chunk_by one.0 ≡ c = same_some (chunk_by one.0) c one.2 in
    subst (λ (c : Chunk). IsChunk c fields) same (t.text, t.spelled, t.parts)

pub chunk_again : (fields : List ℕ) (c : Chunk) → IsChunk c fields → chunk_of fields ≡ Some c
unfolding chunk_of
chunk_again fields c s =
    let head : ChunkHeader = (c.channel, (c.token, (c.sequence, c.request_id))) in
    ap (λ (l : List ℕ). chunk_header.grammar.front l >>= λ x. Some (chunk_by x)) s.2 ∙ rw (lawful_chunk_header.reads.again head s.0 c.body s.1) refl

-- ---- the body of an abort

pub abort_takes : (body : List ℕ) (status : ℕ) → IsBytes body → abort_of body ≡ Some status → IsAbort status body
unfolding abort_of
abort_takes body status fits e =
    let one = bind_some (only abort_body.grammar body) (λ x. Some x.0) status e in
    let same : one.0.0 ≡ status = same_some one.0.0 status one.2 in
    subst (λ (n : ℕ). IsAbort n body) same (one.0.1, only_takes abort_body.grammar lawful_abort_body.reads body one.0 fits one.1)

pub abort_again : (body : List ℕ) (status : ℕ) → IsAbort status body → abort_of body ≡ Some status
unfolding abort_of
abort_again body status s = rw (only_again abort_body.grammar lawful_abort_body.reads body (status, s.0) s.1) refl

-- Reading gives what the fields spell, and all that they spell.
pub record AreRead (fields : List ℕ) : Type 0 where
  pub open_chunk : (c : OpenChunk) → (open_chunk_of fields ≡ Some c) ↔ IsOpenChunk c fields
  pub chunk : (c : Chunk) → (chunk_of fields ≡ Some c) ↔ IsChunk c fields
  pub abort : (status : ℕ) → (abort_of fields ≡ Some status) ↔ IsAbort status fields

abbrev pub LayoutsAreRead : Type 0
LayoutsAreRead = (fields : List ℕ) → IsBytes fields → AreRead fields

pub layouts_are_read : LayoutsAreRead
layouts_are_read fields fits = record {
  open_chunk = λ c. (open_chunk_takes fields c fits, open_chunk_again fields c);
  chunk = λ c. (chunk_takes fields c fits, chunk_again fields c);
  abort = λ status. (abort_takes fields status fits, abort_again fields status);
}

-- ---- what is written is read

pub record AreUInt32 (c : Chunk) : Type 0 where
  pub channel : c.channel < 2 ^ 32
  pub token : c.token < 2 ^ 32
  pub sequence : c.sequence < 2 ^ 32
  pub request_id : c.request_id < 2 ^ 32

policy_is_text : is_utf8 policy_none ≡ true
unfolding is_utf8 chars encode
policy_is_text = refl

open_values : (channel sequence id : ℕ) → channel < 2 ^ 32 → sequence < 2 ^ 32 → id < 2 ^ 32
    → open_header.IsValue (channel, (Some policy_none, (None, (None, (sequence, id)))))
unfolding open_header unsigned bytes_of
open_values channel sequence id h s i = (h, ((lit≤ tt, IsUtf8-from_is_utf8 policy_none policy_is_text), (tt, (tt, (s, i)))))

chunk_values : (c : Chunk) → AreUInt32 c → chunk_header.IsValue (c.channel, (c.token, (c.sequence, c.request_id)))
unfolding chunk_header unsigned
chunk_values c h = (h.channel, (h.token, (h.sequence, h.request_id)))

abort_values : (status : ℕ) → status < 2 ^ 32 → abort_body.IsValue (status, None)
unfolding abort_body unsigned bytes_of
abort_values status h = (h, tt)

-- The fields that are written have the layout, and say what they are made of.
pub record IsWritten : Type 0 where
  pub open_chunk : (channel sequence id : ℕ) (body : List ℕ) → channel < 2 ^ 32 → sequence < 2 ^ 32 → id < 2 ^ 32
      → open_chunk_of (open_fields channel sequence id body) ≡ Some (record { channel = channel; policy = Some policy_none; sequence = sequence; request_id = id; body = body })
  pub chunk : (c : Chunk) → AreUInt32 c → chunk_of (chunk_fields c) ≡ Some c
  pub abort : (status : ℕ) → status < 2 ^ 32 → abort_of (abort_bytes status) ≡ Some status

pub written_is_read : IsWritten
written_is_read = record {
  open_chunk = λ channel sequence id body h s i.
      open_chunk_again (open_fields channel sequence id body) (record { channel = channel; policy = Some policy_none; sequence = sequence; request_id = id; body = body })
      (None, None, open_header.canon (channel, (Some policy_none, (None, (None, (sequence, id))))), lawful_open_header.canonical _ (open_values channel sequence id h s i), refl);
  chunk = λ c h. chunk_again (chunk_fields c) c (chunk_header.canon (c.channel, (c.token, (c.sequence, c.request_id))), lawful_chunk_header.canonical _ (chunk_values c h), refl);
  abort = λ status h. abort_again (abort_bytes status) status (None, lawful_abort_body.canonical (status, None) (abort_values status h));
}
