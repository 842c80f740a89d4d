-- What the frame of a type carries, and that it is no longer than the frame.
use Rattle.std.proofs.Common.{◌≡◌, ℕ, ◌≤◌, true, List, length, Option, Some, None, refl, ap, arith}
use Rattle.std.proofs.lemmas.List.{length-append}
use Rattle.ua_value.specs.Format.{IsBytes}
use Rattle.ua_frame.specs.declared.kind.Kind.{Kind}
use Rattle.ua_frame.specs.declared.kind.Kind.TheVariants.{Hello, Acknowledge, Error, ReverseHello, Open, Message, Close}
use Rattle.ua_chunk.specs.Layout.{OpenChunk, Chunk, FlaggedChunk, open_chunk_of, open_chunk_by, chunk_of, chunk_by_kind, with_flag}
use Rattle.ua_chunk.specs.LayoutLaws.{open_chunk_takes, chunk_takes}
use Rattle.ua_conn.specs.Past.{has_token}

pub open_carried : (kind : Kind) (fields : List ℕ) → kind ≡ Open → open_chunk_by kind fields ≡ open_chunk_of fields
open_carried kind fields e = ap (λ kind. open_chunk_by kind fields) e

pub chunk_carried : (kind : Kind) (flag : ℕ) (fields : List ℕ) → has_token (Some kind) ≡ true → chunk_by_kind kind flag fields ≡ with_flag kind flag (chunk_of fields)
chunk_carried Message flag fields h = refl
chunk_carried Close flag fields h = refl
chunk_carried Hello flag fields h = absurd (cc)
chunk_carried Acknowledge flag fields h = absurd (cc)
chunk_carried Error flag fields h = absurd (cc)
chunk_carried ReverseHello flag fields h = absurd (cc)
chunk_carried Open flag fields h = absurd (cc)

pub flagged_some : (kind : Kind) (flag : ℕ) (o : Option Chunk) (c : FlaggedChunk) → with_flag kind flag o ≡ Some c → o ≡ Some c.chunk
flagged_some kind flag None c h = absurd (cc)
flagged_some kind flag (Some chunk) c h =
    let f : FlaggedChunk = record { kind = kind; flag = flag; chunk = chunk } in
    let same : f ≡ c = cc in
    ap (λ (c : FlaggedChunk). Some c.chunk) same

pub open_short : (fields : List ℕ) (c : OpenChunk) → IsBytes fields → open_chunk_of fields ≡ Some c → length c.body ≤ length fields
open_short fields c fits e = let s = open_chunk_takes fields c fits e in omega (arith, ap length s.4, length-append s.2 c.body)

pub chunk_short : (fields : List ℕ) (c : Chunk) → IsBytes fields → chunk_of fields ≡ Some c → length c.body ≤ length fields
chunk_short fields c fits e = let s = chunk_takes fields c fits e in omega (arith, ap length s.2, length-append s.0 c.body)
