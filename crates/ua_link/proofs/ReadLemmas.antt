-- One more read.
use Rattle.std.proofs.Common.{arith, ◌≡◌, ℕ, ◌+◌, ◌<◌, ◌≤◌, List, [], ◌∷◌, ◌++◌, length, take, drop, refl, ap, ap₂, ◌∙◌, take_all, length-drop}
use Rattle.std.proofs.lemmas.List.{take-append-le}
use lib.Seq.{drop-append-le}
use Rattle.ua_frame.specs.Streams.{Piece}
use Rattle.ua_link.specs.Reads.{Cut, piece_at, total, pieces_by, NoneEmpty}

pub total_more : (cs : List Cut) (c : Cut) → total (cs ++ c ∷ []) ≡ total cs + c.1
total_more [] c = omega arith
total_more (d ∷ cs) c = omega (arith, total_more cs c)

no_bytes : (bytes : List ℕ) → length bytes ≡ 0 → bytes ≡ []
no_bytes [] e = refl
no_bytes (b ∷ bytes) e = absurd (omega arith)

-- the pieces so far, and what the read gave
pub pieces_more : (cs : List Cut) (c : Cut) (bytes gave : List ℕ) → length bytes ≡ total cs → length gave ≡ c.1 → pieces_by (cs ++ c ∷ []) (bytes ++ gave) ≡ pieces_by cs bytes ++ piece_at c.0 gave ∷ []
pieces_more [] c bytes gave l m =
    ap (λ front. piece_at c.0 (take c.1 (front ++ gave)) ∷ []) (no_bytes bytes l) ∙ ap (λ b. piece_at c.0 b ∷ []) (take_all c.1 gave (omega arith))
pieces_more (d ∷ cs) c bytes gave l m =
    let within : d.1 ≤ length bytes = omega arith in
    let first = take-append-le d.1 bytes gave within in
    let rest = drop-append-le d.1 bytes gave within in
    let later = pieces_more cs c (drop d.1 bytes) gave (omega (arith, length-drop d.1 bytes)) m in
    ap₂ (λ (b : List ℕ) (ps : List Piece). piece_at d.0 b ∷ ps) first (ap (pieces_by (cs ++ c ∷ [])) rest ∙ later)

pub none_empty_more : (cs : List Cut) (c : Cut) → NoneEmpty cs → 0 < c.1 → NoneEmpty (cs ++ c ∷ [])
none_empty_more [] c h l = (l, tt)
none_empty_more (d ∷ cs) c h l = (h.0, none_empty_more cs c h.1 l)
