-- Pieces that are one stream, however they are cut.
use Rattle.std.proofs.Common.{◌≡◌, ℕ, max, ℤ, List, [], ◌∷◌, ◌++◌, map, refl, sym, ap, ap₂, subst, ◌∙◌, append-nil, append_assoc, arith}
use Rattle.std.proofs.lemmas.List.{map-append}
use Rattle.ua_frame.specs.Streams.{Piece, TimedByte, at, timed, latest, moment_of}
use Rattle.ua_frame.specs.StreamLaws.{timed_more, latest_more}
use Rattle.ua_link.specs.Reads.{piece_at}
use Rattle.ua_link.specs.Turns.{more}
use Rattle.ua_link.specs.Connections.{SameStream, behind}

pub same : (ps : List Piece) → SameStream ps ps
same ps = record { bytes = refl; moment = refl }

pub other : (ps qs : List Piece) → SameStream ps qs → SameStream qs ps
other ps qs s = record { bytes = sym s.bytes; moment = sym s.moment }

pub both : (ps qs rs : List Piece) → SameStream ps qs → SameStream qs rs → SameStream ps rs
both ps qs rs s t = record { bytes = s.bytes ∙ t.bytes; moment = s.moment ∙ t.moment }

-- one more piece behind either
pub more_same : (ps qs : List Piece) (now : ℤ) (b : List ℕ) → SameStream ps qs → SameStream (more ps now b) (more qs now b)
more_same ps qs now b s = record {
  bytes = timed_more 0 ps (piece_at now b) ∙ ap₂ (λ (t : List TimedByte) (m : ℕ). t ++ map (at (max m (moment_of now))) b) s.bytes s.moment ∙ sym (timed_more 0 qs (piece_at now b));
  moment = latest_more 0 ps (piece_at now b) ∙ ap (λ (m : ℕ). max m (moment_of now)) s.moment ∙ sym (latest_more 0 qs (piece_at now b));
}

twice : (m n : ℕ) → max (max m n) n ≡ max m n
twice m n = omega arith

-- a piece that came in two parts at one moment
pub parted : (ps : List Piece) (now : ℤ) (a b : List ℕ) → SameStream (more (more ps now a) now b) (more ps now (a ++ b))
parted ps now a b =
    let m = max (latest ps) (moment_of now) in
    let later : latest (more ps now a) ≡ m = latest_more 0 ps (piece_at now a) in
    let again : max (latest (more ps now a)) (moment_of now) ≡ m = ap (λ (k : ℕ). max k (moment_of now)) later ∙ twice (latest ps) (moment_of now) in
    record {
      bytes = timed_more 0 (more ps now a) (piece_at now b)
          ∙ ap₂ (λ (t : List TimedByte) (k : ℕ). t ++ map (at k) b) (timed_more 0 ps (piece_at now a)) again
          ∙ append_assoc (timed ps) (map (at m) a) (map (at m) b)
          ∙ ap (λ (t : List TimedByte). timed ps ++ t) (sym (map-append (at m) a b))
          ∙ sym (timed_more 0 ps (piece_at now (a ++ b)));
      moment = latest_more 0 (more ps now a) (piece_at now b) ∙ again ∙ sym (latest_more 0 ps (piece_at now (a ++ b)));
    }

-- no byte more is the same bytes
pub no_more : (ps : List Piece) (now : ℤ) → timed (more ps now []) ≡ timed ps
no_more ps now = timed_more 0 ps (piece_at now []) ∙ append-nil (timed ps)

pub behind_bytes : (ps : List Piece) (now : ℤ) (b : List ℕ) → timed (behind ps now b) ≡ timed (more ps now b)
behind_bytes ps now [] = sym (no_more ps now)
behind_bytes ps now (b ∷ bs) = refl

pub behind_same : (ps qs : List Piece) (now : ℤ) (b : List ℕ) → SameStream ps qs → SameStream (behind ps now b) (behind qs now b)
behind_same ps qs now [] s = s
behind_same ps qs now (b ∷ bs) s = more_same ps qs now (b ∷ bs) s

-- what is behind in two parts
pub behind_parted : (ps : List Piece) (now : ℤ) (a b : List ℕ) → SameStream (behind (behind ps now a) now b) (behind ps now (a ++ b))
behind_parted ps now [] b = same (behind ps now b)
behind_parted ps now (x ∷ a) [] = subst (λ (l : List ℕ). SameStream (more ps now (x ∷ a)) (behind ps now l)) (sym (append-nil (x ∷ a))) (same (more ps now (x ∷ a)))
behind_parted ps now (x ∷ a) (y ∷ b) = parted ps now (x ∷ a) (y ∷ b)

-- the bytes of one more piece behind pieces that are one stream with those
pub more_bytes : (qs ps : List Piece) (now : ℤ) (a b : List ℕ) → SameStream qs (behind ps now a) → timed (more qs now b) ≡ timed (more ps now (a ++ b))
more_bytes qs ps now a b s =
    sym (behind_bytes qs now b) ∙ (both (behind qs now b) (behind (behind ps now a) now b) (behind ps now (a ++ b)) (behind_same qs (behind ps now a) now b s) (behind_parted ps now a b)).bytes
    ∙ behind_bytes ps now (a ++ b)
