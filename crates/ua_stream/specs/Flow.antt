-- One direction of a connection, as it is seen.
use Rattle.std.specs.Prelude.{ℕ, Bool, List, [], ◌∷◌, ◌++◌}
use Rattle.ua_stream.specs.Piece.{Piece}
use Rattle.ua_stream.specs.Run.{IsStream}

-- whether the sequence number of its first byte was said, that number, how many bytes came in order, those of them that are ready, what came out of order, and whether it takes no
-- more, and whether segments differed
pub record Flow : Type 0 where
  pub begun : Bool
  pub origin : ℕ
  pub next : ℕ
  pub ready : List ℕ
  pub parts : List Piece
  pub stopped : Bool
  pub differs : Bool

-- One part more: whatever parts came before, and whatever of the bytes was taken, the bytes in order are those of the stream.
abbrev pub Follows : Flow → Piece → Flow → Type 0
Follows old s new =
    (past : List Piece) (taken : List ℕ) → IsStream past (taken ++ old.ready) old.next old.parts → IsStream (past ++ s ∷ []) (taken ++ new.ready) new.next new.parts
