-- The bytes that a link gave, by the reads that gave them.
use Rattle.std.specs.Prelude.{◌≡◌, ℕ, ◌+◌, ◌<◌, ℤ, List, [], ◌∷◌, ◌++◌, take, drop, Option, Some, None}
use Rattle.ua_frame.specs.Streams.{Piece, moment_of}

-- what the clock said after a read, and how many bytes came
abbrev pub Cut : Type 0
Cut = ℤ × ℕ

abbrev pub piece_at : ℤ → List ℕ → Piece
piece_at now bytes = record { moment = moment_of now; bytes = bytes }

-- the bytes of all reads
abbrev pub total : List Cut → ℕ
total [] = 0
total (c ∷ cs) = c.1 + total cs

-- the moment of a read, where it did not fail
abbrev pub moment_of_read : Option Cut → List ℤ
moment_of_read None = []
moment_of_read (Some c) = c.0 ∷ []

-- the moments of all reads
abbrev pub moments : List Cut → List ℤ
moments [] = []
moments (c ∷ cs) = c.0 ∷ moments cs

-- the pieces in which some bytes came
abbrev pub pieces_by : List Cut → List ℕ → List Piece
pieces_by [] bytes = []
pieces_by (c ∷ cs) bytes = piece_at c.0 (take c.1 bytes) ∷ pieces_by cs (drop c.1 bytes)

-- no read gave the end of the input
abbrev pub NoneEmpty : List Cut → Type 0
NoneEmpty [] = Unit {0}
NoneEmpty (c ∷ cs) = (0 < c.1) × NoneEmpty cs

-- the last read gave the end of the input, and no other did
pub record LastEmpty (cuts : List Cut) : Type 0 where
  pub before : List Cut
  pub now : ℤ
  pub is : cuts ≡ before ++ (now, 0) ∷ []
  pub filled : NoneEmpty before
