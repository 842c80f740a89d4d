-- Sequence numbers, and where the bytes of a segment stand in the stream: RFC 9293, 3.4.
use Rattle.std.specs.Prelude.{ℕ, ◌+◌, ◌-◌, ◌%◌, ◌^◌, nat_lt, false, true, List, [], drop, if◌then◌else◌}
use Rattle.ua_stream.specs.Piece.{Piece, part_of}
use Rattle.ua_stream.specs.Flow.{Flow}

abbrev pub no_side : Flow
no_side = record { begun = false; origin = 0; next = 0; ready = []; parts = []; stopped = false; differs = false }

abbrev pub with_origin : Flow → ℕ → Flow
with_origin s sequence = record s { begun = true; origin = if s.begun then s.origin else sequence }

-- Sequence numbers go round in a circle of 2 ^ 32.
abbrev pub distance_of : ℕ → ℕ → ℕ
distance_of expected sequence = (sequence + 2 ^ 32 - expected) % 2 ^ 32

abbrev pub expected_of : ℕ → ℕ → ℕ
expected_of origin next = (origin + next) % 2 ^ 32

-- A number less than half the circle in front is that of a byte to come, and any other that of one that came: what came before is left out.
abbrev pub at_of : ℕ → ℕ → ℕ
at_of next distance = if nat_lt distance (2 ^ 31) then next + distance else next

abbrev pub skip_of : ℕ → ℕ
skip_of distance = if nat_lt distance (2 ^ 31) then 0 else 2 ^ 32 - distance

abbrev pub placed : ℕ → ℕ → List ℕ → Piece
placed next distance bytes = part_of (at_of next distance) (drop (skip_of distance) bytes)

abbrev pub piece_of : Flow → ℕ → List ℕ → Piece
piece_of s sequence bytes = placed s.next (distance_of (expected_of s.origin s.next) sequence) bytes
