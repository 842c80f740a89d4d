-- A half received message, and what a further part makes of it. OPC 10000-6, 6.7.2.2 (IsFinal) and 6.7.3 (abort).
use Rattle.std.specs.Prelude.{ℕ, ◌+◌, Bool, true, not, ◌&&◌, ◌||◌, ◌==◌, nat_lt, List, [], ◌∷◌, ◌++◌, length, Option, Some, None, is_none, if◌then◌else◌}
use Rattle.ua_frame.specs.Rows.{Row}
use Rattle.ua_chunk.specs.Layout.{abort_of}

-- a half received message: its request id, its parts joined, and how many they are
pub record Half : Type 0 where
  pub id : ℕ
  pub body : List ℕ
  pub parts : ℕ

-- the message with one more part
abbrev pub with_part : Option Half → ℕ → List ℕ → Half
with_part None id bytes = record { id = id; body = bytes; parts = 1 }
with_part (Some half) id bytes = record { id = half.id; body = half.body ++ bytes; parts = half.parts + 1 }

-- F ends a message, and A gives it up
abbrev pub ends_message : ℕ → Bool
ends_message flag = flag == 70 || flag == 65

-- what is half received after one more part
abbrev pub half_after : Option Half → ℕ → ℕ → List ℕ → Option Half
half_after half flag id bytes = if ends_message flag then None else Some (with_part half id bytes)

abbrev pub body_of : Option Half → List ℕ
body_of None = []
body_of (Some half) = half.body

abbrev pub parts_of : Option Half → ℕ
parts_of None = 0
parts_of (Some half) = half.parts

abbrev pub id_of : Option Half → Option ℕ
id_of None = None
id_of (Some half) = Some half.id

abbrev pub may_have_id : Option Half → ℕ → Bool
may_have_id None id = true
may_have_id (Some half) id = half.id == id

-- ---- rows

-- another request id than that of the half received message
abbrev pub other_request_id : Option Half → ℕ → Row
other_request_id half id = (not (may_have_id half id), 0x807E0000)

-- with this part more parts, or more bytes, than the receiver takes; an abort is not counted
abbrev pub message_too_large : ℕ → ℕ → Option Half → ℕ → List ℕ → Row
message_too_large max_message max_chunks half flag bytes =
    (not (flag == 65) && (nat_lt max_chunks (parts_of half + 1) || nat_lt max_message (length (body_of half) + length bytes)), 0x80800000)

-- an abort without the body of one
abbrev pub abort_malformed : ℕ → List ℕ → Row
abort_malformed flag bytes = (flag == 65 && is_none (abort_of bytes), 0x80070000)

abbrev pub part_rows : ℕ → ℕ → Option Half → ℕ → ℕ → List ℕ → List Row
part_rows max_message max_chunks half flag id bytes =
    other_request_id half id
    ∷ message_too_large max_message max_chunks half flag bytes
    ∷ abort_malformed flag bytes
    ∷ []
