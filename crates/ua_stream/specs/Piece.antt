-- Parts of a stream, and its byte at each place.
use Rattle.std.specs.Prelude.{ℕ, ◌+◌, ◌-◌, ◌||◌, min, max, not, false, nat_eq, ◌^◌, nat_lt, nat_le, Bool, fold, List, [], ◌∷◌, length, slice_get, slice_range, Option, None, if◌then◌else◌}
use Rattle.std.specs.Option.{option_or}
use Rattle.std.specs.List.{list_any}
use lib.Pointwise.{pointwise}

-- bytes from a place on
pub record Piece : Type 0 where
  pub at : ℕ
  pub bytes : List ℕ

abbrev pub part_of : ℕ → List ℕ → Piece
part_of at bytes = record { at = at; bytes = bytes }

-- the place behind the last byte
abbrev pub end_of : Piece → ℕ
end_of p = p.at + length p.bytes

-- the byte that a part has at a place
unfoldable pub byte_in : Piece → ℕ → Option ℕ
byte_in p k = if nat_lt k p.at then None else slice_get p.bytes (k - p.at)

-- The byte at a place is that of the first part that has one there, in the order in which they came: what comes again changes nothing.
unfoldable pub byte_at : List Piece → ℕ → Option ℕ
byte_at [] k = None
byte_at (p ∷ parts) k = option_or (byte_in p k) (byte_at parts k)

-- the bytes of all parts, as a number of 64 bits counts them
abbrev pub held_of : List Piece → ℕ
held_of parts = fold (λ sum p. min (sum + length p.bytes) (2 ^ 64 - 1)) 0 parts

-- A direction keeps at most 16384 parts and 16 MiB out of order.
abbrev pub is_full : List Piece → ℕ → Bool
is_full parts more = nat_le 16384 (length parts) || nat_lt 16777216 more || nat_lt (16777216 - more) (held_of parts)

-- No room for so many bytes from a place on: the greatest place is 2 ^ 62.
abbrev pub has_no_room : List Piece → ℕ → ℕ → Bool
has_no_room parts at more = nat_lt (2 ^ 62) (at + more) || is_full parts more

-- whether two parts have different bytes at a place that both have
abbrev pub from_of : Piece → Piece → ℕ
from_of p q = max p.at q.at

abbrev pub to_of : Piece → Piece → ℕ
to_of p q = min (end_of p) (end_of q)

abbrev pub differs : Piece → Piece → Bool
differs p q =
    if nat_le (to_of p q) (from_of p q) then false else
    not (pointwise nat_eq (slice_range p.bytes (from_of p q - p.at) (to_of p q - p.at)) (slice_range q.bytes (from_of p q - q.at) (to_of p q - q.at)))

abbrev pub any_differs : List Piece → Piece → Bool
any_differs parts q = list_any (λ p. differs p q) parts
