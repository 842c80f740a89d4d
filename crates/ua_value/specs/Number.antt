-- Integers, the low byte first (OPC 10000-6, 5.2.2.2), and truth values (5.2.2.1).
use Rattle.std.specs.Prelude.{◌≡◌, ℕ, ◌<◌, ◌≤◌, ◌^◌, ◌==◌, List, [], ◌∷◌, Bool, true, false, ℤ, length, take, drop, Option, Some, None, nat_lt, if◌then◌else◌, not}
use Rattle.std.specs.Int.{Width, byte_len, to_le_bytes, from_le_bytes, cast_unsigned, cast_signed}
use Rattle.std.specs.Int.RustNames.{FitsSigned}
use Rattle.ua_value.specs.Format.{Format}

-- the number of a width that the bytes begin with
abbrev pub number_at : Width → List ℕ → Option (ℕ × List ℕ)
number_at w bytes = if nat_lt (length bytes) (byte_len w) then None else Some (from_le_bytes w (take (byte_len w) bytes), drop (byte_len w) bytes)

abbrev pub integer_at : Width → List ℕ → Option (ℤ × List ℕ)
integer_at w bytes = if nat_lt (length bytes) (byte_len w) then None else Some (cast_signed w (from_le_bytes w (take (byte_len w) bytes)), drop (byte_len w) bytes)

unfoldable pub unsigned : Width → Format ℕ
unsigned w = record {
  grammar = record { spells = λ n b. (n < 256 ^ byte_len w) × (b ≡ to_le_bytes w n); front = number_at w };
  canon = to_le_bytes w;
  IsValue = λ n. n < 256 ^ byte_len w;
}

-- in two's complement
unfoldable pub signed : Width → Format ℤ
signed w = record {
  grammar = record { spells = λ z b. FitsSigned w z × (b ≡ to_le_bytes w (cast_unsigned w z)); front = integer_at w };
  canon = λ z. to_le_bytes w (cast_unsigned w z);
  IsValue = FitsSigned w;
}

-- 0 is false, and any other byte is true
abbrev pub SpellsBool : Bool → List ℕ → Type 0
SpellsBool false b = b ≡ 0 ∷ []
SpellsBool true b = (n : ℕ) × (1 ≤ n) × (n < 256) × (b ≡ n ∷ [])

abbrev pub canon_bool : Bool → List ℕ
canon_bool false = 0 ∷ []
canon_bool true = 1 ∷ []

abbrev pub bool_at : List ℕ → Option (Bool × List ℕ)
bool_at [] = None
bool_at (n ∷ rest) = Some (not (n == 0), rest)

unfoldable pub boolean : Format Bool
boolean = record { grammar = record { spells = SpellsBool; front = bool_at }; canon = canon_bool; IsValue = λ _. Unit {0} }
