-- Texts (OPC 10000-6, 5.2.2.4), strings of bytes (5.2.2.7) and XML elements (5.2.2.8): a length in four bytes and the bytes, or -1 where there is none.
use Rattle.std.specs.Prelude.{◌≡◌, ℕ, ◌≤◌, ◌==◌, Bool, true, List, [], ◌∷◌, ◌++◌, length, take, drop, Option, Some, None, IsUtf8, if◌then◌else◌, nat_lt}
use Rattle.std.specs.Str.{is_utf8}
use Rattle.std.specs.Int.{w32, to_le_bytes}
use Rattle.ua_value.specs.Format.{◌>>=◌, IsBytes, Format}
use Rattle.ua_value.specs.Number.{unsigned}

abbrev pub null : List ℕ
null = 255 ∷ 255 ∷ 255 ∷ 255 ∷ []

-- the greatest length of a text, a byte string or an array
abbrev pub longest : ℕ
longest = 2147483647

abbrev pub canon_bytes : Option (List ℕ) → List ℕ
canon_bytes None = null
canon_bytes (Some text) = to_le_bytes w32 (length text) ++ text

abbrev pub AreBytesOf : (List ℕ → Type 0) → Option (List ℕ) → Type 0
AreBytesOf P None = Unit {0}
AreBytesOf P (Some text) = (length text ≤ longest) × P text

-- as many bytes as the number says, if they pass the test
abbrev pub counted_at : (List ℕ → Bool) → ℕ → List ℕ → Option (Option (List ℕ) × List ℕ)
counted_at test n bytes =
    if n == 0xffff_ffff then Some (None, bytes)
    else (if nat_lt longest n then None
    else (if nat_lt (length bytes) n then None
    else (if test (take n bytes) then Some (Some (take n bytes), drop n bytes) else None)))

abbrev pub bytes_at : (List ℕ → Bool) → List ℕ → Option (Option (List ℕ) × List ℕ)
bytes_at test bytes = (unsigned w32).grammar.front bytes >>= λ n. counted_at test n.0 n.1

-- bytes of which P holds, as the test finds, or none
unfoldable pub bytes_of : (List ℕ → Type 0) → (List ℕ → Bool) → Format (Option (List ℕ))
bytes_of P test = record {
  grammar = record { spells = λ v b. AreBytesOf P v × (b ≡ canon_bytes v); front = bytes_at test };
  canon = canon_bytes;
  IsValue = AreBytesOf P;
}

abbrev pub string : Format (Option (List ℕ))
string = bytes_of IsUtf8 is_utf8

abbrev pub xml_element : Format (Option (List ℕ))
xml_element = string

abbrev pub any_bytes : List ℕ → Bool
any_bytes bytes = true

abbrev pub byte_string : Format (Option (List ℕ))
byte_string = bytes_of IsBytes any_bytes
