-- Bytes under a test are bytes that pass it.
use Rattle.std.proofs.Common.{◌≡◌, ℕ, Bool, true, false, ltb, eqb, List, length, take, drop, Option, Some, None, refl}
use Rattle.std.specs.Prelude.{if◌then◌else◌}
use Rattle.std.specs.Str.{is_utf8}
use Rattle.ua_value.specs.Format.{◌>>=◌}
use Rattle.ua_value.specs.Number.{unsigned}
use Rattle.std.specs.Int.{w32}
use Rattle.ua_value.specs.Text.{longest, counted_at, bytes_of, any_bytes, string, byte_string}

-- the test on the bytes that were found
abbrev pub tested : (List ℕ → Bool) → Option (List ℕ) × List ℕ → Option (Option (List ℕ) × List ℕ)
tested test (None, rest) = Some (None, rest)
tested test (Some text, rest) = if test text then Some (Some text, rest) else None

chosen_tested : (test : List ℕ → Bool) (none long short : Bool) (text rest whole : List ℕ) →
    (if none then Some (None, whole) else (if long then None else (if short then None else (if test text then Some (Some text, rest) else None))))
    ≡ ((if none then Some (None, whole) else (if long then None else (if short then None else (if any_bytes text then Some (Some text, rest) else None)))) >>= tested test)
chosen_tested test true long short text rest whole = refl
chosen_tested test false true short text rest whole = refl
chosen_tested test false false true text rest whole = refl
chosen_tested test false false false text rest whole = refl

counted_tested : (test : List ℕ → Bool) (n : Option (ℕ × List ℕ)) → (n >>= λ c. counted_at test c.0 c.1) ≡ ((n >>= λ c. counted_at any_bytes c.0 c.1) >>= tested test)
counted_tested test None = refl
counted_tested test (Some c) = chosen_tested test (eqb c.0 0xffff_ffff) (ltb longest c.0) (ltb (length c.1) c.0) (take c.0 c.1) (drop c.0 c.1) c.1

pub utf8_tested : (bytes : List ℕ) → string.grammar.front bytes ≡ (byte_string.grammar.front bytes >>= tested is_utf8)
unfolding bytes_of
utf8_tested bytes = counted_tested is_utf8 ((unsigned w32).grammar.front bytes)
