-- The value of a digit as a number that tells what is no digit.
use Rattle.std.specs.Prelude.{ℕ}
use Rattle.std.specs.Option.{unwrap_or}
use Rattle.hex.specs.Hex.{hex_digit_value}

-- the value of the digit, and 128 for what is none
abbrev pub value_or_128 : ℕ → ℕ
value_or_128 c = unwrap_or (hex_digit_value c) 128
