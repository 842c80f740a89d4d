-- A byte that does not stand for itself between double quotes.
use Rattle.std.specs.Prelude.{◌≡◌, ℕ, ◌∷◌, List}
use Rattle.ua_print.specs.Printed.{escaped, two_digits}

-- a backslash, an `x` and its two digits
abbrev pub escape : ℕ → List ℕ
escape byte = 92 ∷ 120 ∷ two_digits byte

abbrev pub IsEscaped : ℕ → Type 0
IsEscaped byte = escaped byte ≡ escape byte
