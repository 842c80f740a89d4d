-- Bytes of ASCII.
use Rattle.std.specs.Prelude.{ℕ, ◌≤◌, ◌<◌, List, slice_index}

-- those from a place on and before another
abbrev pub AreAscii : List ℕ → ℕ → ℕ → Type 0
AreAscii bytes from to = (i : ℕ) → from ≤ i → i < to → slice_index bytes i < 128
