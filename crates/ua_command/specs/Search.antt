-- Bytes that a line keeps.
use Rattle.std.specs.Prelude.{◌≡◌, ℕ, ◌≤◌, ◌<◌, true, List, slice_index}
use Rattle.ua_command.specs.Script.{is_kept}

-- those from a place on and before another
abbrev pub AreKept : List ℕ → ℕ → ℕ → Type 0
AreKept line from to = (k : ℕ) → from ≤ k → k < to → is_kept (slice_index line k) ≡ true
