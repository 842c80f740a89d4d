-- A text to which lines are appended.
use Rattle.std.specs.Prelude.{◌≡◌, ℕ, List, ◌++◌}

-- all that stood there stands there, and what came stands behind it
abbrev pub Appends : List ℕ → List ℕ → Type 0
Appends old new = (more : List ℕ) × (new ≡ old ++ more)
