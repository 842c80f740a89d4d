-- What a text of differences is, behind what it was.
use Rattle.std.specs.Prelude.{◌≡◌, ◌<◌, ℕ, Bool, true, false, List, length}

-- a text stays as it is where two values are the same, and is longer where they are not
abbrev pub Says : Bool → List ℕ → List ℕ → Type 0
Says true old new = new ≡ old
Says false old new = length old < length new
