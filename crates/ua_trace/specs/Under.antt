-- Lines of an answer, which stand under the line of its message.
use Rattle.std.specs.Prelude.{◌≡◌, ◌<◌, ◌==◌, ℕ, List, [], ◌++◌, codes, false, length, slice_index}

-- bytes of which none ends a line
abbrev pub IsLine : List ℕ → Type 0
IsLine line = (k : ℕ) → k < length line → (slice_index line k == 10) ≡ false

-- each line begins with four blanks
pub data AreUnder : List ℕ → Type 0 where
  none : AreUnder []
  more : (lines line : List ℕ) → AreUnder lines → IsLine line → AreUnder (lines ++ (codes "    " ++ line ++ codes "\n"))

-- what stood there stands there, and lines of an answer behind it
abbrev pub AddsUnder : List ℕ → List ℕ → Type 0
AddsUnder old new = (answer : List ℕ) × AreUnder answer × (new ≡ old ++ answer)
