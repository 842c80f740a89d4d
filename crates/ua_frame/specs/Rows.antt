-- A table of refusals: rows of a test and what it refuses with, mostly a status, of which the first that holds decides.
use Rattle.std.specs.Prelude.{ℕ, Bool, List, [], ◌∷◌, Option, Some, None, if◌then◌else◌}

abbrev pub Row : Type 0
Row = Bool × ℕ

abbrev pub first_row : {S : Type 0} → List (Bool × S) → Option S
first_row [] = None
first_row (row ∷ rows) = if row.0 then Some row.1 else first_row rows

-- what the one table says, or else the other
abbrev pub or_else : {S : Type 0} → Option S → Option S → Option S
or_else None second = second
or_else (Some fault) second = Some fault
