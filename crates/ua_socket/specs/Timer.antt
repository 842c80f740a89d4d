-- A time that is over.
use Rattle.std.specs.Prelude.{Bool, true, false, Option, Some, None}

-- there is none
abbrev pub is_none : {A : Type 0} → Option A → Bool
is_none None = true
is_none (Some a) = false
