-- Moments: what a clock answered, and those by a clock that counts from 1970.
use Rattle.std.specs.Prelude.{◌≡◌, ℕ, ◌+◌, ◌/◌, ◌^◌, ℤ, pos, nat_lt, if◌then◌else◌, List, ◌++◌, ⊤, Option, Some, None}

-- These came, in this order, and no others. What came may be known, until no record of it is kept any more.
abbrev pub Noted : {A : Type 0} → Option (List A) → Option (List A) → List A → Type 0
Noted None None came = ⊤
Noted None (Some new) came = ⊥
Noted (Some old) None came = ⊤
Noted (Some old) (Some new) came = new ≡ old ++ came

-- The clock answered these moments, in this order, and was asked no more.
abbrev pub Answered : Option (List ℤ) → Option (List ℤ) → List ℤ → Type 0
Answered old new moments = Noted old new moments

-- ticks of 100 ns since 1601, or 0 where there are too many for a moment
abbrev pub moment_after : ℕ → ℤ
moment_after nanoseconds = if nat_lt (nanoseconds / 100 + 116444736000000000) (2 ^ 63) then pos (nanoseconds / 100 + 116444736000000000) else pos 0
