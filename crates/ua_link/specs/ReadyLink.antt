-- What a call of a link that does not wait does to the bytes that it has still to give, and to those that it took.
use Rattle.std.specs.Prelude.{◌≡◌, ℕ, ◌<◌, ◌≤◌, List, take, length, Option, Some, None, Result, Ok, Err}
use Rattle.std.specs.Io.KnownBytes.{Appends, Consumes, Keeps, IsAtEnd}
use Rattle.ua_link.specs.Clock.{Noted}
use Rattle.ua_link.specs.declared.ready_link.Call.{Call}

-- the n bytes that came at `Ok(Some(n))`, where none came only at the end of the input; nothing else
abbrev pub ReadsNow : {E : Type 0} → Option (List ℕ) → Option (List ℕ) → Result (Option ℕ) E → List ℕ → Type 0
ReadsNow old new (Ok (Some n)) buf = (n ≤ length buf) × Consumes old new (take n buf) × (n ≡ 0 → 0 < length buf → IsAtEnd new)
ReadsNow old new (Ok None) buf = Keeps old new
ReadsNow old new (Err e) buf = Keeps old new

-- the n bytes that went out at `Ok(Some(n))`, one at least; nothing else
abbrev pub SendsNow : {E : Type 0} → Option (List ℕ) → Option (List ℕ) → Result (Option ℕ) E → List ℕ → Type 0
SendsNow old new (Ok (Some n)) bytes = (n ≤ length bytes) × (0 < n) × Appends old new (take n bytes)
SendsNow old new (Ok None) bytes = Keeps old new
SendsNow old new (Err e) bytes = Keeps old new

-- These calls were tried, in this order, and no others: each did something, could do nothing now, or failed.
abbrev pub Tries : Option (List Call) → Option (List Call) → List Call → Type 0
Tries old new calls = Noted old new calls
