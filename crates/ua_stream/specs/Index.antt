-- By what the last connection between two ends is found.
use Rattle.std.specs.Prelude.{◌≡◌, ℕ, ◌⊎◌, List, length, slice_get, Option, Some, None}
use Rattle.std.specs.BTreeMap.{get}
use Rattle.ua_capture.specs.declared.packet.Endpoint.{Endpoint}
use Rattle.ua_stream.specs.declared.connection.Connection.{Connection}
use Rattle.ua_stream.specs.declared.connection.Way.{Way}
use Rattle.ua_stream.specs.declared.index.Index.{Index}
use Rattle.ua_stream.specs.Connection.{KeepsEnds}
use Rattle.ua_stream.specs.Ends.{ends_cmp, ends_of}
use Rattle.ua_stream.specs.Streams.{HasNone, IsLast}

-- the number that is kept for two ends, in whichever order they are named
abbrev pub number_in : Index → Endpoint → Endpoint → Option ℕ
number_in index one other = get ends_cmp index.numbers (ends_of one other)

-- two ends are these in one order or the other
abbrev pub AreEnds : Endpoint → Endpoint → Endpoint → Endpoint → Type 0
AreEnds a b one other = ((a ≡ one) × (b ≡ other)) ⊎ ((a ≡ other) × (b ≡ one))

-- the number is kept for these two ends, and for any others what was
pub record IsKept (old : Index) (one other : Endpoint) (n : ℕ) (new : Index) : Type 0 where
  pub here : (a b : Endpoint) → AreEnds one other a b → number_in new a b ≡ Some n
  pub elsewhere : (a b : Endpoint) → (AreEnds one other a b → ⊥) → number_in new a b ≡ number_in old a b

-- what is kept stays
abbrev pub IsUnchanged : Index → Index → Type 0
IsUnchanged old new = (a b : Endpoint) → number_in new a b ≡ number_in old a b

-- no number is kept
abbrev pub IsEmpty : Index → Type 0
IsEmpty index = (a b : Endpoint) → number_in index a b ≡ None

-- a number is that of the last connection between two ends, and none says that there is none
abbrev pub HasLast : List Connection → Endpoint → Endpoint → Option ℕ → Type 0
HasLast cs from to None = HasNone cs from to 0
HasLast cs from to (Some n) = (way : Way) × IsLast cs from to n way

-- so it is for each two ends
abbrev pub IsIndex : List Connection → Index → Type 0
IsIndex cs index = (from to : Endpoint) → HasLast cs from to (number_in index from to)

-- the connections have the ends that they had
pub record KeepAllEnds (old new : List Connection) : Type 0 where
  pub many : length new ≡ length old
  pub each : (k : ℕ) (c : Connection) → slice_get new k ≡ Some c → (was : Connection) × (slice_get old k ≡ Some was) × KeepsEnds was c
