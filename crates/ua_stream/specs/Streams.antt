-- The connections of a capture, in the order in which they began.
use Rattle.std.specs.Prelude.{ℕ, true, false, ◌+◌, ◌<◌, ◌≤◌, List, length, slice_get, slice_set, [], ◌∷◌, ◌++◌, ◌⊎◌, Some, ◌≡◌}
use Rattle.ua_capture.specs.declared.packet.Endpoint.{Endpoint}
use Rattle.ua_stream.specs.declared.connection.Connection.{Connection}
use Rattle.ua_stream.specs.declared.connection.Way.{Way}
use Rattle.ua_stream.specs.declared.connection.Way.TheVariants.{Forth}
use Rattle.ua_capture.specs.Segment.{Parts}
use Rattle.ua_stream.specs.Connection.{IsWay, KeepsEnds, Takes, no_bytes, side_of, opposite, begins_new}

-- none from an index on has these ends
abbrev pub HasNone : List Connection → Endpoint → Endpoint → ℕ → Type 0
HasNone cs from to first = (k : ℕ) (c : Connection) → first ≤ k → slice_get cs k ≡ Some c → (way : Way) → IsWay c way from to → ⊥

-- the connection with this number has these ends, what goes from the one to the other goes this way, and none behind it has them
pub record IsLast (cs : List Connection) (from to : Endpoint) (n : ℕ) (way : Way) : Type 0 where
  pub there : n < length cs
  pub ends : (c : Connection) → slice_get cs n ≡ Some c → IsWay c way from to
  pub last : HasNone cs from to (n + 1)

-- the connection with this number takes the segment, and the others stay
pub record IsPutAt (old : List Connection) (s : Parts) (n : ℕ) (way : Way) (new : List Connection) : Type 0 where
  pub was : Connection
  pub now : Connection
  pub before : slice_get old n ≡ Some was
  pub after : new ≡ slice_set old n now
  pub takes : Takes was s way now

-- the segment is one more of this connection: the last of its ends, which it does not open anew
pub record GoesOn (cs : List Connection) (s : Parts) (n : ℕ) (way : Way) : Type 0 where
  pub last : IsLast cs s.from s.to n way
  pub same : (c : Connection) → slice_get cs n ≡ Some c → begins_new c way s ≡ false

-- the last connection of its ends is one that it opens anew
pub record OpensAnew (cs : List Connection) (s : Parts) : Type 0 where
  pub number : ℕ
  pub way : Way
  pub known : Connection
  pub last : IsLast cs s.from s.to number way
  pub there : slice_get cs number ≡ Some known
  pub opens : begins_new known way s ≡ true

-- there is none of its ends, or only such ones
abbrev pub Opens : List Connection → Parts → Type 0
Opens cs s = HasNone cs s.from s.to 0 ⊎ OpensAnew cs s

-- one connection more begins with the segment
pub record IsBegun (old : List Connection) (s : Parts) (n : ℕ) (way : Way) (new : List Connection) : Type 0 where
  pub opens : Opens old s
  pub number : n ≡ length old
  pub forth : way ≡ Forth
  pub put : IsPutAt (old ++ no_bytes s ∷ []) s n way new

pub record IsContinued (old : List Connection) (s : Parts) (n : ℕ) (way : Way) (new : List Connection) : Type 0 where
  pub goes_on : GoesOn old s n way
  pub put : IsPutAt old s n way new

-- It is one of those that there are, or one more.
abbrev pub IsPut : List Connection → Parts → ℕ → Way → List Connection → Type 0
IsPut old s n way new = IsContinued old s n way new ⊎ IsBegun old s n way new

-- the bytes of a way of the connection with this number are let go of, and all else stays
pub record IsClearedAt (old : List Connection) (n : ℕ) (way : Way) (new : List Connection) : Type 0 where
  pub was : Connection
  pub now : Connection
  pub before : slice_get old n ≡ Some was
  pub after : new ≡ slice_set old n now
  pub cleared : side_of now way ≡ record (side_of was way) { ready = [] }
  pub untouched : side_of now (opposite way) ≡ side_of was (opposite way)
  pub ends : KeepsEnds was now

-- no more bytes are taken of a way of the connection with this number, and all else stays
pub record IsGivenUpAt (old : List Connection) (n : ℕ) (way : Way) (new : List Connection) : Type 0 where
  pub was : Connection
  pub now : Connection
  pub before : slice_get old n ≡ Some was
  pub after : new ≡ slice_set old n now
  pub given_up : side_of now way ≡ record (side_of was way) { ready = []; parts = []; stopped = true }
  pub untouched : side_of now (opposite way) ≡ side_of was (opposite way)
  pub ends : KeepsEnds was now

-- as many connections are followed as may be, and the segment would begin one more
pub record IsFull (old : List Connection) (s : Parts) (new : List Connection) : Type 0 where
  pub opens : Opens old s
  pub many : 16384 ≤ length old
  pub unchanged : new ≡ old
