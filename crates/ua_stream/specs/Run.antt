-- Bytes of a stream in order.
use Rattle.std.specs.Prelude.{◌≡◌, ℕ, ◌+◌, ◌<◌, ◌≤◌, ◌^◌, List, [], ◌∷◌, ◌++◌, length, slice_get, None}
use Rattle.ua_stream.specs.Piece.{Piece, byte_at}

-- These are the bytes of the parts from a place on, at least one.
pub record IsRun (parts : List Piece) (next : ℕ) (run : List ℕ) : Type 0 where
  pub some : 0 < length run
  pub within : next + length run ≤ 2 ^ 62
  pub each : (k : ℕ) → k < length run → byte_at parts (next + k) ≡ slice_get run k

-- The bytes of the parts from one place up to another come behind those that are ready.
pub record Gives (parts : List Piece) (from to : ℕ) (old new : List ℕ) : Type 0 where
  pub more : List ℕ
  pub all : new ≡ old ++ more
  pub long : from + length more ≡ to
  pub each : (k : ℕ) → k < length more → byte_at parts (from + k) ≡ slice_get more k

-- One part more: the bytes that are in order now come behind those that are ready, up to a place that no part has, and what is kept has the same
-- byte from there on as all parts.
pub record IsAdded (parts : List Piece) (next : ℕ) (s : Piece) (to : ℕ) (old new : List ℕ) (left : List Piece) : Type 0 where
  pub given : Gives (parts ++ s ∷ []) next to old new
  pub gap : byte_at (parts ++ s ∷ []) to ≡ None
  pub rest : (k : ℕ) → to ≤ k → byte_at left k ≡ byte_at (parts ++ s ∷ []) k

-- These are the bytes of a stream of which these parts came: those of the parts in order from the first place on, each once, up to the first
-- that no part has. What is kept has the bytes from there on.
pub record IsStream (past : List Piece) (bytes : List ℕ) (next : ℕ) (kept : List Piece) : Type 0 where
  pub long : length bytes ≡ next
  pub each : (k : ℕ) → k < length bytes → byte_at past k ≡ slice_get bytes k
  pub gap : byte_at past next ≡ None
  pub rest : (k : ℕ) → next ≤ k → byte_at kept k ≡ byte_at past k
