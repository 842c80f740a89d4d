-- What an assembly holds.
use Rattle.std.specs.Prelude.{◌≡◌, ℕ, ◌≤◌, Bool, List, [], length, Option, Some, None}
use Rattle.ua_chunk.specs.Half.{Half}

-- its limits, the message so far, and whether the last part of it came
pub record Gathered : Type 0 where
  pub max_message : ℕ
  pub max_chunks : ℕ
  pub half : Option Half
  pub whole : Bool

abbrev pub half_by : Option ℕ → ℕ → List ℕ → Option Half
half_by None parts body = None
half_by (Some id) parts body = Some (record { id = id; body = body; parts = parts })

-- nothing is kept of no message
abbrev pub IsKept : Option ℕ → ℕ → List ℕ → Type 0
IsKept None parts body = (parts ≡ 0) × (body ≡ [])
IsKept (Some id) parts body = Unit {0}

-- within the limits, with room for the longest message, and with no other part, as `alone` says
pub record IsGathered (max_message max_chunks : ℕ) (id : Option ℕ) (parts : ℕ) (body : List ℕ) (reserved : ℕ) (alone : Type 0) : Type 0 where
  pub room : max_message ≤ reserved
  pub bytes : length body ≤ max_message
  pub count : parts ≤ max_chunks
  pub kept : IsKept id parts body
  pub all : alone
