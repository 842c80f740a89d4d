-- Input that came and is not used yet.
use Rattle.std.specs.Prelude.{◌≡◌, ℕ, ◌≤◌, ◌<◌, List, [], length, None}
use Rattle.ua_frame.specs.Sizes.{least_buffer, most_buffer}
use Rattle.ua_frame.specs.Streams.{size_of}
use Rattle.ua_frame.specs.HeaderRows.{header_fault}

-- the bytes, and for how many there is room
pub record Buffered : Type 0 where
  pub bytes : List ℕ
  pub capacity : ℕ

abbrev pub empty_buffer : ℕ → Buffered
empty_buffer capacity = record { bytes = []; capacity = capacity }

-- The header at the front is in order under the limit, and its frame has so many bytes.
pub record IsJudged (awaited limit : ℕ) (bytes : List ℕ) : Type 0 where
  pub header : 8 ≤ length bytes
  pub passed : header_fault limit bytes ≡ None
  pub size : size_of bytes ≡ awaited

-- or nothing is known of it, and the number is 0
abbrev pub IsAwaited : ℕ → ℕ → List ℕ → Type 0
IsAwaited awaited limit bytes = 0 < awaited → IsJudged awaited limit bytes

-- The bytes begin at `start`, of `filled` bytes, within the room that was reserved. It is enough for the header of a frame. What is
-- known of the frame at the front is so, as `known` says, and there is no other part, as `alone` says.
pub record IsRoom (start filled capacity reserved : ℕ) (known alone : Type 0) : Type 0 where
  pub begins : start ≤ filled
  pub fits : filled ≤ capacity
  pub there : capacity ≤ reserved
  pub least : least_buffer ≤ capacity
  pub most : capacity ≤ most_buffer
  pub awaited : known
  pub all : alone
