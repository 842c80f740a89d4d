-- The lines of the raw bytes of one direction, and the exit status.
use Rattle.std.specs.Prelude.{ℕ, List, flat_map, if◌then◌else◌}
use Rattle.ua_walk.specs.Told.{Told, frame_told, message_told, long_told, bad_told, rest_told, is_whole}
use Rattle.ua_walk.specs.Walk.{story}
use Rattle.ua_print.specs.FrameLine.{frame_line, message_line, long_line, bad_line, rest_line}

-- what is printed, and the exit status
pub record Shown : Type 0 where
  pub text : List ℕ
  pub status : ℕ

-- the line of what is told
abbrev pub line_of : Told → List ℕ
line_of (frame_told offset size content) = frame_line offset size content
line_of (message_told request_id body) = message_line request_id body
line_of (long_told offset) = long_line offset
line_of (bad_told offset status) = bad_line offset status
line_of (rest_told offset left) = rest_line offset left

abbrev pub lines : List Told → List ℕ
lines told = flat_map line_of told

-- what is shown of a whole capture
abbrev pub shown : List ℕ → Shown
shown bytes = record { text = lines (story bytes); status = if is_whole (story bytes) then 0 else 1 }
