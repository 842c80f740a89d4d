-- The frame that has begun and is not whole: what is kept of it, and how many bytes of it are to come.
use Rattle.std.specs.Prelude.{◌≡◌, ℕ, ◌-◌, ◌<◌, ◌≤◌, min, max, nat_lt, if◌then◌else◌, List, ◌++◌, take, length}
use Rattle.ua_frame.specs.Streams.{size_of}
use Rattle.ua_conn.specs.server.Feeding.{BeginsNoFrame}

-- Of the bytes that came of it, the first `got` of `header` are those of its header; once that is whole, `missing` more make the frame
-- whole.
pub record IsFront (header : List ℕ) (got missing : ℕ) (rest : List ℕ) : Type 0 where
  pub there : got ≡ min 8 (length rest)
  pub start : take got header ≡ take 8 rest
  pub size : 8 ≤ length rest → missing ≡ size_of rest - length rest
  pub partial : BeginsNoFrame rest

-- how many bytes come up to the end of the header, or else of the frame: one at least
abbrev pub wanted : ℕ → ℕ → ℕ
wanted got missing = if nat_lt got 8 then 8 - got else max missing 1

-- Behind what is left of the input, no byte of the piece but the last makes a frame whole.
abbrev pub OneAtMost : List ℕ → List ℕ → Type 0
OneAtMost rest piece = (m : ℕ) → m < length piece → BeginsNoFrame (rest ++ take m piece)
