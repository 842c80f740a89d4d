-- A message that is cut into chunks while it is put, piece by piece. OPC 10000-6, 6.7.2.
use Rattle.std.specs.Prelude.{◌≡◌, ℕ, zero, suc, ◌+◌, ◌-◌, ◌*◌, ◌/◌, ◌<◌, ◌≤◌, min, List, [], ◌∷◌, ◌++◌, length, take, drop, if◌then◌else◌, nat_lt}
use Rattle.ua_frame.specs.declared.kind.Kind.TheVariants.{Message}
use Rattle.ua_chunk.specs.Numbers.{number_after}
use Rattle.ua_chunk.specs.NumberLaws.{IsNumber}
use Rattle.ua_chunk.specs.Cut.{part_count, fill}
use Rattle.ua_chunk.specs.Written.{chunk_frame, message_frames}

-- what frames carry together: so many with k bytes of a message each, and behind them one with all that is left
abbrev pub carried : ℕ → ℕ → List ℕ → List ℕ
carried zero k frames = drop 24 frames
carried (suc full) k frames = take k (drop 24 frames) ++ carried full k (drop (24 + k) frames)

-- The frames of what is left of a message: none where nothing is left. Channel, token, number, request id, bytes a part.
abbrev pub frames_behind : ℕ → ℕ → ℕ → ℕ → ℕ → List ℕ → List ℕ
frames_behind channel token number id k [] = []
frames_behind channel token number id k (x ∷ rest) = message_frames channel token number 0 (fill id (x ∷ rest) k)

-- how many parts hold what is left
abbrev pub parts_left : ℕ → ℕ → ℕ
parts_left left k = (left + k - 1) / k

-- Frames of a message of total bytes, of which those that are left are still to be put: so many chunks are full, and
-- the one behind them has room for some more. Whatever is put yet, they become the frames of the whole message.
pub record IsCut (channel token id k total first number left room full : ℕ) (frames : List ℕ) : Type 0 where
  pub some : 1 ≤ k
  pub range : IsNumber number
  pub enough : room ≤ left
  pub owed : left ≡ total - length (carried full k frames)
  pub least : full * (24 + k) + 24 ≤ length frames
  pub size : room < left → length frames + room ≡ full * (24 + k) + 24 + k
  pub becomes : (rest : List ℕ) → length (carried full k frames ++ rest) ≡ total
      → frames ++ (take room rest ++ frames_behind channel token number id k (drop room rest)) ≡ message_frames channel token first 0 (fill id (carried full k frames ++ rest) k)
  pub counted : number_after number (parts_left (left - room) k) ≡ number_after first (part_count total k)

-- The header of a chunk for the next of a message's bytes: of k, or of all that are left where these are no more.
pub record IsHeader (channel token id k number left : ℕ) (header : List ℕ) : Type 0 where
  pub size : length header ≡ 24
  pub before : (body : List ℕ) → length body ≡ min left k → header ++ body ≡ chunk_frame Message (if nat_lt k left then 67 else 70) channel token number id body

-- what a sink shows that cuts: which message it cuts, how and behind what, and what was put of it
abbrev pub shown : ℕ → ℕ → ℕ → ℕ → ℕ → ℕ → ℕ → ℕ → List ℕ → List ℕ
shown channel token id k total first start full out = channel ∷ token ∷ id ∷ k ∷ total ∷ first ∷ start ∷ (take start out ++ carried full k (drop start out))
