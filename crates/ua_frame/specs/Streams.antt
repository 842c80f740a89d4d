-- A stream of bytes that comes in pieces, each at its moment, and the frames in it. OPC 10000-6, 7.1.2.2.
use Rattle.std.specs.Prelude.{◌≡◌, ℕ, zero, suc, ◌≤◌, ℤ, pos, negsuc, max, Bool, cond, ◌&&◌, nat_le, List, [], ◌∷◌, ◌++◌, map, length, take, drop}
use Rattle.std.specs.Borrow.{Bor}
use Rattle.std.specs.List.{flat_map, AllByRecursion}
use Rattle.std.specs.Int.{w32, from_le_bytes}

-- ---- moments

-- a piece as it came: its moment, which is never before 0, and its bytes
pub record Piece : Type 0 where
  pub moment : ℕ
  pub bytes : List ℕ

pub record TimedByte : Type 0 where
  pub byte : ℕ
  pub moment : ℕ

abbrev pub at : ℕ → ℕ → TimedByte
at moment byte = record { byte = byte; moment = moment }

-- each byte has the greatest of `since`, its piece's moment and the moments of the pieces before it
abbrev pub timed_since : ℕ → List Piece → List TimedByte
timed_since since [] = []
timed_since since (p ∷ ps) = map (at (max since p.moment)) p.bytes ++ timed_since (max since p.moment) ps

abbrev pub timed : List Piece → List TimedByte
timed ps = timed_since 0 ps

-- the greatest moment so far, empty pieces included
abbrev pub latest_since : ℕ → List Piece → ℕ
latest_since since [] = since
latest_since since (p ∷ ps) = latest_since (max since p.moment) ps

abbrev pub latest : List Piece → ℕ
latest ps = latest_since 0 ps

-- A clock's moment before 0 counts as 0.
abbrev pub moment_of : ℤ → ℕ
moment_of (pos n) = n
moment_of (negsuc n) = 0

-- the pieces that a caller lends
abbrev pub pieces_of : List (ℤ × Bor (List ℕ)) → List Piece
pieces_of entries = map (λ e. record { moment = moment_of e.0; bytes = e.1.now }) entries

-- the bytes alone
abbrev pub plain : List TimedByte → List ℕ
plain s = map (λ b. b.byte) s

-- ---- frames

-- the size of the whole frame, which the header says in bytes 4 to 7, least first
unfoldable pub size_of : List ℕ → ℕ
size_of bytes = from_le_bytes w32 (take 4 (drop 4 bytes))

-- A frame has at least the 8 bytes of its header, and as many as its size field says.
pub record IsFrame (bytes : List ℕ) : Type 0 where
  pub header : 8 ≤ length bytes
  pub whole : size_of bytes ≡ length bytes

-- The stream is these frames joined, and then a rest that no frame begins.
pub record Framed (s : List TimedByte) (fs : List (List TimedByte)) (rest : List TimedByte) : Type 0 where
  pub whole : s ≡ flat_map (λ f. f) fs ++ rest
  pub each : AllByRecursion (λ f. IsFrame (plain f)) fs
  pub partial : (n : ℕ) → n ≤ length rest → IsFrame (plain (take n rest)) → ⊥

-- whether the stream begins with a frame
abbrev pub begins_frame : List TimedByte → Bool
begins_frame s = nat_le 8 (size_of (plain s)) && nat_le (size_of (plain s)) (length s)

-- as many frames as there are, of at most n
unfoldable pub cuts_within : ℕ → List TimedByte → List (List TimedByte)
cuts_within zero s = []
cuts_within (suc n) s = cond (begins_frame s) (take (size_of (plain s)) s ∷ cuts_within n (drop (size_of (plain s)) s)) []

unfoldable pub rest_within : ℕ → List TimedByte → List TimedByte
rest_within zero s = s
rest_within (suc n) s = cond (begins_frame s) (rest_within n (drop (size_of (plain s)) s)) s

-- the frames of a stream, and what is left of it: `Framed` holds of these, and of no others
abbrev pub cuts_of : List TimedByte → List (List TimedByte)
cuts_of s = cuts_within (length s) s

abbrev pub rest_of : List TimedByte → List TimedByte
rest_of s = rest_within (length s) s
