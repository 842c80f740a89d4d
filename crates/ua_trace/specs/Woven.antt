-- Lines of raw bytes, with all that servers answered in them.
use Rattle.std.specs.Prelude.{◌≡◌, ℕ, List, [], ◌∷◌, ◌++◌}
use Rattle.ua_walk.specs.Told.{Told, frame_told, message_told, long_told, bad_told, rest_told}
use Rattle.ua_print.specs.Capture.{line_of}
use Rattle.ua_trace.specs.Under.{AreUnder}

-- lines of an answer stand under the line of a message, and nothing under any other
abbrev pub StandsUnder : Told → List ℕ → Type 0
StandsUnder (frame_told offset size content) answer = answer ≡ []
StandsUnder (message_told request_id body) answer = AreUnder answer
StandsUnder (long_told offset) answer = answer ≡ []
StandsUnder (bad_told offset status) answer = answer ≡ []
StandsUnder (rest_told offset left) answer = answer ≡ []

-- the usual line of each, and what stands under it
pub data Woven : List Told → List ℕ → Type 0 where
  none : Woven [] []
  line : (told : List Told) (text : List ℕ) (t : Told) (answer : List ℕ) → Woven told text → StandsUnder t answer → Woven (told ++ (t ∷ [])) (text ++ (line_of t ++ answer))
