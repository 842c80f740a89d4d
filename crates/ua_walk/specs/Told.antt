-- What a teller is told of the bytes of one direction.
use Rattle.std.specs.Prelude.{ℕ, Bool, true, false, List, [], ◌∷◌, ◌++◌}
use Rattle.ua_chunk.specs.declared.content.Content.{Content}

-- A frame of so many bytes at an offset, with its content; a whole message with its request id and its body; a frame with which a
-- message is too long; a status that refuses what should be a frame; so many bytes that are less than one.
pub data Told : Type 0 where
  frame_told : (offset size : ℕ) (content : Content) → Told
  message_told : (request_id : ℕ) (body : List ℕ) → Told
  long_told : (offset : ℕ) → Told
  bad_told : (offset status : ℕ) → Told
  rest_told : (offset left : ℕ) → Told

-- whether all of it is frames and messages
abbrev pub is_whole : List Told → Bool
is_whole [] = true
is_whole (frame_told offset size content ∷ others) = is_whole others
is_whole (message_told request_id body ∷ others) = is_whole others
is_whole (long_told offset ∷ others) = false
is_whole (bad_told offset status ∷ others) = false
is_whole (rest_told offset left ∷ others) = false

-- what was told behind all that was told before
abbrev pub Hears : {S : Type 0} → (S → List Told → Type 0) → List Told → S → S → Type 0
Hears heard more old new = (told : List Told) → heard old told → heard new (told ++ more)
