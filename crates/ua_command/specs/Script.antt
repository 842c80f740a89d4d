-- What the lines of a text say: pieces of a stream, each with its moment.
use Rattle.std.specs.Prelude.{◌≡◌, ℕ, ◌+◌, ◌^◌, ◌==◌, ◌&&◌, ◌||◌, not, nat_lt, Bool, if◌then◌else◌, ℤ, pos, List, [], ◌∷◌, ◌++◌, length, map, filter, Option, Some, None, Result, Ok, Err}
use Rattle.std.specs.List.{slice_split, list_all}
use Rattle.std.specs.Char.{is_ascii_digit}
use Rattle.std.specs.Str.Parse.{digits_value}
use Rattle.std.specs.Borrow.{Bor}
use Rattle.hex.specs.Hex.{decode_of}
use Rattle.hex.specs.declared.error.FromHexError.{FromHexError}
use Rattle.ua_command.specs.declared.script.TimedPiece.{TimedPiece}
use Rattle.ua_command.specs.declared.script.ScriptFault.{ScriptFault}
use Rattle.ua_command.specs.declared.script.ScriptFault.TheVariants.{BadLine, NoMemory}
use Rattle.ua_command.specs.declared.script.Script.{Script}
use Rattle.ua_command.specs.declared.script.Line.{Line}
use Rattle.ua_command.specs.declared.script.Line.TheVariants.{Skipped, Moment, Piece, Bad}

-- what one line says
pub data Content : Type 0 where
  Nothing : Content
  At : ℤ → Content
  Bytes : List ℕ → Content
  Malformed : Content

-- what a line drops: the space and the carriage return
abbrev pub is_dropped : ℕ → Bool
is_dropped c = c == 32 || c == 13

-- all else
abbrev pub is_kept : ℕ → Bool
is_kept c = not (is_dropped c)

-- the number of decimal digits that is no later than the greatest moment
abbrev pub moment_in : List ℕ → Option ℤ
moment_in digits = if nat_lt 0 (length digits) && list_all is_ascii_digit digits && nat_lt (digits_value 10 digits) (2 ^ 63) then Some (pos (digits_value 10 digits)) else None

abbrev pub at_moment : Option ℤ → Content
at_moment None = Malformed
at_moment (Some moment) = At moment

abbrev pub of_bytes : Result (List ℕ) FromHexError → Content
of_bytes (Err fault) = Malformed
of_bytes (Ok bytes) = Bytes bytes

-- Nothing or a comment says nothing, an at sign begins a moment, and all else is hex digits.
abbrev pub content_of_kept : List ℕ → Content
content_of_kept [] = Nothing
content_of_kept (c ∷ cs) = if c == 35 then Nothing else if c == 64 then at_moment (moment_in cs) else of_bytes (decode_of (c ∷ cs))

abbrev pub content_of : List ℕ → Content
content_of line = content_of_kept (filter is_kept line)

-- a moment, and the bytes that came then
abbrev pub Timed : Type 0
Timed = ℤ × List ℕ

-- some pieces, and then those of the rest
abbrev pub onto : List Timed → Result (List Timed) ℕ → Result (List Timed) ℕ
onto pieces (Ok more) = Ok (pieces ++ more)
onto pieces (Err line) = Err line

abbrev pub after_line : ℤ → ℕ → Content → (ℤ → Result (List Timed) ℕ) → Result (List Timed) ℕ
after_line moment number Nothing rest = rest moment
after_line moment number (At next) rest = rest next
after_line moment number (Bytes bytes) rest = onto ((moment, bytes) ∷ []) (rest moment)
after_line moment number Malformed rest = Err number

-- the pieces of some lines, of which the first has this number, or the number of the first bad one
abbrev pub script_from : ℤ → ℕ → List (List ℕ) → Result (List Timed) ℕ
script_from moment number [] = Ok []
script_from moment number (line ∷ lines) = after_line moment number (content_of line) (λ m. script_from m (number + 1) lines)

-- The pieces that a text gives: the moment is 0 until a line says another, and the first line has the number 1.
unfoldable pub script_in : List ℕ → Result (List Timed) ℕ
script_in text = script_from (pos 0) 1 (slice_split (λ c. c == 10) text)

-- the lines of what is left
abbrev pub lines_of : Option (Bor (List ℕ)) → List (List ℕ)
lines_of None = []
lines_of (Some rest) = slice_split (λ c. c == 10) rest.now

-- how much is left, a line end counted for the last line
abbrev pub left_of : Option (Bor (List ℕ)) → ℕ
left_of None = 0
left_of (Some rest) = length rest.now + 1

abbrev pub shown : Line → Content
shown Skipped = Nothing
shown (Moment moment) = At moment
shown (Piece bytes) = Bytes bytes.items
shown Bad = Malformed

abbrev pub timed : TimedPiece → Timed
timed piece = (piece.moment, piece.bytes.items)

abbrev pub times : List TimedPiece → List Timed
times pieces = map timed pieces

-- The line is taken in: what the script then gives with the lines behind is what it gave with this one before them.
abbrev pub AddsLine : ℕ → List ℕ → Script → Script → Type 0
AddsLine number line old new = (more : List (List ℕ)) → onto (times old.pieces.items) (script_from old.moment number (line ∷ more)) ≡ onto (times new.pieces.items) (script_from new.moment (number + 1) more)

abbrev pub IsLineFault : ℕ → Content → ScriptFault → Type 0
IsLineFault number content (BadLine line) = (line ≡ number) × (content ≡ Malformed)
IsLineFault number content NoMemory = Unit {0}

-- want of memory may come at any text
abbrev pub IsScriptFault : Result (List Timed) ℕ → ScriptFault → Type 0
IsScriptFault script (BadLine number) = script ≡ Err number
IsScriptFault script NoMemory = Unit {0}
