-- What the command `answer` prints, and its exit status.
use Rattle.std.specs.Prelude.{◌≡◌, ℕ, Bool, List, ◌++◌, map, codes, Option, Ok, IfSome}
use Rattle.std.specs.Io.KnownBytes.{Appends}
use Rattle.hex.specs.Hex.{encode_lower}
use Rattle.ua_frame.specs.Streams.{Piece, TimedByte, moment_of, timed}
use Rattle.ua_disco.specs.Configuration.{Configuration}
use Rattle.ua_command.specs.End.{end_status}
use Rattle.ua_conn.specs.server.Replies.{reply_bytes, end_of}
use Rattle.ua_conn.specs.server.Site.{Site}
use Rattle.ua_conn.specs.declared.outcome.End.{End}
use Rattle.ua_conn.specs.declared.outcome.End.TheVariants.{Closed, InputEnded, Truncated, Refused, LinkFailed, TurnsSpent, NoMemory}
use Rattle.ua_print.specs.Printed.{status_text}
use Rattle.ua_command.specs.Reverse.{CanOpen}
use Rattle.ua_command.specs.Script.{Timed, script_in}
use Rattle.ua_command.specs.Settings.{IsSettings}
use Rattle.ua_words.specs.declared.source.Source.{Source}

-- a server with these settings, with channel 1
abbrev pub site_with : Configuration → Site
site_with settings = record { settings = settings; channel = 1 }

-- what it answers to a stream, where it opened the connection itself or not, and how it ends
abbrev pub answered : Bool → Configuration → List TimedByte → List ℕ
answered reverse settings s = reply_bytes reverse (site_with settings) s

abbrev pub ending : Configuration → List TimedByte → End
ending settings s = end_of (site_with settings) s

abbrev pub piece_of : Timed → Piece
piece_of p = record { moment = moment_of p.0; bytes = p.1 }

-- the stream that the pieces of a script bring
abbrev pub stream_of : List Timed → List TimedByte
stream_of pieces = timed (map piece_of pieces)

abbrev pub end_text : End → List ℕ
end_text Closed = codes "closed"
end_text InputEnded = codes "input-ended"
end_text Truncated = codes "truncated"
end_text (Refused status) = codes "refused " ++ status_text status
end_text LinkFailed = codes "link-failed"
end_text TurnsSpent = codes "turns-spent"
end_text NoMemory = codes "memory"

-- the reply in hex on one line, and the end on another
abbrev pub answer_lines : List ℕ → End → List ℕ
answer_lines reply end = encode_lower reply ++ codes "\nend " ++ end_text end ++ codes "\n"

-- The text that a reader gave: the bytes that it had left, where those are known.
abbrev pub IsInput : Option (List ℕ) → List ℕ → Type 0
IsInput left text = IfSome left (λ bytes. text ≡ bytes)

-- all lines of the reader are good, and give pieces
abbrev pub GivesPieces : Option (List ℕ) → Type 0
GivesPieces left = (text : List ℕ) × (pieces : List Timed) × IsInput left text × (script_in text ≡ Ok pieces)

-- the lines that answer these pieces stand behind what the writer held, and the status is that of their end
pub record Answers (reverse : Bool) (settings : Configuration) (pieces : List Timed) (old new : Option (List ℕ)) (status : ℕ) : Type 0 where
  pub can_open : CanOpen reverse settings
  pub printed : Appends old new (answer_lines (answered reverse settings (stream_of pieces)) (ending settings (stream_of pieces)))
  pub status_is : status ≡ end_status (ending settings (stream_of pieces))

-- the pieces that the reader's lines give are answered
abbrev pub AnswersInput : Bool → Configuration → Option (List ℕ) → Option (List ℕ) → Option (List ℕ) → ℕ → Type 0
AnswersInput reverse settings left old new status = (text : List ℕ) × (pieces : List Timed) × IsInput left text × (script_in text ≡ Ok pieces) × Answers reverse settings pieces old new status

-- they are answered by the settings of the source
abbrev pub AnswersBy : Bool → Source → Option (List ℕ) → Option (List ℕ) → Option (List ℕ) → ℕ → Type 0
AnswersBy reverse source left old new status = (settings : Configuration) × IsSettings source settings × AnswersInput reverse settings left old new status
