-- What the command `show` reads and prints, and its exit status.
use Rattle.std.specs.Prelude.{◌≡◌, ◌⊎◌, ◌≤◌, true, false, ℕ, List, length, Option}
use Rattle.std.specs.Io.KnownBytes.{Appends}
use Rattle.ua_capture.specs.Beginning.{is_capture}
use Rattle.ua_command.specs.Answer.{IsInput}
use Rattle.ua_json.specs.Lines.{AreLines}
use Rattle.ua_print.specs.Capture.{shown}
use Rattle.ua_trace.specs.Woven.{Woven}
use Rattle.ua_walk.specs.Walk.{story}
use Rattle.ua_words.specs.declared.form.Form.{Form}
use Rattle.ua_words.specs.declared.form.Form.TheVariants.{Lines, Whole, Json}
use Rattle.ua_words.specs.declared.capture.Capture.{Capture}
use Rattle.ua_words.specs.declared.capture.Capture.TheVariants.{Input, File}

-- The bytes of a capture: those that the reader gave, or what the file gave.
abbrev pub IsCapture : Capture → Option (List ℕ) → List ℕ → Type 0
IsCapture Input left bytes = IsInput left bytes
IsCapture (File path) left bytes = Unit {0}

-- Of a capture in a file the input stays as it was.
abbrev pub LeavesFor : Capture → Option (List ℕ) → Option (List ℕ) → Type 0
LeavesFor Input old new = Unit {0}
LeavesFor (File path) old new = new ≡ old

-- the text of these bytes in a form: a line for each thing that is told of them, these lines with those of all that servers answered under messages, or in JSON as many lines, an object each
abbrev pub IsShownIn : Form → List ℕ → List ℕ → Type 0
IsShownIn Lines bytes text = text ≡ (shown bytes).text
IsShownIn Whole bytes text = Woven (story bytes) text
IsShownIn Json bytes text = AreLines (length (story bytes)) text

-- that text stands behind what the writer held, and the status is the same in each form
pub record ShowsIn (form : Form) (bytes : List ℕ) (old new : Option (List ℕ)) (status : ℕ) : Type 0 where
  pub text : List ℕ
  pub is_shown : IsShownIn form bytes text
  pub printed : Appends old new text
  pub status_is : status ≡ (shown bytes).status

-- Raw bytes do not begin as a file of packets does. They are shown in a form, and nothing is told.
pub record ShowsRaw (form : Form) (bytes : List ℕ) (old new told told' : Option (List ℕ)) (status : ℕ) : Type 0 where
  pub raw : is_capture bytes ≡ false
  pub printed : ShowsIn form bytes old new status
  pub untold : told' ≡ told

-- a file of packets ends with 0 or 1, or with 3 or 4 where a read or a write failed or memory ran out in its midst
abbrev pub IsTraceStatus : ℕ → Type 0
IsTraceStatus status = (status ≡ 0) ⊎ (status ≡ 1) ⊎ (status ≡ 3) ⊎ (status ≡ 4)

-- The bytes begin as a file of packets; what is printed of one is not said here. Where nothing stopped it nothing is told.
pub record ShowsPackets (bytes : List ℕ) (told told' : Option (List ℕ)) (status : ℕ) : Type 0 where
  pub packets : is_capture bytes ≡ true
  pub status_is : IsTraceStatus status
  pub untold : status ≤ 1 → told' ≡ told

-- what these bytes come to: they are raw, or a file of packets, as their beginning says
abbrev pub ShowsAll : Form → List ℕ → Option (List ℕ) → Option (List ℕ) → Option (List ℕ) → Option (List ℕ) → ℕ → Type 0
ShowsAll form bytes old new told told' status = ShowsRaw form bytes old new told told' status ⊎ ShowsPackets bytes told told' status

-- what the bytes that a reader gave come to, in a form
abbrev pub ShowsFrom : Form → Option (List ℕ) → Option (List ℕ) → Option (List ℕ) → Option (List ℕ) → Option (List ℕ) → ℕ → Type 0
ShowsFrom form left old new told told' status = (bytes : List ℕ) × IsInput left bytes × ShowsAll form bytes old new told told' status

-- the same of the bytes of a capture
abbrev pub ShowsCapture : Form → Capture → Option (List ℕ) → Option (List ℕ) → Option (List ℕ) → Option (List ℕ) → Option (List ℕ) → ℕ → Type 0
ShowsCapture form capture left old new told told' status = (bytes : List ℕ) × IsCapture capture left bytes × ShowsAll form bytes old new told told' status
