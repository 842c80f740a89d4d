-- What a whole run of the command does.
use Rattle.std.specs.Prelude.{◌≡◌, ◌⊎◌, ◌≤◌, ℕ, Bool, false, List, Option, string_bytes}
use Rattle.std.specs.Io.KnownBytes.{Appends}
use Rattle.clap.specs.Words.{Text}
use Rattle.ua_command.specs.Answer.{AnswersBy}
use Rattle.ua_command.specs.Ask.{IsAskStatus}
use Rattle.ua_words.specs.Command.{AsksFor, AsksForText, AsksForNothing}
use Rattle.ua_command.specs.Printed.{Shape, shape_of, PrintsIn, RefusesIn}
use Rattle.ua_command.specs.Serve.{Serves}
use Rattle.ua_command.specs.Settings.{RefusesSource}
use Rattle.ua_command.specs.Show.{ShowsCapture}
use Rattle.ua_command.specs.Stop.{status_of, IsAnswerStop, IsQuiet}
use Rattle.ua_words.specs.declared.command.Command.{Command}
use Rattle.ua_words.specs.declared.command.Command.TheVariants.{Answer, Value, Show, Serve, ServeMany, Ask, Check}
use Rattle.ua_words.specs.declared.command.WordsFault.{WordsFault}
use Rattle.ua_words.specs.declared.command.WordsFault.TheVariants.{Shown, Refused, NoMemory as WordsWithoutMemory}
use Rattle.ua_command.specs.declared.stop.Stop.{Stop}
use Rattle.ua_disco.specs.declared.fault.SettingsFault.{SettingsFault}
use Rattle.ua_words.specs.declared.source.Source.{Source}
use Rattle.ua_words.specs.declared.form.Form.{Form}
use Rattle.ua_words.specs.declared.capture.Capture.{Capture}
use Rattle.ua_words.specs.declared.capture.Capture.TheVariants as captures
use Rattle.ua_command.specs.declared.stop.Stop.TheVariants.{Words, Settings, Line, Reverse, File, Link, NoMemory}

-- at 0 a value stands in a form behind what the writer held, and at 1 that there is none
pub record Shows (form : Form) (s : Shape) (input : List ℕ) (old new : Option (List ℕ)) (status : ℕ) : Type 0 where
  pub value : status ≡ 0 → PrintsIn form s input old new
  pub refused : status ≡ 1 → RefusesIn form s input old new
  pub status_is : status ≤ 1

-- what a run has to do with: what the reader has left, and what the writers of what is printed and of what is told held before and hold then
pub record Streams : Type 0 where
  pub left : Option (List ℕ)
  pub printed : Option (List ℕ)
  pub printed' : Option (List ℕ)
  pub told : Option (List ℕ)
  pub told' : Option (List ℕ)

-- What a command does with its input and output, where nothing stops it. What is printed of a connection is not said: nothing is known of what a socket carries.
abbrev pub Does : Command → Streams → ℕ → Type 0
Does (Answer source reverse) s status = AnswersBy reverse source s.left s.printed s.printed' status
Does (Value kind bytes form) s status = Shows form (shape_of kind) bytes.items s.printed s.printed' status
Does (Show capture form stream port) s status = ShowsCapture form capture s.left s.printed s.printed' s.told s.told' status
Does (Serve source address connections reverse) s status = Serves reverse source status
Does (ServeMany source address connections at_once patience) s status = Serves false source status
Does (Ask question locales filter address url seconds form) s status = IsAskStatus status
Does (Check source address url seconds) s status = IsAskStatus status

-- A command that is done tells nothing but where it is one over links, which tells where it listens, and how a link failed, or shows a file of packets, which tells what stopped it in its midst: of `show` that is said above.
abbrev pub TellsOf : Command → Option (List ℕ) → Option (List ℕ) → Type 0
TellsOf (Answer source reverse) old new = new ≡ old
TellsOf (Value kind bytes form) old new = new ≡ old
TellsOf (Show capture form stream port) old new = Unit {0}
TellsOf (Serve source address connections reverse) old new = Unit {0}
TellsOf (ServeMany source address connections at_once patience) old new = Unit {0}
TellsOf (Ask question locales filter address url seconds form) old new = Unit {0}
TellsOf (Check source address url seconds) old new = Unit {0}

-- the command that the words ask for is done
abbrev pub Done : List Text → Streams → ℕ → Type 0
Done words s status = (c : Command) × AsksFor words c × Does c s status × TellsOf c s.told s.told'

-- a text stands behind what the writer held, where the words ask for help or the version
pub record ShowsText (words : List Text) (old new : Option (List ℕ)) (status : ℕ) : Type 0 where
  pub asked : AsksForText words
  pub text : List ℕ
  pub printed : Appends old new text
  pub status_is : status ≡ 0

-- what the words ask for is done: a command, or a text, where nothing is told
abbrev pub IsDone : List Text → Streams → ℕ → Type 0
IsDone words s status = Done words s status ⊎ (ShowsText words s.printed s.printed' status × (s.told' ≡ s.told))

-- the text that stands in a fault of the words is behind what the writer held
abbrev pub ShowsTextOf : WordsFault → Option (List ℕ) → Option (List ℕ) → Type 0
ShowsTextOf (Shown text) old new = Appends old new (string_bytes text)
ShowsTextOf (Refused text) old new = ⊥
ShowsTextOf WordsWithoutMemory old new = ⊥

-- A text that the words ask for stops a command only where it can't be printed. Any other fault of the words does.
abbrev pub IsStopOf : WordsFault → Stop → Type 0
IsStopOf (Shown text) stop = stop ≡ File
IsStopOf (Refused text) stop = stop ≡ Words text
IsStopOf WordsWithoutMemory stop = stop ≡ NoMemory

-- the command has settings, which are refused with this fault
abbrev pub RefusesSettingsOf : Command → SettingsFault → Type 0
RefusesSettingsOf (Answer source reverse) fault = RefusesSource source fault
RefusesSettingsOf (Value kind bytes form) fault = ⊥
RefusesSettingsOf (Show capture form stream port) fault = ⊥
RefusesSettingsOf (Serve source address connections reverse) fault = RefusesSource source fault
RefusesSettingsOf (ServeMany source address connections at_once patience) fault = RefusesSource source fault
RefusesSettingsOf (Ask question locales filter address url seconds form) fault = ⊥
RefusesSettingsOf (Check source address url seconds) fault = RefusesSource source fault

-- the command is one over links
abbrev pub IsOverLinks : Command → Type 0
IsOverLinks (Answer source reverse) = ⊥
IsOverLinks (Value kind bytes form) = ⊥
IsOverLinks (Show capture form stream port) = ⊥
IsOverLinks (Serve source address connections reverse) = Unit {0}
IsOverLinks (ServeMany source address connections at_once patience) = Unit {0}
IsOverLinks (Ask question locales filter address url seconds form) = Unit {0}
IsOverLinks (Check source address url seconds) = Unit {0}

-- the command reads its input
abbrev pub ReadsInput : Command → Type 0
ReadsInput (Answer source reverse) = Unit {0}
ReadsInput (Value kind bytes form) = ⊥
ReadsInput (Show captures.Input form stream port) = Unit {0}
ReadsInput (Show (captures.File path) form stream port) = ⊥
ReadsInput (Serve source address connections reverse) = ⊥
ReadsInput (ServeMany source address connections at_once patience) = ⊥
ReadsInput (Ask question locales filter address url seconds form) = ⊥
ReadsInput (Check source address url seconds) = ⊥

-- the input stays as it was, or the words ask for a command that reads it
abbrev pub LeavesInput : List Text → Option (List ℕ) → Option (List ℕ) → Type 0
LeavesInput words old new = (new ≡ old) ⊎ ((c : Command) × AsksFor words c × ReadsInput c)

-- Bad words are those that ask for nothing, bad settings those of the command, and a bad line is the first bad one of what `answer` reads by good settings.
-- Good settings that do not let a server open the connection stop `answer` behind good lines; `serve` tells of them itself, and ends with its own status.
-- A failed read or write stops only what was asked for, a failed link only a command over links, and want of memory may come at any words.
abbrev pub IsStop : List Text → Option (List ℕ) → Stop → Type 0
IsStop words left (Words text) = AsksForNothing words
IsStop words left (Settings fault) = (c : Command) × AsksFor words c × RefusesSettingsOf c fault
IsStop words left (Line number) = (source : Source) × (reverse : Bool) × AsksFor words (Answer source reverse) × IsAnswerStop reverse source left (Line number)
IsStop words left (Reverse fault) = (source : Source) × (reverse : Bool) × AsksFor words (Answer source reverse) × IsAnswerStop reverse source left (Reverse fault)
IsStop words left File = ((c : Command) × AsksFor words c) ⊎ AsksForText words
IsStop words left Link = (c : Command) × AsksFor words c × IsOverLinks c
IsStop words left NoMemory = Unit {0}

-- something stopped the command before it was done; nothing was printed but where a file failed
pub record Stopped (words : List Text) (left old new : Option (List ℕ)) (status : ℕ) : Type 0 where
  pub stop : Stop
  pub why : IsStop words left stop
  pub quiet : IsQuiet stop old new
  pub status_is : status ≡ status_of stop

-- what the words ask for is done, or it was stopped
abbrev pub Runs : List Text → Streams → ℕ → Type 0
Runs words s status = IsDone words s status ⊎ Stopped words s.left s.printed s.printed' status
