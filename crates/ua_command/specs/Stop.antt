-- The exit statuses, and what each fault of a step is to the command.
use Rattle.std.specs.Prelude.{◌≡◌, ℕ, Bool, List, ◌++◌, codes, string_bytes, Option, Some, None, Err}
use Rattle.std.specs.Fmt.{decimal}
use Rattle.ua_command.specs.Answer.{IsInput, GivesPieces}
use Rattle.ua_command.specs.Reverse.{reverse_number, CannotOpen}
use Rattle.ua_command.specs.Script.{script_in}
use Rattle.ua_disco.specs.Tables.{settings_of}
use Rattle.ua_command.specs.Settings.{IsSettings, IsFaultOf, RefusesSource}
use Rattle.ua_words.specs.declared.source.Source.{Source}
use Rattle.ua_words.specs.declared.source.Source.TheVariants.{Default}
use Rattle.ua_disco.specs.Configuration.{Configuration}
use Rattle.ua_disco.specs.declared.fault.SettingsFault.{SettingsFault}
use Rattle.ua_disco.specs.declared.fault.SettingsFault.TheVariants as settings
use Rattle.ua_command.specs.declared.stop.Stop.{Stop}
use Rattle.ua_command.specs.declared.stop.Stop.TheVariants.{Words, Settings, Line, Reverse, File, Link, NoMemory}
use Rattle.ua_command.specs.declared.input.InputFault.{InputFault}
use Rattle.ua_command.specs.declared.input.InputFault.TheVariants as input
use Rattle.ua_command.specs.declared.script.ScriptFault.{ScriptFault}
use Rattle.ua_command.specs.declared.script.ScriptFault.TheVariants as script
use Rattle.ua_conn.specs.declared.server.greeting.ReverseFault.{ReverseFault}
use Rattle.ua_conn.specs.declared.server.greeting.ReverseFault.TheVariants as reasons

-- 1 for settings or input that are refused, 2 for words, 3 for a file or a link, 4 for want of memory; 0 is done
abbrev pub status_of : Stop → ℕ
status_of (Line number) = 1
status_of (Reverse fault) = 1
status_of (Settings fault) = 1
status_of (Words text) = 2
status_of File = 3
status_of Link = 3
status_of NoMemory = 4

abbrev pub stop_of_input : InputFault → Stop
stop_of_input input.Failed = File
stop_of_input input.NoMemory = NoMemory

abbrev pub stop_of_script : ScriptFault → Stop
stop_of_script (script.BadLine number) = Line number
stop_of_script script.NoMemory = NoMemory

abbrev pub stop_of_settings : SettingsFault → Stop
stop_of_settings settings.NoMemory = NoMemory
stop_of_settings settings.NotToml = Settings settings.NotToml
stop_of_settings (settings.Missing key) = Settings (settings.Missing key)
stop_of_settings (settings.WrongKind key) = Settings (settings.WrongKind key)
stop_of_settings (settings.BadValue key) = Settings (settings.BadValue key)
stop_of_settings (settings.UnknownKey key) = Settings (settings.UnknownKey key)

abbrev pub stop_of_reverse : ReverseFault → Stop
stop_of_reverse reasons.NoMemory = NoMemory
stop_of_reverse reasons.NoEndpoint = Reverse reasons.NoEndpoint
stop_of_reverse reasons.TooLarge = Reverse reasons.TooLarge

-- a failed read, or want of memory
abbrev pub IsFileStop : Stop → Type 0
IsFileStop (Settings fault) = ⊥
IsFileStop (Line number) = ⊥
IsFileStop (Reverse fault) = ⊥
IsFileStop (Words text) = ⊥
IsFileStop File = Unit {0}
IsFileStop Link = ⊥
IsFileStop NoMemory = Unit {0}

-- the first fault of a text of settings, or want of memory
abbrev pub IsTextStop : List ℕ → Stop → Type 0
IsTextStop text (Settings fault) = IsFaultOf (settings_of text) fault
IsTextStop text (Line number) = ⊥
IsTextStop text (Reverse fault) = ⊥
IsTextStop text (Words words) = ⊥
IsTextStop text File = ⊥
IsTextStop text Link = ⊥
IsTextStop text NoMemory = Unit {0}

-- Settings that stop the command are refused with the fault. A file may fail to be read, and memory may run out.
abbrev pub IsSettingsStop : Source → Stop → Type 0
IsSettingsStop source (Settings fault) = RefusesSource source fault
IsSettingsStop source (Line number) = ⊥
IsSettingsStop source (Reverse fault) = ⊥
IsSettingsStop source (Words text) = ⊥
IsSettingsStop source File = source ≡ Default → ⊥
IsSettingsStop source Link = ⊥
IsSettingsStop source NoMemory = Unit {0}

-- A line that stops the command is the first bad one of what the reader gave. A failed read or write, and want of memory, may come at any lines.
abbrev pub IsInputStop : Option (List ℕ) → Stop → Type 0
IsInputStop left (Line number) = (text : List ℕ) × IsInput left text × (script_in text ≡ Err number)
IsInputStop left (Settings fault) = ⊥
IsInputStop left (Reverse fault) = ⊥
IsInputStop left (Words text) = ⊥
IsInputStop left File = Unit {0}
IsInputStop left Link = ⊥
IsInputStop left NoMemory = Unit {0}

-- What stops an answer by these settings: its input, or that they do not let a server open the connection, which is found behind good lines.
abbrev pub IsAnsweringStop : Bool → Configuration → Option (List ℕ) → Stop → Type 0
IsAnsweringStop reverse settings left (Reverse fault) = CannotOpen reverse settings fault × GivesPieces left
IsAnsweringStop reverse settings left stop = IsInputStop left stop

-- what stops the command `answer`: first its settings, and where these are good the answer by them
abbrev pub IsAnswerStop : Bool → Source → Option (List ℕ) → Stop → Type 0
IsAnswerStop reverse source left (Settings fault) = RefusesSource source fault
IsAnswerStop reverse source left (Line number) = (settings : Configuration) × IsSettings source settings × IsAnsweringStop reverse settings left (Line number)
IsAnswerStop reverse source left (Reverse fault) = (settings : Configuration) × IsSettings source settings × IsAnsweringStop reverse settings left (Reverse fault)
IsAnswerStop reverse source left (Words text) = ⊥
IsAnswerStop reverse source left File = Unit {0}
IsAnswerStop reverse source left Link = ⊥
IsAnswerStop reverse source left NoMemory = Unit {0}

-- nothing was printed where the stop is none of a file
abbrev pub IsQuiet : Stop → Option (List ℕ) → Option (List ℕ) → Type 0
IsQuiet File old new = Unit {0}
IsQuiet stop old new = new ≡ old

-- what is told of a stop, where it is said here: a fault of settings has a text of its own
abbrev pub stop_text : Stop → Option (List ℕ)
stop_text (Words text) = Some (string_bytes text)
stop_text (Settings fault) = None
stop_text (Line number) = Some (codes "line " ++ decimal number ++ codes "\n")
stop_text (Reverse fault) = Some (codes "reverse " ++ decimal (reverse_number fault) ++ codes "\n")
stop_text File = Some (codes "file\n")
stop_text Link = Some (codes "link\n")
stop_text NoMemory = Some (codes "memory\n")
