-- The settings by which the command `answer` answers.
use Rattle.std.specs.Prelude.{◌≡◌, ℕ, List, Result, Ok}
use Rattle.ua_disco.specs.Configuration.{Configuration}
use Rattle.ua_disco.specs.Faults.{Fault, Fails}
use Rattle.ua_disco.specs.Settings.{default_text}
use Rattle.ua_disco.specs.Tables.{settings_of}
use Rattle.ua_disco.specs.declared.fault.SettingsFault.{SettingsFault}
use Rattle.ua_disco.specs.declared.fault.SettingsFault.TheVariants.{NotToml, Missing, WrongKind, BadValue, UnknownKey, NoMemory}
use Rattle.ua_words.specs.declared.source.Source.{Source}
use Rattle.ua_words.specs.declared.source.Source.TheVariants.{Default, File}

-- The text of a source: that of `default`, or what the file gave.
abbrev pub IsText : Source → List ℕ → Type 0
IsText Default text = text ≡ default_text
IsText (File path) text = Unit {0}

-- the settings that the source's text gives
abbrev pub IsSettings : Source → Configuration → Type 0
IsSettings source settings = (text : List ℕ) × IsText source text × (settings_of text ≡ Ok settings)

-- the fault of a text that is refused, which is not want of memory
abbrev pub IsFaultOf : Result Configuration Fault → SettingsFault → Type 0
IsFaultOf rule NotToml = Fails NotToml rule
IsFaultOf rule (Missing key) = Fails (Missing key) rule
IsFaultOf rule (WrongKind key) = Fails (WrongKind key) rule
IsFaultOf rule (BadValue key) = Fails (BadValue key) rule
IsFaultOf rule (UnknownKey key) = Fails (UnknownKey key) rule
IsFaultOf rule NoMemory = ⊥

-- the source's text is refused with this fault
abbrev pub RefusesSource : Source → SettingsFault → Type 0
RefusesSource source fault = (text : List ℕ) × IsText source text × IsFaultOf (settings_of text) fault
