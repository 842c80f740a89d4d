-- What stops the command `serve`, and its exit statuses.
use Rattle.std.specs.Prelude.{◌≡◌, ◌⊎◌, ◌==◌, ℕ, Bool, if◌then◌else◌}
use Rattle.std.specs.IoError.{error_kind}
use Rattle.std.specs.declared.io.Error.{Error}
use Rattle.std.specs.declared.io.ErrorKind.TheVariants.{OutOfMemory}
use Rattle.ua_conn.specs.declared.outcome.End.{End}
use Rattle.ua_conn.specs.declared.outcome.End.TheVariants as ends
use Rattle.ua_disco.specs.Configuration.{Configuration}
use Rattle.ua_conn.specs.declared.server.greeting.ReverseFault.{ReverseFault}
use Rattle.ua_command.specs.Reverse.{CannotOpen}
use Rattle.ua_command.specs.Settings.{IsSettings}
use Rattle.ua_command.specs.Stop.{IsSettingsStop}
use Rattle.ua_words.specs.declared.source.Source.{Source}
use Rattle.ua_command.specs.declared.stop.Stop.{Stop}
use Rattle.ua_command.specs.declared.stop.Stop.TheVariants.{Words, Settings, Line, Reverse, File, Link, NoMemory}

-- all was served, a link or a file failed, or memory ran out
abbrev pub IsServeStatus : ℕ → Type 0
IsServeStatus status = (status ≡ 0) ⊎ (status ≡ 3) ⊎ (status ≡ 4)

-- the exit status after one more connection that ended so: 4 for want of memory, 3 for a failed link where nothing was before
abbrev pub status_behind : ℕ → End → ℕ
status_behind status ends.Closed = status
status_behind status ends.InputEnded = status
status_behind status ends.Truncated = status
status_behind status (ends.Refused reason) = status
status_behind status ends.LinkFailed = if status == 0 then 3 else status
status_behind status ends.TurnsSpent = status
status_behind status ends.NoMemory = 4

-- A connection can't be accepted or made, or a line not be printed, or these settings do not let a server open the connection.
abbrev pub IsServingStop : Bool → Configuration → Stop → Type 0
IsServingStop reverse settings (Words text) = ⊥
IsServingStop reverse settings (Settings fault) = ⊥
IsServingStop reverse settings (Line number) = ⊥
IsServingStop reverse settings (Reverse fault) = CannotOpen reverse settings fault
IsServingStop reverse settings File = Unit {0}
IsServingStop reverse settings Link = Unit {0}
IsServingStop reverse settings NoMemory = ⊥

-- how a run ends: as said above, or with 1 where the settings are the reason
abbrev pub IsServedStatus : Bool → Configuration → ℕ → Type 0
IsServedStatus reverse settings status = IsServeStatus status ⊎ ((status ≡ 1) × ((fault : ReverseFault) × CannotOpen reverse settings fault))

-- Nothing can listen: for want of memory where the error says so, else the link is the reason.
abbrev pub IsBindStop : Error → Stop → Type 0
IsBindStop error stop = (error_kind error ≡ OutOfMemory → stop ≡ NoMemory) × ((stop ≡ Link) ⊎ ((stop ≡ NoMemory) × (error_kind error ≡ OutOfMemory)))

-- either of these
abbrev pub IsUnbound : Stop → Type 0
IsUnbound stop = (stop ≡ NoMemory) ⊎ (stop ≡ Link)

-- Before anything is served, the settings may be refused, or nothing can listen at the address.
abbrev pub IsServeStop : Source → Stop → Type 0
IsServeStop source (Words text) = ⊥
IsServeStop source (Settings fault) = IsSettingsStop source (Settings fault)
IsServeStop source (Line number) = ⊥
IsServeStop source (Reverse fault) = ⊥
IsServeStop source File = IsSettingsStop source File
IsServeStop source Link = Unit {0}
IsServeStop source NoMemory = Unit {0}

-- the source has settings, by which connections were served
abbrev pub Serves : Bool → Source → ℕ → Type 0
Serves reverse source status = (settings : Configuration) × IsSettings source settings × IsServedStatus reverse settings status
