-- What stops the command `ask`, and its exit statuses.
use Rattle.std.specs.Prelude.{◌≡◌, ◌⊎◌, ℕ}
use Rattle.ua_command.specs.declared.stop.Stop.{Stop}
use Rattle.ua_command.specs.declared.stop.Stop.TheVariants.{Words, Settings, Line, Reverse, File, Link, NoMemory}
use Rattle.ua_socket.specs.declared.reason.Reason.{Reason}
use Rattle.ua_socket.specs.declared.reason.Reason.TheVariants as reasons

-- an answer, what came in its place, a link or a file that failed, or want of memory
abbrev pub IsAskStatus : ℕ → Type 0
IsAskStatus status = (status ≡ 0) ⊎ (status ≡ 1) ⊎ (status ≡ 3) ⊎ (status ≡ 4)

-- The link failed, a line can't be printed, or memory ran out.
abbrev pub IsTalkStop : Stop → Type 0
IsTalkStop (Words text) = ⊥
IsTalkStop (Settings fault) = ⊥
IsTalkStop (Line number) = ⊥
IsTalkStop (Reverse fault) = ⊥
IsTalkStop File = Unit {0}
IsTalkStop Link = Unit {0}
IsTalkStop NoMemory = Unit {0}

-- Why there is no link is known better than the command says: it tells want of memory from all else.
abbrev pub stop_of_reason : Reason → Stop
stop_of_reason (reasons.Address error) = Link
stop_of_reason (reasons.System error) = Link
stop_of_reason reasons.Late = Link
stop_of_reason reasons.Stuck = Link
stop_of_reason reasons.NoMemory = NoMemory

-- there is no link, or memory ran out
abbrev pub IsReachStop : Stop → Type 0
IsReachStop (Words text) = ⊥
IsReachStop (Settings fault) = ⊥
IsReachStop (Line number) = ⊥
IsReachStop (Reverse fault) = ⊥
IsReachStop File = ⊥
IsReachStop Link = Unit {0}
IsReachStop NoMemory = Unit {0}
