-- The link of a connection that is over and whose last word is out: what still comes is dropped for a while, since a system that closes a
-- link with bytes unread may take back what the client has not read yet.
use Rattle.std.specs.Prelude.{◌≡◌, ℕ, ◌+◌, ◌-◌, ◌^◌, ◌<◌, ◌&&◌, ℤ, max, Bool, true, false, nat_lt, if◌then◌else◌, List, [], ◌∷◌, Option, Some, None, Result, Ok, Err}
use Rattle.ua_frame.specs.Streams.{moment_of}
use Rattle.ua_conn.specs.declared.outcome.End.TheVariants.{Closed, InputEnded, Truncated, Refused, LinkFailed, TurnsSpent, NoMemory}
use Rattle.ua_link.specs.Link.{Counts}
use Rattle.ua_link.specs.ReadyLink.{ReadsNow, Tries}
use Rattle.ua_link.specs.Turns.{Seen}
use Rattle.ua_link.specs.declared.connection.Over.{Over}
use Rattle.ua_link.specs.declared.connection.Over.TheVariants.{Ended, TimedOut}
use Rattle.ua_link.specs.declared.link.LinkFault.{LinkFault}
use Rattle.ua_link.specs.declared.ready_link.Call.{Call}
use Rattle.ua_link.specs.declared.ready_link.Call.TheVariants.{Read}
use Rattle.ua_serve.specs.declared.lingering.LingeringLink.{LingeringLink}
use Rattle.ua_serve.specs.Turn.{counted}

-- The link of a connection lingers where that ended by itself: it was closed, refused, or had all its turns.
abbrev pub lingers : Over → Bool
lingers (Ended Closed) = true
lingers (Ended InputEnded) = false
lingers (Ended Truncated) = false
lingers (Ended (Refused status)) = true
lingers (Ended LinkFailed) = false
lingers (Ended TurnsSpent) = true
lingers (Ended NoMemory) = false
lingers TimedOut = false

-- a link that lingers from a moment on
abbrev pub from_now : {L : Type 0} → L → ℤ → LingeringLink L
from_now link now = record { link = link; begun = moment_of now; dropped = 0 }

-- the ticks that are left of the second for which it may
abbrev pub second_left : {L : Type 0} → LingeringLink L → ℤ → ℕ
second_left l now = 10000000 - (max l.begun (moment_of now) - l.begun)

-- the bytes that were dropped in all, behind a read
abbrev pub dropped_by : {E : Type 0} → Result (Option ℕ) E → ℕ → ℕ
dropped_by (Ok (Some n)) dropped = counted (dropped + n)
dropped_by (Ok None) dropped = dropped
dropped_by (Err e) dropped = dropped

-- Whether more may be there at once behind a read, where so many bytes were dropped in all; none where the link is let go of: the input
-- ended, the read failed, or 64 KiB came.
abbrev pub stays_by : {E : Type 0} → Result (Option ℕ) E → ℕ → Option Bool
stays_by (Ok (Some n)) dropped = if nat_lt 0 n && nat_lt dropped 65536 then Some true else None
stays_by (Ok None) dropped = Some false
stays_by (Err e) dropped = None

-- It was read once: what came was dropped, and nothing was written.
pub record Drains {L : Type 0} (seen : L → Seen) (tried : L → Option (List Call)) (old new : LingeringLink L) (more : Option Bool) : Type 0 where
  pub came : Result (Option ℕ) LinkFault
  pub room : List ℕ
  pub reads : ReadsNow (seen old.link).input (seen new.link).input came room
  pub tries : Tries (tried old.link) (tried new.link) (Read ∷ [])
  pub silent : (seen new.link).output ≡ (seen old.link).output
  pub counts : Counts came (seen old.link).faults (seen new.link).faults
  pub begun : new.begun ≡ old.begun
  pub dropped : new.dropped ≡ dropped_by came old.dropped
  pub stays : more ≡ stays_by came new.dropped

-- What a step makes of it at a moment, where `ready` says that it may do something: whether more may be there at once, or none where it is
-- let go of.
pub data Lingers {L : Type 0} (seen : L → Seen) (tried : L → Option (List Call)) (now : ℤ) (ready : Bool) (old new : LingeringLink L) (stays : Option Bool) : Type 0 where
  -- the second is over
  late : second_left old now ≡ 0 → new ≡ old → stays ≡ None → Lingers seen tried now ready old new stays
  -- it failed too often to count one failure more
  worn : 0 < second_left old now → (seen old.link).faults ≡ 2 ^ 64 - 1 → new ≡ old → stays ≡ None → Lingers seen tried now ready old new stays
  -- nothing is there
  still : 0 < second_left old now → ready ≡ false → new ≡ old → stays ≡ Some false → Lingers seen tried now ready old new stays
  -- it was read
  drained : 0 < second_left old now → ready ≡ true → Drains seen tried old new stays → Lingers seen tried now ready old new stays
