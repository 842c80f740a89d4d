-- Who is accepted, and when.
use Rattle.std.specs.Prelude.{◌≡◌, ℕ, ◌+◌, ◌-◌, ◌^◌, ◌==◌, ◌&&◌, ℤ, pos, negsuc, ◌+ℤ◌, ◌-ℤ◌, min, Bool, true, false, nat_lt, nat_le, if◌then◌else◌, List, [], ◌∷◌, length, Option, None, slice_set}
use Rattle.std.specs.Int.{w64, saturate_signed}
use Rattle.ua_disco.specs.Configuration.{Configuration}
use Rattle.ua_frame.specs.Streams.{moment_of}
use Rattle.ua_conn.specs.server.Site.{Site}
use Rattle.ua_conn.specs.server.Held.{held}
use Rattle.ua_conn.specs.declared.outcome.End.TheVariants.{NoMemory}
use Rattle.ua_link.specs.Clock.{Answered}
use Rattle.ua_link.specs.Turns.{Seen}
use Rattle.ua_link.specs.Connections.{Shown, Standing}
use Rattle.ua_link.specs.declared.connection.Over.TheVariants.{Ended}
use Rattle.ua_serve.specs.declared.place.Place.{Place}
use Rattle.ua_serve.specs.declared.place.Step.{Step}
use Rattle.ua_serve.specs.declared.place.Step.TheVariants.{Quiet, Parted, NotAccepted, Failed}
use Rattle.ua_serve.specs.declared.place.Seat.TheVariants.{Taken}
use Rattle.ua_serve.specs.Places.{Crowd, is_ready}
use Rattle.ua_serve.specs.Looks.{IsNoted, Look, a_link, nobody_there, no_socket, a_failure}

-- ticks that are no more than half a second, and 0 for others
abbrev pub ticks_of : ℤ → ℕ
ticks_of (pos n) = if nat_le n 5000000 then n else 0
ticks_of (negsuc n) = 0

-- The ticks for which nobody is accepted yet: those up to the end of the pause. A clock that went back makes them no more.
abbrev pub pause_left : {L : Type 0} → Crowd L → ℕ
pause_left c = ticks_of (c.shut -ℤ c.moment)

-- some connection is still to be accepted, and somebody may wait in the listener
abbrev pub may_accept : {L : Type 0} → Crowd L → Bool
may_accept c = nat_lt 0 c.left && is_ready c.ready (length c.places)

-- and the pause is over
abbrev pub can_accept : {L : Type 0} → Crowd L → Bool
can_accept c = may_accept c && (pause_left c == 0)

-- behind one connection more
abbrev pub with_one : {L : Type 0} → Crowd L → Crowd L
with_one c = record c { left = c.left - 1; last = c.last + 1; in_a_row = 0 }

-- a pause: nobody is accepted for half a second
abbrev pub with_pause : {L : Type 0} → Crowd L → Crowd L
with_pause c = record c { shut = saturate_signed w64 (c.moment +ℤ pos 5000000) }

-- behind one failure more, which a pause follows
abbrev pub with_failure : {L : Type 0} → Crowd L → Crowd L
with_failure c = record c { failed = min (c.failed + 1) (2 ^ 64 - 1); in_a_row = min (c.in_a_row + 1) (2 ^ 32 - 1); shut = saturate_signed w64 (c.moment +ℤ pos 5000000) }

-- a connection that begins at a moment, which was told nothing and owes nothing
abbrev pub new_connection : Configuration → ℕ → ℤ → Shown
new_connection settings id now = let site : Site = record { settings = settings; channel = id } in
    record { server = record { site = site; held = held site []; failed = false }; waiting = []; came = pos 0; owed = []; ending = None; left = 65536; begun = moment_of now; latest = moment_of now; active = moment_of now; frame = moment_of now }

-- its place
abbrev pub new_place : {L : Type 0} → Crowd L → L → ℤ → Place L
new_place c link now = record { id = c.last + 1; link = link; connection = new_connection c.settings (c.last + 1) now; read = 0; written = 0 }

-- it stands, and did nothing yet
abbrev pub IsFresh : {L : Type 0} → Crowd L → ℤ → Type 0
IsFresh c now = (s : Seen) → Standing (record { settings = c.settings; channel = c.last + 1 }) 65536 (new_connection c.settings (c.last + 1) now) [] 0 s s

abbrev pub with_place : {L : Type 0} → Crowd L → ℕ → Place L → Crowd L
with_place c place p = record c { places = slice_set c.places place (Taken p); ready = slice_set c.ready place true }

-- what is told of a failure: how many there were, and the hundredth in a row ends all
abbrev pub told_failure : {L : Type 0} → Crowd L → Step
told_failure c = if nat_lt c.in_a_row 100 then NotAccepted c.failed else Failed

-- What the next connection came to: it gets the place, or there is no memory for it, which ends it alone.
abbrev pub Begins : {L : Type 0} → Crowd L → Crowd L → L → ℤ → ℕ → Step → Type 0
Begins old new link now place Quiet = (new ≡ with_place (with_one old) place (new_place old link now)) × IsFresh old now
Begins old new link now place (Parted parted) = (new ≡ with_one old) × (parted ≡ record { id = old.last + 1; over = Ended NoMemory; read = 0; written = 0 })
Begins old new link now place (NotAccepted n) = ⊥
Begins old new link now place Failed = ⊥

-- What a free place came to, by what came of looking for the next connection.
pub data Admits {L : Type 0} (asked asked' timed timed' : Option (List ℤ)) (sought sought' : Option (List Look)) (old new : Crowd L) (place : ℕ) (step : Step) : Type 0 where
  -- nobody is accepted now, and nobody looked for
  shut : can_accept old ≡ false → asked' ≡ asked → timed' ≡ timed → sought' ≡ sought → new ≡ old → step ≡ Quiet → Admits asked asked' timed timed' sought sought' old new place step
  -- nobody waits
  nobody : can_accept old ≡ true → asked' ≡ asked → timed' ≡ timed → IsNoted sought sought' (place, nobody_there) → new ≡ record old { ready = slice_set old.ready (length old.places) false } → step ≡ Quiet →
      Admits asked asked' timed timed' sought sought' old new place step
  -- The system has no socket to give: that is no failure of the listener, and is tried again after a pause.
  wanting : can_accept old ≡ true → asked' ≡ asked → timed' ≡ timed → IsNoted sought sought' (place, no_socket) → new ≡ with_pause old → step ≡ Quiet → Admits asked asked' timed timed' sought sought' old new place step
  -- accepting failed
  failed : can_accept old ≡ true → asked' ≡ asked → timed' ≡ timed → IsNoted sought sought' (place, a_failure) → new ≡ with_failure old → step ≡ told_failure (with_failure old) →
      Admits asked asked' timed timed' sought sought' old new place step
  -- the next connection was accepted
  begun : can_accept old ≡ true → IsNoted sought sought' (place, a_link) → asked' ≡ asked → (l : L) (now : ℤ) → Answered timed timed' (now ∷ []) → Begins old new l now place step →
      Admits asked asked' timed timed' sought sought' old new place step
