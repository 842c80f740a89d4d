-- One step of the connections: what the place with a number came to.
use Rattle.std.specs.Prelude.{◌≡◌, ℕ, ◌+◌, ◌-◌, ◌^◌, ◌==◌, ◌&&◌, ◌||◌, ◌⊎◌, ℤ, max, Bool, true, false, List, Option, Some, None, unwrap_or, slice_get, slice_set}
use Rattle.ua_disco.specs.Configuration.{Configuration}
use Rattle.ua_frame.specs.Streams.{moment_of}
use Rattle.ua_conn.specs.declared.outcome.End.TheVariants.{NoMemory, LinkFailed}
use Rattle.ua_link.specs.Reads.{Cut, total}
use Rattle.ua_link.specs.Turns.{Seen}
use Rattle.ua_link.specs.Connections.{Shown, Standing, Leaves, has_moved, left_at}
use Rattle.ua_link.specs.declared.connection.Over.{Over}
use Rattle.ua_link.specs.declared.connection.Over.TheVariants.{Ended}
use Rattle.ua_link.specs.declared.connection.ReadyTurn.{ReadyTurn}
use Rattle.ua_link.specs.declared.ready_link.Call.{Call}
use Rattle.ua_serve.specs.declared.lingering.LingeringLink.{LingeringLink}
use Rattle.ua_serve.specs.declared.place.Place.{Place}
use Rattle.ua_serve.specs.declared.place.Seat.{Seat}
use Rattle.ua_serve.specs.declared.place.Seat.TheVariants.{Free, Taken, Lingering}
use Rattle.ua_serve.specs.declared.place.Parted.{Parted as Parting}
use Rattle.ua_serve.specs.declared.place.Step.{Step}
use Rattle.ua_serve.specs.declared.place.Step.TheVariants.{Quiet, Parted}
use Rattle.ua_serve.specs.Places.{Crowd, HasPlace, is_ready}
use Rattle.ua_serve.specs.Looks.{Look}
use Rattle.ua_serve.specs.Turn.{Takes, Stands, counted}
use Rattle.ua_serve.specs.Lingering.{lingers, from_now, Lingers}
use Rattle.ua_serve.specs.Admission.{Admits, can_accept}

-- Whether a connection is given a turn at a moment: its link may do something, or patience with its client is at its end.
abbrev pub is_due : {L : Type 0} → Seat L → Bool → ℤ → ℕ → Bool
is_due Free ready moment patience = false
is_due (Lingering l) ready moment patience = false
is_due (Taken p) ready moment patience = ready || (left_at p.connection (max p.connection.latest (moment_of moment)) patience == 0)

-- whether one at a place is
abbrev pub is_due_at : {L : Type 0} → Crowd L → ℕ → Place L → Bool
is_due_at c place p = is_due (Taken p) (is_ready c.ready place) c.moment c.patience

-- What has the place of a connection that is over, from a moment on: its link, where that lingers, or nothing.
pub data Ends {L : Type 0} (seen : L → Seen) (tried : L → Option (List Call)) (moment : ℤ) (p : Place L) (over : Over) (seat : Seat L) : Type 0 where
  lingering : lingers over ≡ true → (link : L) → seen link ≡ seen p.link → tried link ≡ tried p.link → seat ≡ Lingering (from_now link moment) → Ends seen tried moment p over seat
  freed : lingers over ≡ false → seat ≡ Free → Ends seen tried moment p over seat

-- a connection keeps its place, unless it is over
abbrev pub Keeps : {L : Type 0} → (L → Seen) → (L → Option (List Call)) → ℤ → Place L → Option Over → Seat L → Type 0
Keeps seen tried moment p None seat = seat ≡ Taken p
Keeps seen tried moment p (Some over) seat = Ends seen tried moment p over seat

-- a further step is due at once where some byte came or went, and of a connection that is over where its link lingers
abbrev pub moves : Bool → Option Over → Bool
moves moved None = moved
moves moved (Some over) = lingers over

-- a place behind a step, and whether a further one is due there at once
abbrev pub with_seat : {L : Type 0} → Crowd L → ℕ → Seat L → Bool → Crowd L
with_seat c place seat ready = record c { places = slice_set c.places place seat; ready = slice_set c.ready place ready }

-- what is told of a connection behind its turn
abbrev pub told_of : {L : Type 0} → Place L → Option Over → Step
told_of p None = Quiet
told_of p (Some over) = Parted (record { id = p.id; over = over; read = p.read; written = p.written })

-- What the connection with a place made of that place, and what is told.
pub record Moves {L : Type 0} (seen : L → Seen) (tried : L → Option (List Call)) (settings : Configuration) (patience : ℕ) (moment : ℤ) (asked asked' timed timed' : Option (List ℤ)) (p : Place L) (seat : Seat L) (ready : Bool) (step : Step) : Type 0 where
  pub now : Place L
  pub turn : ReadyTurn
  pub takes : Takes seen tried settings patience asked asked' timed timed' p now turn
  pub keeps : Keeps seen tried moment now turn.over seat
  pub moves : ready ≡ moves (has_moved turn.cut turn.written) turn.over
  pub told : step ≡ told_of now turn.over

-- The connection with a place was due, and had a turn.
pub record Turns {L : Type 0} (seen : L → Seen) (tried : L → Option (List Call)) (asked asked' timed timed' : Option (List ℤ)) (old new : Crowd L) (place : ℕ) (p : Place L) (step : Step) : Type 0 where
  pub due : is_due_at old place p ≡ true
  pub seat : Seat L
  pub ready : Bool
  pub moves : Moves seen tried old.settings old.patience old.moment asked asked' timed timed' p seat ready step
  pub after : new ≡ with_seat old place seat ready

-- It was not.
pub record Rests {L : Type 0} (asked asked' timed timed' : Option (List ℤ)) (old new : Crowd L) (place : ℕ) (p : Place L) (step : Step) : Type 0 where
  pub due : is_due_at old place p ≡ false
  pub asks : asked' ≡ asked
  pub times : timed' ≡ timed
  pub same : new ≡ old
  pub quiet : step ≡ Quiet

abbrev pub GoesOn : {L : Type 0} → (L → Seen) → (L → Option (List Call)) → Option (List ℤ) → Option (List ℤ) → Option (List ℤ) → Option (List ℤ) → Crowd L → Crowd L → ℕ → Place L → Step → Type 0
GoesOn seen tried asked asked' timed timed' old new place p step = Turns seen tried asked asked' timed timed' old new place p step ⊎ Rests asked asked' timed timed' old new place p step

-- a link lingers on, unless it is let go of
abbrev pub seat_of : {L : Type 0} → LingeringLink L → Option Bool → Seat L
seat_of l None = Free
seat_of l (Some more) = Lingering l

-- What a link that lingers made of its place, and whether a further step is due there at once.
pub record Lasts {L : Type 0} (seen : L → Seen) (tried : L → Option (List Call)) (moment : ℤ) (was : Bool) (l : LingeringLink L) (seat : Seat L) (ready : Bool) : Type 0 where
  pub now : LingeringLink L
  pub stays : Option Bool
  pub lingers : Lingers seen tried moment was l now stays
  pub keeps : seat ≡ seat_of now stays
  pub more : ready ≡ unwrap_or stays false

-- The link that lingers at a place had a step.
pub record Fades {L : Type 0} (seen : L → Seen) (tried : L → Option (List Call)) (asked asked' timed timed' : Option (List ℤ)) (old new : Crowd L) (place : ℕ) (l : LingeringLink L) (step : Step) : Type 0 where
  pub asks : asked' ≡ asked
  pub times : timed' ≡ timed
  pub seat : Seat L
  pub ready : Bool
  pub lasts : Lasts seen tried old.moment (is_ready old.ready place) l seat ready
  pub after : new ≡ with_seat old place seat ready
  pub quiet : step ≡ Quiet

-- there is no such place
pub record IsNothing {L : Type 0} (asked asked' timed timed' : Option (List ℤ)) (old new : Crowd L) (step : Step) : Type 0 where
  pub asks : asked' ≡ asked
  pub times : timed' ≡ timed
  pub same : new ≡ old
  pub quiet : step ≡ Quiet

-- what a place came to where this was there
abbrev pub StepsFrom : {L : Type 0} → Option (Seat L) → (L → Seen) → (L → Option (List Call)) → Option (List ℤ) → Option (List ℤ) → Option (List ℤ) → Option (List ℤ) → Option (List Look) → Option (List Look) → Crowd L → Crowd L → ℕ → Step → Type 0
StepsFrom None seen tried asked asked' timed timed' sought sought' old new place step = IsNothing asked asked' timed timed' old new step
StepsFrom (Some Free) seen tried asked asked' timed timed' sought sought' old new place step = Admits asked asked' timed timed' sought sought' old new place step
StepsFrom (Some (Taken p)) seen tried asked asked' timed timed' sought sought' old new place step = GoesOn seen tried asked asked' timed timed' old new place p step
StepsFrom (Some (Lingering l)) seen tried asked asked' timed timed' sought sought' old new place step = Fades seen tried asked asked' timed timed' old new place l step

abbrev pub Steps : {L : Type 0} → (L → Seen) → (L → Option (List Call)) → Option (List ℤ) → Option (List ℤ) → Option (List ℤ) → Option (List ℤ) → Option (List Look) → Option (List Look) → Crowd L → Crowd L → ℕ → Step → Type 0
Steps seen tried asked asked' timed timed' sought sought' old new place step = StepsFrom (slice_get old.places place) seen tried asked asked' timed timed' sought sought' old new place step

abbrev pub is_free : {L : Type 0} → Option (Seat L) → Bool
is_free None = false
is_free (Some Free) = true
is_free (Some (Taken p)) = false
is_free (Some (Lingering l)) = false

-- whether a connection is looked for at a place: it is free, and somebody can be accepted
abbrev pub seeks : {L : Type 0} → Crowd L → ℕ → Bool
seeks c place = is_free (slice_get c.places place) && can_accept c

-- All connections at the places stand: what went out over the link of each is a beginning of the reply to what it read
-- itself.
module _ {L : Type 0} where
  abbrev pub AllStand : (L → Seen) → Crowd L → Type 0
  AllStand seen c = (k : ℕ) (p : Place L) → HasPlace c k p → Stands seen c.settings p

-- What is told of a connection that had a place: its id, all that it did, up to its end, and the counts of that.
pub record IsOver {L : Type 0} (seen : L → Seen) (settings : Configuration) (p : Place L) (parted : Parting) : Type 0 where
  pub id : parted.id ≡ p.id
  pub began : Seen
  pub cuts : List Cut
  pub sent : ℕ
  pub after : Seen
  pub shown : Shown
  pub ended : Leaves (record { settings = settings; channel = p.id }) 65536 shown cuts sent began after (Some parted.over)
      ⊎ ((parted.over ≡ Ended LinkFailed) × Standing (record { settings = settings; channel = p.id }) 65536 shown cuts sent began after × (after.faults ≡ 2 ^ 64 - 1))
  pub read : parted.read ≡ counted (total cuts)
  pub written : parted.written ≡ counted sent

-- The next connection was accepted, and there was no memory for it.
abbrev pub IsStarved : {L : Type 0} → Crowd L → Parting → Type 0
IsStarved c parted = parted ≡ record { id = c.last + 1; over = Ended NoMemory; read = 0; written = 0 }

-- what a step tells of a connection that is over, at what was there
abbrev pub IsToldFrom : {L : Type 0} → Option (Seat L) → (L → Seen) → Crowd L → Step → Type 0
IsToldFrom None seen c (Parted parted) = ⊥
IsToldFrom (Some Free) seen c (Parted parted) = IsStarved c parted
IsToldFrom (Some (Taken p)) seen c (Parted parted) = IsOver seen c.settings p parted
IsToldFrom (Some (Lingering l)) seen c (Parted parted) = ⊥
IsToldFrom there seen c step = Unit {0}

abbrev pub IsTold : {L : Type 0} → (L → Seen) → Crowd L → ℕ → Step → Type 0
IsTold seen c place step = IsToldFrom (slice_get c.places place) seen c step
