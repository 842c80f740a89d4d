-- A wait for what may do something.
use Rattle.std.specs.Prelude.{◌≡◌, ℕ, ◌≤◌, ℤ, Bool, true, max, if◌then◌else◌, List, [], ◌∷◌, length, Option, Some, None, slice_get}
use Rattle.ua_frame.specs.Streams.{moment_of}
use Rattle.ua_link.specs.Clock.{Answered}
use Rattle.ua_link.specs.Connections.{left_at}
use Rattle.ua_serve.specs.declared.place.Seat.{Seat}
use Rattle.ua_serve.specs.declared.place.Seat.TheVariants.{Free, Taken, Lingering}
use Rattle.ua_serve.specs.Places.{Crowd, is_ready}
use Rattle.ua_serve.specs.Admission.{may_accept, pause_left}
use Rattle.ua_serve.specs.Lingering.{second_left}
use Rattle.ua_serve.specs.Looks.{IsNoted}

-- there are as many entries, and each that was true is true
pub record Wakes (old new : List Bool) : Type 0 where
  pub as_many : length new ≡ length old
  pub kept : (k : ℕ) → slice_get old k ≡ Some true → slice_get new k ≡ Some true

-- a wait lasts no longer than these ticks, where none is as long as that takes
abbrev pub IsWithin : Option ℕ → ℕ → Type 0
IsWithin None ticks = ⊥
IsWithin (Some n) ticks = n ≤ ticks

-- The ticks after which what is at a place is to have a step though nothing becomes ready, if it is: none where its link may
-- do something now, else those for which there is patience with its client, or for which the link lingers; and at a free place those of the
-- pause, where somebody may be accepted.
abbrev pub due_from : {L : Type 0} → Crowd L → ℕ → Option (Seat L) → Option ℕ
due_from c place None = None
due_from c place (Some Free) = if may_accept c then Some (pause_left c) else None
due_from c place (Some (Lingering l)) = if is_ready c.ready place then Some 0 else Some (second_left l c.moment)
due_from c place (Some (Taken p)) = if is_ready c.ready place then Some 0 else Some (left_at p.connection (max p.connection.latest (moment_of c.moment)) c.patience)

abbrev pub due_in : {L : Type 0} → Crowd L → ℕ → Option ℕ
due_in c place = due_from c place (slice_get c.places place)

-- a place is to have a step after so many ticks
pub record IsDue {L : Type 0} (c : Crowd L) (ticks : ℕ) : Type 0 where
  pub place : ℕ
  pub due : due_in c place ≡ Some ticks

-- the least of the ticks after which a place is to have a step, and no limit where none is
pub record IsSoonest {L : Type 0} (c : Crowd L) (at_most : Option ℕ) : Type 0 where
  pub bound : (place ticks : ℕ) → due_in c place ≡ Some ticks → IsWithin at_most ticks
  pub one : (ticks : ℕ) → at_most ≡ Some ticks → IsDue c ticks

-- The steady clock was asked before the wait and behind it; the wait lasts until something is to be done at the longest; and
-- nothing but the moment and what may do something changed.
pub record Waits {L : Type 0} (timed timed' : Option (List ℤ)) (waited waited' : Option (List (Option ℕ))) (old new : Crowd L) : Type 0 where
  pub before : ℤ
  pub at_most : Option ℕ
  pub times : Answered timed timed' (before ∷ new.moment ∷ [])
  pub soonest : IsSoonest (record old { moment = before }) at_most
  pub waits : IsNoted waited waited' at_most
  pub wakes : Wakes old.ready new.ready
  pub others : new ≡ record old { ready = new.ready; moment = new.moment }
