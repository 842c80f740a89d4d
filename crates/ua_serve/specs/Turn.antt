-- A turn of one of the connections, and what that connection did since it got its place.
use Rattle.std.specs.Prelude.{◌≡◌, ℕ, ◌+◌, ◌-◌, ◌^◌, ◌<◌, ◌≤◌, ◌⊎◌, ℤ, pos, min, max, true, false, if◌then◌else◌, List, [], ◌∷◌, length, Option, Some, None, IfSome}
use Rattle.ua_disco.specs.Configuration.{Configuration}
use Rattle.ua_frame.specs.Streams.{moment_of}
use Rattle.ua_conn.specs.server.Site.{Site}
use Rattle.ua_conn.specs.declared.outcome.End.TheVariants.{LinkFailed, NoMemory}
use Rattle.ua_link.specs.Clock.{Answered}
use Rattle.ua_link.specs.Reads.{Cut, total, moment_of_read}
use Rattle.ua_link.specs.Turns.{Seen}
use Rattle.ua_link.specs.Reports.{cuts_with}
use Rattle.ua_link.specs.Connections.{Standing, Leaves, has_moved, is_read, is_due, begun_at, bytes_of, IsFed, Calls, FailedCalls}
use Rattle.ua_link.specs.declared.connection.ReadyTurn.{ReadyTurn}
use Rattle.ua_link.specs.declared.connection.Over.TheVariants.{Ended, TimedOut}
use Rattle.ua_link.specs.declared.ready_link.Call.{Call}
use Rattle.ua_serve.specs.declared.place.Place.{Place}

-- what contracts see of a link
abbrev pub seen_by : {L : Type 0} → (L → Option (List ℕ)) → (L → Option (List ℕ)) → (L → ℕ) → L → Seen
seen_by input output faults link = record { input = input link; output = output link; faults = faults link }

-- a count, which stands at 2^64 - 1 once there are more
abbrev pub counted : ℕ → ℕ
counted n = min n (2 ^ 64 - 1)

-- the server by which the connection with a place is answered
abbrev pub site_of : {L : Type 0} → Configuration → Place L → Site
site_of settings p = record { settings = settings; channel = p.id }

-- memory did not run out in a turn
abbrev pub IsRemembered : ReadyTurn → Type 0
IsRemembered turn = turn.over ≡ Some (Ended NoMemory) → ⊥

-- The connection with a place had a turn over its own link, by which `old` became `new`.
pub record HasTurn {L : Type 0} (seen : L → Seen) (tried : L → Option (List Call)) (settings : Configuration) (patience : ℕ) (asked asked' timed timed' : Option (List ℤ)) (old new : Place L) (turn : ReadyTurn) : Type 0 where
  pub id : new.id ≡ old.id
  -- the clocks, and the calls of the link
  pub asks : Answered asked asked' (moment_of_read turn.cut)
  pub times : Answered timed timed' (turn.moment ∷ [])
  pub cut : IfSome turn.cut (λ cut. (is_read old.connection ≡ true) × (cut.1 ≤ 4096))
  pub calls : (seen new.link).faults ≡ (seen old.link).faults → IsRemembered turn → Calls (is_read old.connection) (length new.connection.owed + turn.written) (tried old.link) (tried new.link)
  pub failed : (seen new.link).faults ≡ (seen old.link).faults + 1 → FailedCalls (is_read old.connection) (tried old.link) (tried new.link)
  -- what the server heard, and what waits
  pub fed : IsRemembered turn → old.connection.ending ≡ None → IsFed old.connection new.connection turn.cut
  pub waits : IsRemembered turn → new.connection.ending ≡ None → length new.connection.owed + turn.written ≤ 65536 → new.connection.waiting ≡ []
  -- patience
  pub begun : new.connection.begun ≡ old.connection.begun
  pub latest : new.connection.latest ≡ max old.connection.latest (moment_of turn.moment)
  pub active : turn.over ≡ None → new.connection.active ≡ (if has_moved turn.cut turn.written then new.connection.latest else old.connection.active)
  pub frame : turn.over ≡ None → new.connection.ending ≡ None → 0 < length new.connection.server.held.rest →
      new.connection.frame ≡ begun_at (length new.connection.server.held.rest) (length old.connection.waiting + bytes_of turn.cut - length new.connection.waiting) new.connection.latest old.connection.frame
  pub patient : turn.over ≡ None → is_due (record new.connection { active = old.connection.active }) (has_moved turn.cut turn.written) patience ≡ false
  pub impatient : turn.over ≡ Some TimedOut → is_due (record new.connection { active = old.connection.active }) (has_moved turn.cut turn.written) patience ≡ true
  -- what came and went in all
  pub read : new.read ≡ counted (old.read + bytes_of turn.cut)
  pub written : new.written ≡ counted (old.written + turn.written)
  -- what goes out, and how the connection is over, is that of its own reads, whatever they were
  pub leaves : (cuts : List Cut) (n : ℕ) (began : Seen) → Standing (site_of settings old) 65536 old.connection cuts n began (seen old.link)
      → Leaves (site_of settings old) 65536 new.connection (cuts_with turn.cut cuts) (n + turn.written) began (seen new.link) turn.over

-- Its link failed too often to count one failure more, and it is given up without a turn.
pub record IsGivenUp {L : Type 0} (seen : L → Seen) (asked asked' timed timed' : Option (List ℤ)) (old new : Place L) (turn : ReadyTurn) : Type 0 where
  pub faults : (seen old.link).faults ≡ 2 ^ 64 - 1
  pub asks : asked' ≡ asked
  pub times : timed' ≡ timed
  pub place : new ≡ old
  pub is : turn ≡ record { moment = pos 0; cut = None; written = 0; over = Some (Ended LinkFailed) }

abbrev pub Takes : {L : Type 0} → (L → Seen) → (L → Option (List Call)) → Configuration → ℕ → Option (List ℤ) → Option (List ℤ) → Option (List ℤ) → Option (List ℤ) → Place L → Place L → ReadyTurn → Type 0
Takes seen tried settings patience asked asked' timed timed' old new turn = HasTurn seen tried settings patience asked asked' timed timed' old new turn ⊎ IsGivenUp seen asked asked' timed timed' old new turn

-- All that the connection with a place did: what its link showed when it got the place, its reads, and how many bytes went
-- out, which are a beginning of the reply to those reads. Its counts are of these.
pub record Stands {L : Type 0} (seen : L → Seen) (settings : Configuration) (p : Place L) : Type 0 where
  pub began : Seen
  pub cuts : List Cut
  pub sent : ℕ
  pub standing : Standing (site_of settings p) 65536 p.connection cuts sent began (seen p.link)
  pub read : p.read ≡ counted (total cuts)
  pub written : p.written ≡ counted sent
