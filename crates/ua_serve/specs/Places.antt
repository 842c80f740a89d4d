-- The places of the connections that a server has at once, as contracts see them.
use Rattle.std.specs.Prelude.{◌≡◌, ℕ, ◌<◌, ◌≤◌, ℤ, Bool, false, List, Some, slice_get, unwrap_or}
use Rattle.ua_disco.specs.Configuration.{Configuration}
use Rattle.ua_serve.specs.declared.place.Place.{Place}
use Rattle.ua_serve.specs.declared.place.Seat.{Seat}
use Rattle.ua_serve.specs.declared.place.Seat.TheVariants.{Taken}

-- what contracts see of the connections
pub record Crowd (L : Type 0) : Type 0 where
  -- those by which they are served
  pub settings : Configuration
  -- the places: those that are free, and at the others connections, or links of such as are over
  pub places : List (Seat L)
  -- which of them may do something, and behind them whether somebody may wait in the listener
  pub ready : List Bool
  -- the ticks for which a client may be quiet
  pub patience : ℕ
  -- how many connections are still to be accepted, and the id of the last one that was
  pub left : ℕ
  pub last : ℕ
  -- the moment of the last wait, and the one until which nobody is accepted
  pub moment : ℤ
  pub shut : ℤ
  -- how often accepting failed, and how often since it last did not
  pub failed : ℕ
  pub in_a_row : ℕ

-- whether the link with a place may do something, or the listener at the number behind the places
abbrev pub is_ready : List Bool → ℕ → Bool
is_ready ready place = unwrap_or (slice_get ready place) false

-- this connection has this place
abbrev pub HasPlace : {L : Type 0} → Crowd L → ℕ → Place L → Type 0
HasPlace c k p = slice_get c.places k ≡ Some (Taken p)

-- all ids are of connections that were accepted, and no two connections have the same
pub record AreNumbered {L : Type 0} (c : Crowd L) : Type 0 where
  pub positive : (k : ℕ) (p : Place L) → HasPlace c k p → 0 < p.id
  pub accepted : (k : ℕ) (p : Place L) → HasPlace c k p → p.id ≤ c.last
  pub different : (j k : ℕ) (p q : Place L) → HasPlace c j p → HasPlace c k q → p.id ≡ q.id → j ≡ k
