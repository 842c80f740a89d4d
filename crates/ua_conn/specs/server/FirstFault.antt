-- The reading in plain words: the least place at which a row of the table holds, or a CLO stands.
use Rattle.std.specs.Prelude.{◌≡◌, ℕ, true, false, List, [], ◌∷◌, ◌++◌, Some, None}
use Rattle.ua_frame.specs.Layout.{Frame, kind_of}
use Rattle.ua_conn.specs.server.Site.{Site}
use Rattle.ua_conn.specs.Past.{Past, known, is_close}
use Rattle.ua_conn.specs.server.Faults.{fault_at, fault_in_rest}
use Rattle.ua_conn.specs.server.Replies.{ended, Reading, reading}
use Rattle.ua_conn.specs.server.Held.{newest_first}
use Rattle.ua_conn.specs.declared.outcome.End.TheVariants.{Closed, Refused}

-- at each of these places no row holds, and no CLO stands
abbrev pub GoOn : Site → Past → List Frame → Type 0
GoOn site past [] = Unit {0}
GoOn site past (f ∷ fs) = (fault_at site (known site past) f ≡ None) × (is_close (kind_of f.bytes) ≡ false) × GoOn site (f ∷ past) fs

-- what comes at the place behind `past`
pub data Stops (site : Site) (past : Past) (rest : List ℕ) (R : Reading) : List Frame → Type 0 where
  at_fault : (f : Frame) (more : List Frame) (status : ℕ) → fault_at site (known site past) f ≡ Some status → R ≡ record { past = past; ending = Refused status } → Stops site past rest R (f ∷ more)
  at_close : (f : Frame) (more : List Frame) → fault_at site (known site past) f ≡ None → is_close (kind_of f.bytes) ≡ true → R ≡ record { past = f ∷ past; ending = Closed } → Stops site past rest R (f ∷ more)
  at_rest : R ≡ record { past = past; ending = ended (fault_in_rest (known site past) rest) rest } → Stops site past rest R []

pub record First (site : Site) (past : Past) (fs : List Frame) (rest : List ℕ) (R : Reading) : Type 0 where
  pub before : List Frame
  pub left : List Frame
  pub split : fs ≡ before ++ left
  pub go_on : GoOn site past before
  pub stops : Stops site (newest_first before past) rest R left

-- A reading stops at the least place where a row of the table holds or a CLO stands.
abbrev pub StopsFirst : Type 0
StopsFirst = (site : Site) (fs : List Frame) (rest : List ℕ) → First site [] fs rest (reading site [] fs rest)
