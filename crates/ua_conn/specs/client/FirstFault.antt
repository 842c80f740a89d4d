-- A client's reading in plain words: the least place at which a row of its table holds; and what stays once one did.
use Rattle.std.specs.Prelude.{◌≡◌, ℕ, List, [], ◌∷◌, ◌++◌, Some, None}
use Rattle.ua_frame.specs.Streams.{TimedByte}
use Rattle.ua_frame.specs.Layout.{Frame}
use Rattle.ua_conn.specs.Past.{Past}
use Rattle.ua_conn.specs.server.Held.{newest_first}
use Rattle.ua_conn.specs.client.Asker.{Asker}
use Rattle.ua_conn.specs.client.Commands.{Act, Commands}
use Rattle.ua_conn.specs.client.Past.{client_known}
use Rattle.ua_conn.specs.client.Faults.{client_fault_in_rest}
use Rattle.ua_conn.specs.client.Reading.{ClientReading, client_fault_at, client_reading, client_fault, matched}
use Rattle.ua_conn.specs.client.Sending.{client_bytes}
use Rattle.ua_conn.specs.client.Asking.{ask_fault}
use Rattle.ua_conn.specs.declared.client.fault.ClientFault.{ClientFault}
use Rattle.ua_conn.specs.declared.client.ask_fault.AskFault.TheVariants.{Ended}

-- at each of these places no row holds
abbrev pub ClientGoesOn : Asker → Commands → Past → List Frame → Type 0
ClientGoesOn a cmds past [] = Unit {0}
ClientGoesOn a cmds past (f ∷ fs) = (client_fault_at a cmds past f ≡ None) × ClientGoesOn a cmds (f ∷ past) fs

-- what comes at the place behind `past`
pub data ClientStops (a : Asker) (cmds : Commands) (past : Past) (rest : List ℕ) (R : ClientReading) : List Frame → Type 0 where
  at_fault : (f : Frame) (more : List Frame) (fault : ClientFault) → client_fault_at a cmds past f ≡ Some fault → R ≡ record { past = past; fault = Some fault } → ClientStops a cmds past rest R (f ∷ more)
  at_rest : R ≡ record { past = past; fault = client_fault_in_rest (client_known past) rest } → ClientStops a cmds past rest R []

pub record ClientFirst (a : Asker) (cmds : Commands) (past : Past) (fs : List Frame) (rest : List ℕ) (R : ClientReading) : Type 0 where
  pub before : List Frame
  pub left : List Frame
  pub split : fs ≡ before ++ left
  pub go_on : ClientGoesOn a cmds past before
  pub stops : ClientStops a cmds (newest_first before past) rest R left

-- A client's reading stops at the least place where a row of its table holds.
abbrev pub ClientStopsFirst : Type 0
ClientStopsFirst = (a : Asker) (cmds : Commands) (fs : List Frame) (rest : List ℕ) → ClientFirst a cmds [] fs rest (client_reading a cmds [] fs rest)

-- once a client has met a fault, what comes later changes nothing, and no command is accepted
abbrev pub ClientStaysStopped : Type 0
ClientStaysStopped = (a : Asker) (cmds : Commands) (s t : List TimedByte) (fault : ClientFault) → client_fault a cmds s ≡ Some fault →
    (client_fault a cmds (s ++ t) ≡ Some fault)
    × (matched a cmds (s ++ t) ≡ matched a cmds s)
    × (client_bytes a cmds (s ++ t) ≡ client_bytes a cmds s)
    × ((act : Act) → ask_fault a cmds (s ++ t) act ≡ Some Ended)
