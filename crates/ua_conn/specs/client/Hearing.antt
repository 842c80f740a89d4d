-- What the bytes that a client has, all come at one moment, do to it.
use Rattle.std.specs.Prelude.{◌≡◌, ℕ, List, ◌++◌, map, Bool, true, false, Some, None, Result, Ok, Err}
use Rattle.ua_frame.specs.Streams.{at, plain, size_of, rest_of}
use Rattle.ua_conn.specs.server.Feeding.{BeginsFrame, BeginsNoFrame, first_frame}
use Rattle.ua_conn.specs.client.Faults.{client_fault_in_rest}
use Rattle.ua_conn.specs.client.Sending.{Sent}
use Rattle.ua_conn.specs.client.Machine.{Awaiting, ClientRun, awaiting_fault, client_run_on, sent_next, next_sent}
use Rattle.ua_conn.specs.client.Taking.{ClientRunning}
use Rattle.ua_conn.specs.client.Effects.{Given, Stands, asker_with}
use Rattle.ua_conn.specs.declared.client.config.ClientConfig.{ClientConfig}
use Rattle.ua_conn.specs.declared.client.answer.Answer.{Answer}
use Rattle.ua_conn.specs.declared.client.fault.ClientFault.{ClientFault}
use Rattle.ua_conn.specs.declared.client.fault.ClientFault.TheVariants.{NoMemory, Ended}

-- ---- what stands at the front

-- A row refuses the frame at the front, or the header where no whole frame is.
pub data IsRefused (config : ClientConfig) (w : Awaiting) (now : ℕ) (bytes : List ℕ) (fault : ClientFault) : Type 0 where
  by_header : client_fault_in_rest w.known bytes ≡ Some fault → IsRefused config w now bytes fault
  by_frame : (n : ℕ) → BeginsFrame n bytes → awaiting_fault (asker_with config) w (first_frame now n bytes) ≡ Some fault → IsRefused config w now bytes fault

abbrev pub RefusedAs : ClientRunning → ℕ → List ℕ → ClientFault → Type 0
RefusedAs old now bytes NoMemory = Unit {0}
RefusedAs old now bytes Ended = ⊥
RefusedAs old now bytes fault = IsRefused old.config old.waits now bytes fault

-- what the front of the bytes did: nothing, where it waits for more, or a frame was taken
abbrev pub Steps : ClientRunning → ClientRunning → ℕ → List ℕ → Given → Given → Result Bool ClientFault → Type 0
Steps old new now bytes had has (Ok false) = BeginsNoFrame bytes × (client_fault_in_rest old.waits.known bytes ≡ None) × (new ≡ old) × (has ≡ had)
Steps old new now bytes had has (Ok true) = BeginsFrame (size_of bytes) bytes × Stands old new (first_frame now (size_of bytes) bytes) had has
Steps old new now bytes had has (Err fault) = RefusedAs old now bytes fault × (has.bytes ≡ had.bytes)

-- ---- all of the bytes

abbrev pub brought : ClientRunning → ℕ → List ℕ → ClientRun
brought r now bytes = client_run_on (asker_with r.config) r.waits now bytes

-- no row refuses one of their frames; and what is left of them
pub record Hears (old new : ClientRunning) (now : ℕ) (bytes : List ℕ) (had has : Given) (left : List ℕ) : Type 0 where
  pub fine : (brought old now bytes).fault ≡ None
  pub said : has.bytes ≡ had.bytes ++ sent_next old.next (brought old now bytes).says
  pub given : has.answers ≡ had.answers ++ (brought old now bytes).answers
  pub config : new.config ≡ old.config
  pub waits : new.waits ≡ (brought old now bytes).after
  pub number : new.next ≡ next_sent old.next (brought old now bytes).says
  pub rest : left ≡ plain (rest_of (map (at now) bytes))

-- new is old with whole frames at its end, which begin what is said; next is the number of the first that has one
pub record SaysPart (next : ℕ) (says : List Sent) (old new : List ℕ) : Type 0 where
  pub said : List Sent
  pub left : List Sent
  pub begins : says ≡ said ++ left
  pub added : new ≡ old ++ sent_next next said

-- the fault, and what the frames before it ask for
pub record Breaks (old : ClientRunning) (now : ℕ) (bytes : List ℕ) (had has : List ℕ) (fault : ClientFault) : Type 0 where
  pub fault_is : (brought old now bytes).fault ≡ Some fault
  pub said : has ≡ had ++ sent_next old.next (brought old now bytes).says

abbrev pub BreaksBy : ClientRunning → ℕ → List ℕ → List ℕ → List ℕ → ClientFault → Type 0
BreaksBy old now bytes had has NoMemory = SaysPart old.next (brought old now bytes).says had has
BreaksBy old now bytes had has Ended = ⊥
BreaksBy old now bytes had has fault = Breaks old now bytes had has fault

-- these bytes are left, and bring what is left of all that the bytes bring together
pub record Hearing (old new : ClientRunning) (now : ℕ) (bytes : List ℕ) (had has : Given) (left : List ℕ) : Type 0 where
  pub said : List Sent
  pub hands : List Answer
  pub brings : (brought old now bytes).says ≡ said ++ (brought new now left).says
  pub answers : (brought old now bytes).answers ≡ hands ++ (brought new now left).answers
  pub added : has.bytes ≡ had.bytes ++ sent_next old.next said
  pub given : has.answers ≡ had.answers ++ hands
  pub fault_is : (brought old now bytes).fault ≡ (brought new now left).fault
  pub after_is : (brought old now bytes).after ≡ (brought new now left).after
  pub config : new.config ≡ old.config
  pub number : new.next ≡ next_sent old.next said
  pub rest : plain (rest_of (map (at now) bytes)) ≡ plain (rest_of (map (at now) left))
