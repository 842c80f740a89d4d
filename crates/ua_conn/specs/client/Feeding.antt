-- What each call does to a client, by the definitions of the whole.
use Rattle.std.specs.Prelude.{◌≡◌, ℕ, ◌≤◌, Bool, true, false, List, [], ◌∷◌, ◌++◌, Some, None, if◌then◌else◌}
use Rattle.ua_frame.specs.Streams.{Piece}
use Rattle.ua_service.specs.declared.request.Request.{Request}
use Rattle.ua_conn.specs.client.Asker.{Asker}
use Rattle.ua_conn.specs.client.Commands.{Act}
use Rattle.ua_conn.specs.client.Reading.{client_reading_of, matched}
use Rattle.ua_conn.specs.client.Sending.{Sent, sent_by, sent_after, sent_all, client_bytes}
use Rattle.ua_conn.specs.client.Held.{Event, Came, Told, Log, IsLog, commands_of, stream_of, fault_in, refused_in, ClientHeld, client_held, renews}
use Rattle.ua_conn.specs.declared.client.config.ClientConfig.{ClientConfig}
use Rattle.ua_conn.specs.declared.client.fault.ClientFault.{ClientFault}
use Rattle.ua_conn.specs.declared.client.fault.ClientFault.TheVariants.{NoMemory, Ended}
use Rattle.ua_conn.specs.declared.client.ask_fault.AskFault.{AskFault}
use Rattle.ua_conn.specs.declared.client.ask_fault.AskFault.TheVariants as refusals
use Rattle.ua_conn.specs.declared.client.answer.Answer.{Answer}

-- what contracts see of a client
pub record ClientShown : Type 0 where
  pub config : ClientConfig
  pub held : ClientHeld
  -- what is written and not sent yet
  pub output : List ℕ
  pub failed : Bool

-- All this may have happened to the client. What it named in its Hello and its first number count no more.
pub record Lived (a : Asker) (log : Log) (shown : ClientShown) : Type 0 where
  pub config : a.config ≡ shown.config
  pub first : 1 ≤ a.first_sequence
  pub accepted : IsLog a log
  pub fine : fault_in a log ≡ None
  pub held_is : client_held a log ≡ shown.held

-- ---- what is sent

abbrev pub bytes_of : Asker → Log → List ℕ
bytes_of a log = client_bytes a (commands_of log) (stream_of log)

abbrev pub answers_of : Asker → Log → List Answer
answers_of a log = matched a (commands_of log) (stream_of log)

abbrev pub sent_of : Asker → Log → List Sent
sent_of a log = sent_by a (commands_of log) (client_reading_of a (commands_of log) (stream_of log)).past

-- the output gains what the bytes of the client gain by one more event
pub record SendsMore (a : Asker) (log : Log) (e : Event) (out out' : List ℕ) : Type 0 where
  pub added : List ℕ
  pub out_is : out' ≡ out ++ added
  pub sent : bytes_of a (e ∷ log) ≡ bytes_of a log ++ added

-- after want of memory: whole frames that begin what the event adds
pub record SendsPart (a : Asker) (log : Log) (e : Event) (out out' : List ℕ) : Type 0 where
  pub gained : List Sent
  pub sent : sent_of a (e ∷ log) ≡ sent_of a log ++ gained
  pub said : List Sent
  pub left : List Sent
  pub begins : gained ≡ said ++ left
  pub out_is : out' ≡ out ++ sent_all a.first_sequence (sent_after 0 (sent_of a log)) said

-- ---- a piece

-- answers, where no row refuses a frame
pub record Hands (a : Asker) (log : Log) (x : Piece) (old new : ClientShown) (given : List Answer) : Type 0 where
  pub fine : fault_in a (Came x ∷ log) ≡ None
  pub answered : answers_of a (Came x ∷ log) ≡ answers_of a log ++ given
  pub sends : SendsMore a log (Came x) old.output new.output
  pub shows : new ≡ record old { held = client_held a (Came x ∷ log); output = new.output }

-- the fault of the first row at the least place where one holds
pub record Fails (a : Asker) (log : Log) (x : Piece) (old new : ClientShown) (fault : ClientFault) : Type 0 where
  pub fault_is : fault_in a (Came x ∷ log) ≡ Some fault
  pub sends : SendsMore a log (Came x) old.output new.output
  pub failed : new.failed ≡ true

abbrev pub FailsBy : Asker → Log → Piece → ClientShown → ClientShown → ClientFault → Type 0
FailsBy a log x old new NoMemory = SendsPart a log (Came x) old.output new.output × (new.failed ≡ true)
FailsBy a log x old new Ended = ⊥
FailsBy a log x old new fault = Fails a log x old new fault

-- whatever happened to a client that holds this
abbrev pub HandsAll : ClientShown → Piece → ClientShown → List Answer → Type 0
HandsAll old x new given = (a : Asker) (log : Log) → Lived a log old → Hands a log x old new given

abbrev pub FailsAll : ClientShown → Piece → ClientShown → ClientFault → Type 0
FailsAll old x new fault = (a : Asker) (log : Log) → Lived a log old → FailsBy a log x old new fault

-- ---- a command

-- It was accepted: its frames are behind the output, and the client shows what is held then.
pub record Accepts (a : Asker) (log : Log) (now : ℕ) (act : Act) (old new : ClientShown) : Type 0 where
  pub fine : refused_in a log act ≡ None
  pub sends : SendsMore a log (Told now act) old.output new.output
  pub shows : new ≡ record old { held = client_held a (Told now act ∷ log); output = new.output }

abbrev pub AcceptsAll : ClientShown → ℕ → Act → ClientShown → Type 0
AcceptsAll old now act new = (old.failed ≡ false) × ((a : Asker) (log : Log) → Lived a log old → Accepts a log now act old new)

-- the reason holds, and no earlier one
abbrev pub RefusedBy : ClientShown → Act → AskFault → Type 0
RefusedBy old act refusals.NoMemory = old.failed ≡ false
RefusedBy old act refusals.Ended = old.failed ≡ true
RefusedBy old act fault = (old.failed ≡ false) × ((a : Asker) (log : Log) → Lived a log old → refused_in a log act ≡ Some fault)

-- ---- readers

-- none of a failed client
abbrev pub pending_of : ClientShown → List (ℕ × Request)
pending_of shown = if shown.failed then [] else shown.held.pending

abbrev pub is_renewal_due : ClientShown → ℕ → Bool
is_renewal_due shown now = if shown.failed then false else renews shown.held now
