-- What a client that has not failed holds of all that happened to it, and the law that nothing else of it counts.
use Rattle.std.specs.Prelude.{◌≡◌, ℕ, ◌≤◌, max, Bool, ◌&&◌, not, List, [], ◌∷◌, ◌++◌, map, length, Option, None}
use Rattle.ua_frame.specs.Streams.{Piece, TimedByte, at, plain, rest_of}
use Rattle.ua_chunk.specs.Numbers.{number_after}
use Rattle.ua_channel.specs.ClientChannel.{renewal_due}
use Rattle.ua_service.specs.declared.request.Request.{Request}
use Rattle.ua_conn.specs.Past.{Past}
use Rattle.ua_conn.specs.client.Past.{ClientKnown, client_known, awaits_reverse}
use Rattle.ua_conn.specs.client.Asker.{Asker}
use Rattle.ua_conn.specs.client.Commands.{Act, Commands, next_id, is_closed}
use Rattle.ua_conn.specs.client.Pending.{pending_in, due_in}
use Rattle.ua_conn.specs.client.Reading.{client_reading_of, client_fault, matched}
use Rattle.ua_conn.specs.client.Sending.{sent_by, sent_after, client_bytes}
use Rattle.ua_conn.specs.client.Asking.{Standing, standing_by, refusal, ask_fault}
use Rattle.ua_conn.specs.declared.client.fault.ClientFault.{ClientFault}
use Rattle.ua_conn.specs.declared.client.answer.Answer.{Answer}
use Rattle.ua_conn.specs.declared.client.ask_fault.AskFault.{AskFault}

-- ---- what happens to a client

-- a piece comes, or a command is given at a moment, which is never before 0
pub data Event : Type 0 where
  Came : Piece → Event
  Told : ℕ → Act → Event

-- newest first
abbrev pub Log : Type 0
Log = List Event

-- Each moment is the greatest so far, empty pieces included.
abbrev pub latest_of : Log → ℕ
latest_of [] = 0
latest_of (Came x ∷ log) = max (latest_of log) x.moment
latest_of (Told now act ∷ log) = max (latest_of log) now

-- the bytes that came
abbrev pub stream_of : Log → List TimedByte
stream_of [] = []
stream_of (Came x ∷ log) = stream_of log ++ map (at (max (latest_of log) x.moment)) x.bytes
stream_of (Told now act ∷ log) = stream_of log

-- the commands, each with how many bytes had come
abbrev pub commands_of : Log → Commands
commands_of [] = []
commands_of (Came x ∷ log) = commands_of log
commands_of (Told now act ∷ log) = record { act = act; moment = max (latest_of log) now; seen = length (stream_of log) } ∷ commands_of log

abbrev pub fault_in : Asker → Log → Option ClientFault
fault_in a log = client_fault a (commands_of log) (stream_of log)

abbrev pub refused_in : Asker → Log → Act → Option AskFault
refused_in a log act = ask_fault a (commands_of log) (stream_of log) act

-- each command was accepted when it was given
abbrev pub IsLog : Asker → Log → Type 0
IsLog a [] = Unit {0}
IsLog a (Came x ∷ log) = IsLog a log
IsLog a (Told now act ∷ log) = (refused_in a log act ≡ None) × IsLog a log

-- ---- what is held

-- The rest has no moments: no beginning of it is a frame, so its frame ends with a byte that is still to come.
pub record ClientHeld : Type 0 where
  -- the server opens the connection, and its ReverseHello is awaited
  pub reverse : Bool
  -- Acknowledge, channel, two newest tokens, last number, half received message
  pub known : ClientKnown
  -- the client was told to close
  pub closed : Bool
  -- each with its id, in the order of asking
  pub pending : List (ℕ × Request)
  -- the id of the open request that is pending
  pub due : Option ℕ
  pub next_id : ℕ
  -- the number of the next OPN, MSG or CLO that is sent
  pub next : ℕ
  -- the greatest moment
  pub moment : ℕ
  pub rest : List ℕ

abbrev pub waiting_in : Commands → Past → List (ℕ × Request)
waiting_in cmds past = map (λ a. (a.id, a.request)) (pending_in cmds past)

unfoldable pub client_held : Asker → Log → ClientHeld
client_held a log =
    let cmds = commands_of log in
    let past = (client_reading_of a cmds (stream_of log)).past in
    record {
      reverse = awaits_reverse a.reverse past;
      known = client_known past;
      closed = is_closed cmds;
      pending = waiting_in cmds past;
      due = due_in cmds past;
      next_id = next_id cmds;
      next = number_after a.first_sequence (sent_after 0 (sent_by a cmds past));
      moment = latest_of log;
      rest = plain (rest_of (stream_of log));
    }

-- what a command meets
abbrev pub standing_of : ClientHeld → Standing
standing_of h = standing_by h.known h.closed (length h.pending) h.due h.next_id

-- the channel is open, and three quarters of the lifetime of its newest token are over
abbrev pub renews : ClientHeld → ℕ → Bool
renews h now = not h.closed && renewal_due h.known.tokens (max h.moment now)

-- ---- what one more event brings

-- bytes to send, answers, a fault, or what is held then
pub record ClientGain : Type 0 where
  pub bytes : List ℕ
  pub answers : List Answer
  pub fault : Option ClientFault
  pub after : ClientHeld

pub record ClientGains (a : Asker) (log : Log) (e : Event) (g : ClientGain) : Type 0 where
  pub sent : client_bytes a (commands_of (e ∷ log)) (stream_of (e ∷ log)) ≡ client_bytes a (commands_of log) (stream_of log) ++ g.bytes
  pub answered : matched a (commands_of (e ∷ log)) (stream_of (e ∷ log)) ≡ matched a (commands_of log) (stream_of log) ++ g.answers
  pub fault_is : fault_in a (e ∷ log) ≡ g.fault
  pub after_is : g.fault ≡ None → client_held a (e ∷ log) ≡ g.after

-- the client has not failed
abbrev pub Stands : Asker → Log → Type 0
Stands a log = IsLog a log × (fault_in a log ≡ None)

-- The gains depend on the record and the event alone, and so does whether a command is refused.
abbrev pub ClientByRecord : Type 0
ClientByRecord = (a : Asker) (h : ClientHeld) (e : Event) → 1 ≤ a.first_sequence →
    (g : ClientGain) × ((log : Log) → IsLog a (e ∷ log) → fault_in a log ≡ None → client_held a log ≡ h → ClientGains a log e g)

abbrev pub RefusedByRecord : Type 0
RefusedByRecord = (a : Asker) (log : Log) (act : Act) → Stands a log →
    refused_in a log act ≡ refusal (standing_of (client_held a log)) act
