-- What a whole frame of each type does to a client, by what it carries: the rows that refuse it, what is waited for then, what is said and answered.
use Rattle.std.specs.Prelude.{◌≡◌, ℕ, false, not, List, [], ◌∷◌, ◌++◌, Option, Some, None, is_some, is_none, Result, Ok, Err, if◌then◌else◌}
use Rattle.ua_frame.specs.Layout.{Frame}
use Rattle.ua_frame.specs.Rows.{Row, first_row}
use Rattle.ua_frame.specs.declared.acknowledge.Ack.{Ack}
use Rattle.ua_frame.specs.declared.reverse_hello.ReverseHello.{ReverseHello}
use Rattle.ua_chunk.specs.Layout.{OpenChunk, Chunk}
use Rattle.ua_chunk.specs.Half.{half_after, ends_message}
use Rattle.ua_channel.specs.Token.{two_newest}
use Rattle.ua_channel.specs.Channel.{Channel}
use Rattle.ua_channel.specs.Admission.{admit_rows}
use Rattle.ua_service.specs.ChannelMessages.{open_response_of}
use Rattle.ua_conn.specs.Past.{or_empty, sequence_of, body_of as open_body}
use Rattle.ua_conn.specs.client.Past.{client_channel, granted_by, channel_named}
use Rattle.ua_conn.specs.client.Asker.{Asker, hello_to}
use Rattle.ua_conn.specs.client.Pending.{opening_id}
use Rattle.ua_conn.specs.client.Faults.{FaultRow, broken, reverse_rows, acknowledge_rows, opened_rows, answer_rows}
use Rattle.ua_conn.specs.client.Questions.{open_asked_body}
use Rattle.ua_conn.specs.client.Reading.{answer_with, result_by}
use Rattle.ua_conn.specs.client.Sending.{Sent, Greeting, Opening}
use Rattle.ua_conn.specs.client.Machine.{Awaiting, waiting_under, without, unless_id, awaiting_fault, awaiting_after, frame_says, frame_answers, sent_next, next_sent}
use Rattle.ua_conn.specs.client.Taking.{ClientRunning}
use Rattle.ua_conn.specs.declared.client.config.ClientConfig.{ClientConfig}
use Rattle.ua_conn.specs.declared.client.fault.ClientFault.{ClientFault}
use Rattle.ua_conn.specs.declared.client.fault.ClientFault.TheVariants.{NoMemory, Ended}
use Rattle.ua_conn.specs.declared.client.answer.Answer.{Answer}

-- A client with this configuration. What frames do to it depends on nothing else of it but whether a ReverseHello is awaited.
abbrev pub asker_with : ClientConfig → Asker
asker_with config = record { config = config; url = None; first_sequence = 1; reverse = false }

pub record ClientEffect : Type 0 where
  pub rows : List FaultRow
  pub waits : Awaiting
  pub says : List Sent
  pub gives : List Answer

-- ---- of each type

-- the Hello, with the url that the server names
abbrev pub greets_at : ClientConfig → Option ReverseHello → List Sent
greets_at config None = []
greets_at config (Some hello) = Greeting (hello_to config hello.endpoint_url) ∷ []

abbrev pub reverse_effect : ClientConfig → Awaiting → Option ReverseHello → ClientEffect
reverse_effect config w hello = record {
  rows = broken (reverse_rows hello);
  waits = record w { reverse = not (is_some hello) };
  says = greets_at config hello;
  gives = [];
}

-- the first open request
abbrev pub opens_at : ClientConfig → ℕ → Option Ack → List Sent
opens_at config now None = []
opens_at config now (Some ack) = Opening 0 1 (open_asked_body now 1 0 config.lifetime) ∷ []

abbrev pub acknowledge_effect : ClientConfig → Awaiting → ℕ → Option Ack → ClientEffect
acknowledge_effect config w now ack = record {
  rows = broken (acknowledge_rows (asker_with config) ack);
  waits = record w { known = record w.known { ack = ack } };
  says = opens_at config now ack;
  gives = [];
}

abbrev pub opening_effect : Awaiting → ℕ → Option OpenChunk → ClientEffect
opening_effect w now opening = record {
  rows = opened_rows w.known w.due opening;
  waits = record w {
    known = record w.known {
      channel = channel_named opening;
      tokens = two_newest (granted_by (open_response_of (open_body opening)) now ∷ w.known.tokens);
      last = Some (sequence_of opening);
    };
    due = unless_id w.due (opening_id opening);
  };
  says = [];
  gives = [];
}

-- message layout; message channel, token, message sequence number
abbrev pub answer_heard_rows : Channel → ℕ → Option Chunk → List Row
answer_heard_rows channel now chunk = (is_none chunk, 0x80070000) ∷ admit_rows channel (or_empty chunk) now

abbrev pub answer_effect : ClientConfig → Awaiting → ℕ → ℕ → Option Chunk → ClientEffect
answer_effect config w now flag chunk =
    let c = or_empty chunk in
    let wanted = waiting_under c.request_id w.pending in
    record {
      rows = broken (answer_heard_rows (client_channel w.known) now chunk ++ answer_rows (asker_with config) w.known wanted flag c);
      waits = record w {
        known = record w.known { last = Some c.sequence; half = half_after w.known.half flag c.request_id c.body };
        pending = if ends_message flag then without c.request_id w.pending else w.pending;
      };
      says = [];
      gives = answer_with c.request_id wanted (result_by w.known flag c);
    }

-- ---- and what a call makes of it

-- what the calls have gained so far: bytes to send, and answers
pub record Given : Type 0 where
  pub bytes : List ℕ
  pub answers : List Answer

-- the fault that the rows bring, unless memory ran out
abbrev pub FaultIs : Option ClientFault → ClientFault → Type 0
FaultIs row NoMemory = Unit {0}
FaultIs row Ended = ⊥
FaultIs row fault = row ≡ Some fault

-- what a judgement by the rows gives
abbrev pub Judges : {V : Type 0} → List FaultRow → (V → Type 0) → Result V ClientFault → Type 0
Judges rows P (Ok v) = (first_row rows ≡ None) × P v
Judges rows P (Err fault) = FaultIs (first_row rows) fault

-- no row refuses the frame: all that it does is done
pub record Acts (e : ClientEffect) (old new : ClientRunning) (had has : Given) : Type 0 where
  pub fine : first_row e.rows ≡ None
  pub config : new.config ≡ old.config
  pub waits : new.waits ≡ e.waits
  pub number : new.next ≡ next_sent old.next e.says
  pub said : has.bytes ≡ had.bytes ++ sent_next old.next e.says
  pub given : has.answers ≡ had.answers ++ e.gives

abbrev pub Does : ClientEffect → ClientRunning → ClientRunning → Given → Given → Result (Unit {0}) ClientFault → Type 0
Does e old new had has (Ok u) = Acts e old new had has
Does e old new had has (Err fault) = FaultIs (first_row e.rows) fault × (has.bytes ≡ had.bytes)

-- ---- a whole frame, by the definitions of the whole

-- no row refuses it: what is said, answered and waited for then
pub record Stands (old new : ClientRunning) (f : Frame) (had has : Given) : Type 0 where
  pub fine : awaiting_fault (asker_with old.config) old.waits f ≡ None
  pub config : new.config ≡ old.config
  pub waits : new.waits ≡ awaiting_after old.waits f
  pub number : new.next ≡ next_sent old.next (frame_says (asker_with old.config) old.waits f)
  pub said : has.bytes ≡ had.bytes ++ sent_next old.next (frame_says (asker_with old.config) old.waits f)
  pub given : has.answers ≡ had.answers ++ frame_answers old.waits f

abbrev pub Takes : ClientRunning → ClientRunning → Frame → Given → Given → Result (Unit {0}) ClientFault → Type 0
Takes old new f had has (Ok u) = Stands old new f had has
Takes old new f had has (Err fault) = FaultIs (awaiting_fault (asker_with old.config) old.waits f) fault × (has.bytes ≡ had.bytes)
