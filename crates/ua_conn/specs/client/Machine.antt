-- The same on the record of what is held: the step that one more frame makes, and what one more event brings.
use Rattle.std.specs.Prelude.{ℕ, ◌+◌, max, Bool, true, not, ◌&&◌, ◌==◌, List, [], ◌∷◌, ◌++◌, map, Option, Some, None, option_map, is_some, if◌then◌else◌}
use Rattle.std.specs.List.{filter, find}
use Rattle.ua_frame.specs.Streams.{at, rest_of, plain}
use Rattle.ua_frame.specs.Layout.{Frame, frames_of, kind_of}
use Rattle.ua_frame.specs.declared.acknowledge.Ack.{Ack}
use Rattle.ua_chunk.specs.Numbers.{number_after}
use Rattle.ua_channel.specs.Token.{two_newest}
use Rattle.ua_service.specs.declared.request.Request.{Request}
use Rattle.ua_conn.specs.Past.{is_open, is_message, has_number, carried, open_in, number_of}
use Rattle.ua_conn.specs.server.Machine.{half_then}
use Rattle.ua_conn.specs.client.Asker.{Asker}
use Rattle.ua_conn.specs.client.Commands.{Act, Ask, Renew, closes}
use Rattle.ua_conn.specs.client.Past.{ClientKnown, is_acknowledge_frame, acknowledge_in, is_reverse_frame, response_in, granted_by, channel_named}
use Rattle.ua_conn.specs.client.Pending.{ends_one, opening_id}
use Rattle.ua_conn.specs.client.Faults.{client_fault_by, client_fault_in_rest, token_usable}
use Rattle.ua_conn.specs.client.Reading.{answer_at}
use Rattle.ua_conn.specs.client.Sending.{Sent, greets_by, opens_by, act_says, has_place, sent_bytes}
use Rattle.ua_conn.specs.client.Held.{Event, Came, Told, ClientHeld, ClientGain}
use Rattle.ua_conn.specs.declared.client.fault.ClientFault.{ClientFault}
use Rattle.ua_conn.specs.declared.client.answer.Answer.{Answer}

abbrev pub or_ack : Option Ack → Bool → Option Ack → Option Ack
or_ack None test ack = if test then ack else None
or_ack (Some first) test ack = Some first

-- what is known with one more frame
unfoldable pub client_known_after : ClientKnown → Frame → ClientKnown
client_known_after k f = record {
  ack = or_ack k.ack (is_acknowledge_frame f) (acknowledge_in f);
  channel = if is_open (kind_of f.bytes) then channel_named (open_in f) else k.channel;
  tokens = if is_open (kind_of f.bytes) then two_newest (granted_by (response_in f) f.moment ∷ k.tokens) else k.tokens;
  last = if has_number (kind_of f.bytes) then Some (number_of f) else k.last;
  half = if is_message (kind_of f.bytes) then half_then k.half f else k.half;
}

-- ---- what waits for frames

pub record Awaiting : Type 0 where
  -- a ReverseHello is
  pub reverse : Bool
  pub known : ClientKnown
  pub pending : List (ℕ × Request)
  pub due : Option ℕ

abbrev pub awaiting_of : ClientHeld → Awaiting
awaiting_of h = record { reverse = h.reverse; known = h.known; pending = h.pending; due = h.due }

-- the pending request of that id
abbrev pub waiting_under : ℕ → List (ℕ × Request) → Option Request
waiting_under id pending = option_map (λ p. p.1) (find (λ p. p.0 == id) pending)

abbrev pub without : ℕ → List (ℕ × Request) → List (ℕ × Request)
without id pending = filter (λ p. not (id == p.0)) pending

abbrev pub unless_id : Option ℕ → ℕ → Option ℕ
unless_id None id = None
unless_id (Some due) id = if id == due then None else Some due

abbrev pub awaiting_after : Awaiting → Frame → Awaiting
awaiting_after w f = record {
  reverse = w.reverse && not (is_reverse_frame f);
  known = client_known_after w.known f;
  pending = if ends_one f then without (carried f).request_id w.pending else w.pending;
  due = if is_open (kind_of f.bytes) then unless_id w.due (opening_id (open_in f)) else w.due;
}

-- the row that refuses the frame
abbrev pub awaiting_fault : Asker → Awaiting → Frame → Option ClientFault
awaiting_fault a w f = client_fault_by a w.reverse w.known w.due (waiting_under (carried f).request_id w.pending) (token_usable w.known f) f

-- what is sent at the frame: the Hello, at the ReverseHello that was awaited; the first open request, at the first Acknowledge
abbrev pub frame_says : Asker → Awaiting → Frame → List Sent
frame_says a w f =
    (if w.reverse && is_reverse_frame f then greets_by a (Some f) else [])
    ++ (if not (is_some w.known.ack) && is_acknowledge_frame f then opens_by a (Some f) else [])

-- what the frame answers
abbrev pub frame_answers : Awaiting → Frame → List Answer
frame_answers w f = answer_at w.known (waiting_under (carried f).request_id w.pending) f

-- ---- frames

pub record ClientRun : Type 0 where
  pub says : List Sent
  pub answers : List Answer
  pub fault : Option ClientFault
  pub after : Awaiting

abbrev pub ahead_of : List Sent → List Answer → ClientRun → ClientRun
ahead_of says answers r = record { says = says ++ r.says; answers = answers ++ r.answers; fault = r.fault; after = r.after }

abbrev pub client_run : Asker → Awaiting → List Frame → List ℕ → ClientRun
client_run a w [] rest = record { says = []; answers = []; fault = client_fault_in_rest w.known rest; after = w }
client_run a w (f ∷ fs) rest =
    elim (awaiting_fault a w f) [
      | Some fault ↦ record { says = []; answers = []; fault = Some fault; after = w }
      | None ↦ ahead_of (frame_says a w f) (frame_answers w f) (client_run a (awaiting_after w f) fs rest)
    ]

-- ---- events

-- the number after a frame that has number n
abbrev pub number_sent : ℕ → Sent → ℕ
number_sent n sent = if has_place sent then number_after n 1 else n

abbrev pub sent_next : ℕ → List Sent → List ℕ
sent_next n [] = []
sent_next n (sent ∷ more) = sent_bytes n sent ++ sent_next (number_sent n sent) more

abbrev pub next_sent : ℕ → List Sent → ℕ
next_sent n [] = n
next_sent n (sent ∷ more) = next_sent (number_sent n sent) more

-- the frames and the rest of bytes that all come at one moment
abbrev pub client_run_on : Asker → Awaiting → ℕ → List ℕ → ClientRun
client_run_on a w now bytes = client_run a w (frames_of (map (at now) bytes)) (plain (rest_of (map (at now) bytes)))

abbrev pub more_waiting : ℕ → Act → List (ℕ × Request)
more_waiting id (Ask request part) = (id, request) ∷ []
more_waiting id act = []

abbrev pub due_with : Option ℕ → ℕ → Act → Option ℕ
due_with due id Renew = Some id
due_with due id act = due

abbrev pub came_gain : Asker → ClientHeld → ℕ → List ℕ → ClientRun → ClientGain
came_gain a h now bytes r = record {
  bytes = sent_next h.next r.says;
  answers = r.answers;
  fault = r.fault;
  after = record h {
    reverse = r.after.reverse;
    known = r.after.known;
    pending = r.after.pending;
    due = r.after.due;
    next = next_sent h.next r.says;
    moment = now;
    rest = plain (rest_of (map (at now) bytes));
  };
}

abbrev pub told_gain : Asker → ClientHeld → ℕ → Act → List Sent → ClientGain
told_gain a h now act says = record {
  bytes = sent_next h.next says;
  answers = [];
  fault = None;
  after = record h {
    closed = if closes act then true else h.closed;
    pending = h.pending ++ more_waiting h.next_id act;
    due = due_with h.due h.next_id act;
    next_id = h.next_id + 1;
    next = next_sent h.next says;
    moment = now;
  };
}

-- what an event brings to a client that has not failed
unfoldable pub client_gain : Asker → ClientHeld → Event → ClientGain
client_gain a h (Came x) =
    let now = max h.moment x.moment in
    came_gain a h now (h.rest ++ x.bytes) (client_run_on a (awaiting_of h) now (h.rest ++ x.bytes))
client_gain a h (Told moment act) =
    let now = max h.moment moment in
    told_gain a h now act (act_says a h.next_id now h.known act)
