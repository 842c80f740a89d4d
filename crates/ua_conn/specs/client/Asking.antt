-- When a client takes a command, and why it refuses one.
use Rattle.std.specs.Prelude.{ℕ, ◌-◌, Bool, false, not, ◌&&◌, ◌||◌, ◌==◌, nat_lt, nat_le, List, [], ◌∷◌, length, Option, Some, None, is_some}
use Rattle.ua_frame.specs.Rows.{first_row}
use Rattle.ua_frame.specs.Streams.{TimedByte}
use Rattle.ua_frame.specs.declared.acknowledge.Ack.{Ack}
use Rattle.ua_chunk.specs.Cut.{part_count}
use Rattle.ua_service.specs.declared.request.Request.{Request}
use Rattle.ua_service.specs.Requests.{canon_request}
use Rattle.ua_conn.specs.Past.{Past}
use Rattle.ua_conn.specs.server.Replies.{is_over}
use Rattle.ua_conn.specs.client.Past.{ClientKnown, client_known}
use Rattle.ua_conn.specs.client.Asker.{Asker}
use Rattle.ua_conn.specs.client.Commands.{Act, Ask, Renew, Close, Commands, next_id, is_closed}
use Rattle.ua_conn.specs.client.Pending.{pending_in, due_in}
use Rattle.ua_conn.specs.client.Reading.{client_reading_of}
use Rattle.ua_conn.specs.declared.client.ask_fault.AskFault.{AskFault}
use Rattle.ua_conn.specs.declared.client.ask_fault.AskFault.TheVariants.{NotOpen, TooLarge, TooManyPending, IdsSpent, RenewPending, StillPending, Ended, BadPartLimit}

-- ---- what a command meets

pub record Standing : Type 0 where
  pub ack : Option Ack
  -- a token was granted, and the client was not told to close
  pub channel_open : Bool
  -- how many requests are pending
  pub pending : ℕ
  -- an open request is pending
  pub renewing : Bool
  pub next_id : ℕ

abbrev pub has_token_of : ClientKnown → Bool
has_token_of k = not (length k.tokens == 0)

abbrev pub standing_by : ClientKnown → Bool → ℕ → Option ℕ → ℕ → Standing
standing_by k closed pending due id = record {
  ack = k.ack;
  channel_open = has_token_of k && not closed;
  pending = pending;
  renewing = is_some due;
  next_id = id;
}

abbrev pub standing : Commands → Past → Standing
standing cmds past = standing_by (client_known past) (is_closed cmds) (length (pending_in cmds past)) (due_in cmds past) (next_id cmds)

-- ---- rows

abbrev pub AskRow : Type 0
AskRow = Bool × AskFault

-- Behind a chunk's header, its numbers and no signature, so many bytes are left of a frame that the server takes.
abbrev pub greatest_part : Option Ack → ℕ
greatest_part None = 0
greatest_part (Some ack) = ack.receive - 24

-- In the Acknowledge, a limit of 0 is none. OPC 10000-6, 7.1.2.4.
abbrev pub is_too_large : Option Ack → ℕ → Request → Bool
is_too_large None part request = false
is_too_large (Some ack) part request =
    is_over ack.max_message (length (canon_request request)) || is_over ack.max_chunks (part_count (length (canon_request request)) part)

-- bad part limit, too many pending, ids spent, too large
abbrev pub asking_rows : Standing → Request → ℕ → List AskRow
asking_rows s request part =
    (part == 0 || nat_lt (greatest_part s.ack) part, BadPartLimit)
    ∷ (nat_le 64 s.pending, TooManyPending)
    ∷ (nat_lt 4294967295 s.next_id, IdsSpent)
    ∷ (is_too_large s.ack part request, TooLarge)
    ∷ []

-- renewal pending, ids spent
abbrev pub renewing_rows : Standing → List AskRow
renewing_rows s =
    (s.renewing, RenewPending)
    ∷ (nat_lt 4294967295 s.next_id, IdsSpent)
    ∷ []

-- renewal pending, still pending, ids spent
abbrev pub closing_rows : Standing → List AskRow
closing_rows s =
    (s.renewing, RenewPending)
    ∷ (nat_lt 0 s.pending, StillPending)
    ∷ (nat_lt 4294967295 s.next_id, IdsSpent)
    ∷ []

abbrev pub act_rows : Standing → Act → List AskRow
act_rows s (Ask request part) = asking_rows s request part
act_rows s Renew = renewing_rows s
act_rows s Close = closing_rows s

-- of a client that has not failed: not open, and the rows of the command
abbrev pub refusal : Standing → Act → Option AskFault
refusal s act = first_row ((not s.channel_open, NotOpen) ∷ act_rows s act)

-- Why the command is refused, first reason first, where these commands were accepted and these bytes came.
abbrev pub ask_fault : Asker → Commands → List TimedByte → Act → Option AskFault
ask_fault a cmds v act =
    let r = client_reading_of a cmds v in
    first_row ((is_some r.fault, Ended) ∷ (not (standing cmds r.past).channel_open, NotOpen) ∷ act_rows (standing cmds r.past) act)
