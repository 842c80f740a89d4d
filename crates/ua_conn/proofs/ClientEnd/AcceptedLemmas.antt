-- What a command that is accepted meets: no fault, an open channel with a token, an id that is left, and a request that fits the Acknowledge.
use Rattle.std.proofs.Common.{◌≡◌, ℕ, zero, suc, ◌+◌, ◌-◌, ◌≤◌, Bool, true, false, List, [], ◌∷◌, take, length, Option, Some, None, refl, sym, ap, ◌∙◌, arith}
use Rattle.std.specs.Prelude.{◌==◌, ◌&&◌, not, nat_lt, is_some}
use Rattle.std.proofs.lemmas.Bool.{and_parts, or_parts, ltb-false, eqb-true, eqb-false, not-false}
use Rattle.ua_frame.specs.Streams.{TimedByte}
use Rattle.ua_frame.specs.declared.acknowledge.Ack.{Ack}
use Rattle.ua_chunk.specs.Cut.{part_count}
use Rattle.ua_channel.specs.declared.token.Token.{Token}
use Rattle.ua_service.specs.declared.request.Request.{Request}
use Rattle.ua_service.specs.Requests.{canon_request}
use Rattle.ua_conn.specs.Past.{Past}
use Rattle.ua_conn.specs.server.Replies.{is_over}
use Rattle.ua_conn.specs.client.Asker.{Asker}
use Rattle.ua_conn.specs.client.Commands.{Act, Ask, Commands, next_id, is_closed}
use Rattle.ua_conn.specs.client.Past.{client_known, granted_in}
use Rattle.ua_conn.specs.client.Reading.{client_reading_of, client_fault}
use Rattle.ua_conn.specs.client.Asking.{has_token_of, standing, act_rows, greatest_part, is_too_large, ask_fault}
use Rattle.ua_conn.specs.declared.client.fault.ClientFault.{ClientFault}
use Rattle.ua_conn.specs.declared.client.ask_fault.AskFault.TheVariants.{Ended, NotOpen}
use Rattle.ua_conn.proofs.TableLemmas.{AllNo, all_no}
use Rattle.ua_conn.proofs.ClientEnd.CountLemmas.{ids_left}

no_some : (o : Option ClientFault) → is_some o ≡ false → o ≡ None
no_some None h = refl
no_some (Some fault) h = absurd (cc h)

-- the rows, one by one
accepted_rows : (a : Asker) (cmds : Commands) (v : List TimedByte) (act : Act) → ask_fault a cmds v act ≡ None →
    (let r = client_reading_of a cmds v in AllNo ((is_some r.fault, Ended) ∷ (not (standing cmds r.past).channel_open, NotOpen) ∷ act_rows (standing cmds r.past) act))
accepted_rows a cmds v act h =
    let r = client_reading_of a cmds v in
    all_no ((is_some r.fault, Ended) ∷ (not (standing cmds r.past).channel_open, NotOpen) ∷ act_rows (standing cmds r.past) act) h

-- the client has met no fault,
pub accepted_fine : (a : Asker) (cmds : Commands) (v : List TimedByte) (act : Act) → ask_fault a cmds v act ≡ None → client_fault a cmds v ≡ None
accepted_fine a cmds v act h = no_some (client_fault a cmds v) (accepted_rows a cmds v act h).0

is_there : (a : Asker) (cmds : Commands) (v : List TimedByte) (act : Act) → ask_fault a cmds v act ≡ None →
    (has_token_of (client_known (client_reading_of a cmds v).past) ≡ true) × (not (is_closed cmds) ≡ true)
is_there a cmds v act h =
    let past = (client_reading_of a cmds v).past in
    and_parts (has_token_of (client_known past)) (not (is_closed cmds)) (not-false (standing cmds past).channel_open (accepted_rows a cmds v act h).1.0)

-- was not told to close,
pub accepted_open : (a : Asker) (cmds : Commands) (v : List TimedByte) (act : Act) → ask_fault a cmds v act ≡ None → is_closed cmds ≡ false
accepted_open a cmds v act h = by (is_closed cmds) (is_there a cmds v act h).1
  where
    by : (b : Bool) → not b ≡ true → b ≡ false
    by false e = refl
    by true e = absurd (cc e)

some_of : (ts : List Token) → not (length (take 2 ts) == 0) ≡ true → 1 ≤ length ts
some_of [] h = absurd (cc h)
some_of (t ∷ ts) h = omega arith

token_came : (past : Past) → has_token_of (client_known past) ≡ true → 1 ≤ length (granted_in past)
unfolding client_known
token_came past h = some_of (granted_in past) h

-- and has a token.
pub accepted_token : (a : Asker) (cmds : Commands) (v : List TimedByte) (act : Act) → ask_fault a cmds v act ≡ None → 1 ≤ length (granted_in (client_reading_of a cmds v).past)
accepted_token a cmds v act h = token_came (client_reading_of a cmds v).past (is_there a cmds v act h).0

-- ---- a request

-- a limit of 0 is none
pub over_not : (limit n : ℕ) → is_over limit n ≡ false → 1 ≤ limit → n ≤ limit
over_not limit n h some = by (limit == 0) refl (nat_lt limit n) refl h
  where
    by : (b : Bool) → (limit == 0) ≡ b → (c : Bool) → nat_lt limit n ≡ c → (not b && c) ≡ false → n ≤ limit
    by true e c d k = absurd (omega (arith, some, eqb-true limit 0 e))
    by false e true d k = absurd (cc k)
    by false e false d k = ltb-false limit n d

pub record AskFits (ack : Ack) (cmds : Commands) (request : Request) (part : ℕ) : Type 0 where
  pub some : 1 ≤ part
  pub room : 24 + part ≤ ack.receive
  pub small : is_over ack.max_message (length (canon_request request)) ≡ false
  pub few : is_over ack.max_chunks (part_count (length (canon_request request)) part) ≡ false
  pub unspent : next_id cmds ≤ 4294967295

-- It is cut for the server's buffer, and within the limits of the Acknowledge.
pub ask_fits : (a : Asker) (cmds : Commands) (v : List TimedByte) (request : Request) (part : ℕ) (ack : Ack) → ask_fault a cmds v (Ask request part) ≡ None →
    (client_known (client_reading_of a cmds v).past).ack ≡ Some ack → AskFits ack cmds request part
ask_fits a cmds v request part ack h e =
    let past = (client_reading_of a cmds v).past in
    let no = accepted_rows a cmds v (Ask request part) h in
    let cut = or_parts (part == 0) (nat_lt (greatest_part (client_known past).ack) part) no.1.1.0 in
    let large : is_too_large (Some ack) part request ≡ false = sym (ap (λ (o : Option Ack). is_too_large o part request) e) ∙ no.1.1.1.1.1.0 in
    let limits = or_parts (is_over ack.max_message (length (canon_request request))) (is_over ack.max_chunks (part_count (length (canon_request request)) part)) large in
    let most : nat_lt (ack.receive - 24) part ≡ false = sym (ap (λ (o : Option Ack). nat_lt (greatest_part o) part) e) ∙ cut.1 in
    let some = eqb-false part 0 cut.0 in
    let least : 1 ≤ part = nonzero part some in
    record { some = least; room = omega (arith, least, ltb-false (ack.receive - 24) part most); small = limits.0; few = limits.1; unspent = ids_left a cmds v (Ask request part) h }
  where
    nonzero : (n : ℕ) → (n ≡ 0 → ⊥) → 1 ≤ n
    nonzero zero k = absurd (k refl)
    nonzero (suc n) k = omega arith
