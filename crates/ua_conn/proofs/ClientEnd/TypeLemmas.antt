-- What the definitions say of a frame of each type that comes to a client, by its parts.
use Rattle.std.proofs.Common.{◌≡◌, ℕ, Bool, true, false, cond, ◌&&◌, ◌==◌, List, [], ◌∷◌, ◌++◌, Option, Some, None, refl, ap, ◌∙◌}
use Rattle.std.specs.Prelude.{not, is_some, is_none, length, option_map}
use Rattle.std.proofs.lemmas.List.{append-nil}
use Rattle.ua_frame.specs.Rows.{first_row, or_else}
use Rattle.ua_frame.specs.HeaderRows.{header_fault}
use Rattle.ua_frame.specs.Layout.{Frame, Parts, IsFrameOf, kind_of, flag_of}
use Rattle.ua_frame.specs.Hello.{acknowledge_of, error_of, reverse_hello_of}
use Rattle.ua_frame.specs.declared.acknowledge.Ack.{Ack}
use Rattle.ua_frame.specs.declared.reverse_hello.ReverseHello.{ReverseHello}
use Rattle.ua_frame.specs.declared.kind.Kind.{Kind}
use Rattle.ua_frame.specs.declared.kind.Kind.TheVariants as kinds
use Rattle.ua_chunk.specs.Layout.{open_chunk_of, chunk_of}
use Rattle.ua_chunk.specs.Half.{half_after, ends_message}
use Rattle.ua_channel.specs.Token.{two_newest}
use Rattle.ua_conn.specs.Past.{is_open, is_message, has_number, carried, open_in, sequence_of}
use Rattle.ua_conn.specs.client.Past.{ClientKnown, is_acknowledge, acknowledge_in, is_reverse, reverse_in, url_named, response_in, granted_by, channel_named}
use Rattle.ua_conn.specs.client.Asker.{hello_to}
use Rattle.ua_conn.specs.client.Pending.{opening_id}
use Rattle.ua_conn.specs.client.Faults.{FaultRow, greatest_answer, is_awaited, client_rows, awaited_rows, error_rows, client_fault_by, token_usable}
use Rattle.ua_conn.specs.client.Reading.{answer_at, answer_with, result_by}
use Rattle.ua_conn.specs.client.Sending.{Sent, Greeting, greets_by, opens_by}
use Rattle.ua_conn.specs.client.Machine.{Awaiting, or_ack, client_known_after, waiting_under, without, unless_id, awaiting_fault, awaiting_after, frame_says, frame_answers}
use Rattle.ua_conn.specs.client.Effects.{asker_with, ClientEffect, greets_at, reverse_effect, opens_at, acknowledge_effect, opening_effect, answer_effect}
use Rattle.ua_conn.specs.declared.client.config.ClientConfig.{ClientConfig}
use Rattle.ua_conn.specs.declared.client.fault.ClientFault.TheVariants.{Broken}
use Rattle.ua_conn.specs.declared.client.answer.Answer.{Answer}

-- ---- the rows

abbrev pub rows_at : ClientConfig → Awaiting → Frame → ℕ → Option Kind → List FaultRow
rows_at config w f flag kind =
    client_rows (asker_with config) w.reverse w.known w.due (waiting_under (carried f).request_id w.pending) (token_usable w.known f) f flag kind

abbrev pub type_rows_at : ClientConfig → Awaiting → Frame → ℕ → Option Kind → List FaultRow
type_rows_at config w f flag kind =
    awaited_rows (asker_with config) w.known w.due (waiting_under (carried f).request_id w.pending) (token_usable w.known f) f flag kind

-- with a header in order, the first row of the whole frame decides
pub by_rows : (config : ClientConfig) (w : Awaiting) (f : Frame) → header_fault (greatest_answer w.known.ack) f.bytes ≡ None →
    awaiting_fault (asker_with config) w f ≡ first_row (rows_at config w f (flag_of f.bytes) (kind_of f.bytes))
unfolding client_fault_by
by_rows config w f h = ap (λ o. or_else (option_map Broken o) (first_row (rows_at config w f (flag_of f.bytes) (kind_of f.bytes)))) h

-- ---- what is known then

abbrev number_at : Frame → Option Kind → ℕ
number_at f kind = cond (is_open kind) (sequence_of (open_in f)) (carried f).sequence

abbrev known_at : ClientKnown → Frame → ℕ → Option Kind → ClientKnown
known_at k f flag kind = record {
  ack = or_ack k.ack (is_acknowledge kind && is_some (acknowledge_in f)) (acknowledge_in f);
  channel = cond (is_open kind) (channel_named (open_in f)) k.channel;
  tokens = cond (is_open kind) (two_newest (granted_by (response_in f) f.moment ∷ k.tokens)) k.tokens;
  last = cond (has_number kind) (Some (number_at f kind)) k.last;
  half = cond (is_message kind) (half_after k.half flag (carried f).request_id (carried f).body) k.half;
}

abbrev waits_at : Awaiting → Frame → ℕ → Option Kind → Awaiting
waits_at w f flag kind = record {
  reverse = w.reverse && not (is_reverse kind && is_some (reverse_in f));
  known = known_at w.known f flag kind;
  pending = cond (is_message kind && ends_message flag) (without (carried f).request_id w.pending) w.pending;
  due = cond (is_open kind) (unless_id w.due (opening_id (open_in f))) w.due;
}

waits_by : (w : Awaiting) (f : Frame) (flag : ℕ) (kind : Option Kind) → flag_of f.bytes ≡ flag → kind_of f.bytes ≡ kind → awaiting_after w f ≡ waits_at w f flag kind
unfolding client_known_after
waits_by w f flag kind q e = λ i. waits_at w f (q i) (e i)

abbrev says_at : ClientConfig → Awaiting → Frame → Option Kind → List Sent
says_at config w f kind =
    cond (w.reverse && (is_reverse kind && is_some (reverse_in f))) (greets_by (asker_with config) (Some f)) []
    ++ cond (not (is_some w.known.ack) && (is_acknowledge kind && is_some (acknowledge_in f))) (opens_by (asker_with config) (Some f)) []

says_by : (config : ClientConfig) (w : Awaiting) (f : Frame) (kind : Option Kind) → kind_of f.bytes ≡ kind → frame_says (asker_with config) w f ≡ says_at config w f kind
says_by config w f kind e = ap (says_at config w f) e

abbrev gives_at : Awaiting → Frame → ℕ → Option Kind → List Answer
gives_at w f flag kind = cond (is_message kind) (answer_with (carried f).request_id (waiting_under (carried f).request_id w.pending) (result_by w.known flag (carried f))) []

gives_by : (w : Awaiting) (f : Frame) (flag : ℕ) (kind : Option Kind) → flag_of f.bytes ≡ flag → kind_of f.bytes ≡ kind → frame_answers w f ≡ gives_at w f flag kind
unfolding answer_at
gives_by w f flag kind q e = λ i. gives_at w f (q i) (e i)

-- ---- one ReverseHello

awaited_only : (reverse : Bool) (k : ClientKnown) (due : Option ℕ) → is_awaited reverse k due (Some kinds.ReverseHello) ≡ true → reverse ≡ true
awaited_only reverse k due h = by reverse (is_none k.ack) (length k.tokens == 0) h
  where
    by : (r b c : Bool) → cond r true (cond b false (cond c false false)) ≡ true → r ≡ true
    by true b c h = refl
    by false true c h = absurd (cc h)
    by false false true h = absurd (cc h)
    by false false false h = absurd (cc h)

names_url : (config : ClientConfig) (b : Bool) (o : Option ReverseHello) → b ≡ true → cond (b && is_some o) (Greeting (hello_to config (url_named o)) ∷ []) [] ≡ greets_at config o
names_url config true None e = refl
names_url config true (Some hello) e = refl
names_url config false o e = absurd (cc e)

-- where the frame is none
still : (b : Bool) → (b && true) ≡ b
still true = refl
still false = refl

-- ---- one Acknowledge

only_first : (reverse : Bool) (k : ClientKnown) (due : Option ℕ) → is_awaited reverse k due (Some kinds.Acknowledge) ≡ true → k.ack ≡ None
only_first reverse k due h = by reverse k.ack (length k.tokens == 0) h
  where
    by : (r : Bool) (o : Option Ack) (b : Bool) → cond r false (cond (is_none o) true (cond b false false)) ≡ true → o ≡ None
    by true o b h = absurd (cc h)
    by false None b h = refl
    by false (Some ack) true h = absurd (cc h)
    by false (Some ack) false h = absurd (cc h)

first_ack : (o p : Option Ack) → o ≡ None → or_ack o (is_some p) p ≡ p
first_ack None None e = refl
first_ack None (Some ack) e = refl
first_ack (Some ack) p e = absurd (cc)

same_ack : (o p : Option Ack) → or_ack o false p ≡ o
same_ack None p = refl
same_ack (Some ack) p = refl

first_says : (config : ClientConfig) (f : Frame) (o p : Option Ack) → o ≡ None → cond (not (is_some o) && is_some p) (opens_by (asker_with config) (Some f)) [] ≡ opens_at config f.moment p
first_says config f None None e = refl
first_says config f None (Some ack) e = refl
first_says config f (Some ack) p e = absurd (cc)

silent : (b : Bool) (xs : List Sent) → cond (b && false) xs [] ≡ []
silent true xs = refl
silent false xs = refl

-- neither of both
all_silent : (b c : Bool) (xs ys : List Sent) → cond (b && false) xs [] ++ cond (c && false) ys [] ≡ []
all_silent b c xs ys = λ i. silent b xs i ++ silent c ys i

-- ---- each type

-- the effect is that of the frame
pub record IsEffect (e : ClientEffect) (config : ClientConfig) (w : Awaiting) (f : Frame) : Type 0 where
  pub rows : first_row (rows_at config w f (flag_of f.bytes) (kind_of f.bytes)) ≡ first_row e.rows
  pub waits : awaiting_after w f ≡ e.waits
  pub says : frame_says (asker_with config) w f ≡ e.says
  pub gives : frame_answers w f ≡ e.gives

in_turn : (b : Bool) (rows : List FaultRow) → b ≡ true → first_row ((not b, Broken 0x807E0000) ∷ rows) ≡ first_row rows
in_turn true rows h = refl
in_turn false rows h = absurd (cc)

pub by_reverse : (config : ClientConfig) (w : Awaiting) (f : Frame) (parts : Parts) → IsFrameOf f.bytes parts → parts.kind ≡ kinds.ReverseHello → is_awaited w.reverse w.known w.due (Some kinds.ReverseHello) ≡ true →
    IsEffect (reverse_effect config w (reverse_hello_of parts.fields)) config w f
by_reverse config w f parts is e turn =
    let kind : kind_of f.bytes ≡ Some kinds.ReverseHello = is.kind ∙ ap Some e in
    let E : List ℕ → ClientEffect = λ x. reverse_effect config w (reverse_hello_of x) in
    let on = awaited_only w.reverse w.known w.due turn in
    record {
      rows = ap (λ κ. first_row (rows_at config w f (flag_of f.bytes) κ)) kind
          ∙ in_turn (is_awaited w.reverse w.known w.due (Some kinds.ReverseHello)) (type_rows_at config w f (flag_of f.bytes) (Some kinds.ReverseHello)) turn
          ∙ ap (λ x. first_row (E x).rows) is.fields;
      waits = waits_by w f _ _ refl kind
          ∙ (λ i. record w { reverse = on i && not (is_some (reverse_in f)); known = record w.known { ack = same_ack w.known.ack (acknowledge_in f) i } })
          ∙ ap (λ x. (E x).waits) is.fields;
      says = says_by config w f _ kind
          ∙ (λ i. names_url config w.reverse (reverse_in f) on i ++ silent (not (is_some w.known.ack)) (opens_by (asker_with config) (Some f)) i)
          ∙ append-nil (greets_at config (reverse_in f))
          ∙ ap (λ x. (E x).says) is.fields;
      gives = gives_by w f _ _ refl kind;
    }

pub by_acknowledge : (config : ClientConfig) (w : Awaiting) (f : Frame) (parts : Parts) → IsFrameOf f.bytes parts → parts.kind ≡ kinds.Acknowledge → is_awaited w.reverse w.known w.due (Some kinds.Acknowledge) ≡ true →
    IsEffect (acknowledge_effect config w f.moment (acknowledge_of parts.fields)) config w f
by_acknowledge config w f parts is e turn =
    let kind : kind_of f.bytes ≡ Some kinds.Acknowledge = is.kind ∙ ap Some e in
    let E : List ℕ → ClientEffect = λ x. acknowledge_effect config w f.moment (acknowledge_of x) in
    let none = only_first w.reverse w.known w.due turn in
    record {
      rows = ap (λ κ. first_row (rows_at config w f (flag_of f.bytes) κ)) kind
          ∙ in_turn (is_awaited w.reverse w.known w.due (Some kinds.Acknowledge)) (type_rows_at config w f (flag_of f.bytes) (Some kinds.Acknowledge)) turn
          ∙ ap (λ x. first_row (E x).rows) is.fields;
      waits = waits_by w f _ _ refl kind
          ∙ (λ i. record w { reverse = still w.reverse i; known = record w.known { ack = first_ack w.known.ack (acknowledge_in f) none i } })
          ∙ ap (λ x. (E x).waits) is.fields;
      says = says_by config w f _ kind
          ∙ (λ i. silent w.reverse (greets_by (asker_with config) (Some f)) i ++ first_says config f w.known.ack (acknowledge_in f) none i)
          ∙ ap (λ x. (E x).says) is.fields;
      gives = gives_by w f _ _ refl kind;
    }

pub by_open : (config : ClientConfig) (w : Awaiting) (f : Frame) (parts : Parts) → IsFrameOf f.bytes parts → parts.kind ≡ kinds.Open → is_awaited w.reverse w.known w.due (Some kinds.Open) ≡ true →
    IsEffect (opening_effect w f.moment (open_chunk_of parts.fields)) config w f
by_open config w f parts is e turn =
    let kind : kind_of f.bytes ≡ Some kinds.Open = is.kind ∙ ap Some e in
    let E : List ℕ → ClientEffect = λ x. opening_effect w f.moment (open_chunk_of x) in
    record {
      rows = ap (λ κ. first_row (rows_at config w f (flag_of f.bytes) κ)) kind
          ∙ in_turn (is_awaited w.reverse w.known w.due (Some kinds.Open)) (type_rows_at config w f (flag_of f.bytes) (Some kinds.Open)) turn
          ∙ ap (λ x. first_row (E x).rows) is.fields;
      waits = waits_by w f _ _ refl kind
          ∙ (λ i. record (waits_at w f (flag_of f.bytes) (Some kinds.Open)) { reverse = still w.reverse i; known = record (known_at w.known f (flag_of f.bytes) (Some kinds.Open)) { ack = same_ack w.known.ack (acknowledge_in f) i } })
          ∙ ap (λ x. (E x).waits) is.fields;
      says = says_by config w f _ kind ∙ all_silent w.reverse (not (is_some w.known.ack)) (greets_by (asker_with config) (Some f)) (opens_by (asker_with config) (Some f));
      gives = gives_by w f _ _ refl kind;
    }

pub by_message : (config : ClientConfig) (w : Awaiting) (f : Frame) (parts : Parts) → IsFrameOf f.bytes parts → parts.kind ≡ kinds.Message → is_awaited w.reverse w.known w.due (Some kinds.Message) ≡ true →
    IsEffect (answer_effect config w f.moment parts.flag (chunk_of parts.fields)) config w f
by_message config w f parts is e turn =
    let kind : kind_of f.bytes ≡ Some kinds.Message = is.kind ∙ ap Some e in
    let E : List ℕ → ClientEffect = λ x. answer_effect config w f.moment parts.flag (chunk_of x) in
    record {
      rows = (λ i. first_row (rows_at config w f (is.flag i) (kind i)))
          ∙ in_turn (is_awaited w.reverse w.known w.due (Some kinds.Message)) (type_rows_at config w f parts.flag (Some kinds.Message)) turn
          ∙ ap (λ x. first_row (E x).rows) is.fields;
      waits = waits_by w f _ _ is.flag kind
          ∙ (λ i. record (waits_at w f parts.flag (Some kinds.Message)) { reverse = still w.reverse i; known = record (known_at w.known f parts.flag (Some kinds.Message)) { ack = same_ack w.known.ack (acknowledge_in f) i } })
          ∙ ap (λ x. (E x).waits) is.fields;
      says = says_by config w f _ kind ∙ all_silent w.reverse (not (is_some w.known.ack)) (greets_by (asker_with config) (Some f)) (opens_by (asker_with config) (Some f));
      gives = gives_by w f _ _ is.flag kind ∙ ap (λ x. (E x).gives) is.fields;
    }

-- an ERR, which may come at any time
pub by_error : (config : ClientConfig) (w : Awaiting) (f : Frame) (parts : Parts) → IsFrameOf f.bytes parts → parts.kind ≡ kinds.Error → header_fault (greatest_answer w.known.ack) f.bytes ≡ None →
    awaiting_fault (asker_with config) w f ≡ first_row (error_rows (error_of parts.fields))
by_error config w f parts is e h =
    let kind : kind_of f.bytes ≡ Some kinds.Error = is.kind ∙ ap Some e in
    by_rows config w f h ∙ ap (λ κ. first_row (rows_at config w f (flag_of f.bytes) κ)) kind ∙ ap (λ x. first_row (error_rows (error_of x))) is.fields
