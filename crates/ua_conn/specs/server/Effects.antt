-- What a whole frame of each type does, by what it carries: the rows that refuse it, what is known then, what is said and handed on.
use Rattle.std.specs.Prelude.{◌≡◌, ℕ, List, [], ◌∷◌, ◌++◌, map, Option, Some, None, is_none, option_map, Result, Ok, Err}
use Rattle.ua_frame.specs.Rows.{Row, first_row}
use Rattle.ua_frame.specs.Hello.{hello_rows}
use Rattle.ua_frame.specs.declared.hello.Hello.{Hello}
use Rattle.ua_chunk.specs.Layout.{OpenChunk, Chunk}
use Rattle.ua_chunk.specs.Half.{half_after}
use Rattle.ua_channel.specs.Channel.{Channel, most}
use Rattle.ua_channel.specs.Token.{next_token, two_newest}
use Rattle.ua_channel.specs.Admission.{admit_rows}
use Rattle.ua_service.specs.declared.channel.OpenRequest.{OpenRequest}
use Rattle.ua_service.specs.declared.request.Request.{Request}
use Rattle.ua_service.specs.ChannelMessages.{open_of}
use Rattle.ua_conn.specs.server.Site.{Site}
use Rattle.ua_conn.specs.Past.{Agreed, Known, agreed, or_empty, lifetime_asked, sequence_of, body_of as open_body}
use Rattle.ua_conn.specs.server.Faults.{channel_of, open_rows, message_rows, close_rows}
use Rattle.ua_conn.specs.server.Replies.{Reply, Answer, acknowledged, opened_by, answer_parts, to_list}
use Rattle.ua_conn.specs.server.Answers.{answer_body}
use Rattle.ua_conn.specs.server.Parts.{whole_with}
use Rattle.ua_conn.specs.server.Machine.{spelled_next, next_after}
use Rattle.ua_conn.specs.server.Taking.{Running, Gained}
use Rattle.ua_conn.specs.declared.server.fault.Fault.{Fault}
use Rattle.ua_conn.specs.declared.server.fault.Fault.TheVariants.{Refused, NoMemory}

pub record Effect : Type 0 where
  pub rows : List Row
  pub known : Known
  pub says : List Reply
  pub asks : List Request

-- ---- of each type

abbrev pub hello_effect : Site → Known → Option Hello → Effect
hello_effect site k hello = record {
  rows = hello_rows hello;
  known = record k { limits = option_map (agreed site) hello };
  says = acknowledged site hello;
  asks = [];
}

abbrev pub open_by : Site → Known → ℕ → Option OpenChunk → Option OpenRequest → Effect
open_by site k now opening request = record {
  rows = open_rows site k opening;
  known = record k { tokens = two_newest (next_token k.tokens now (lifetime_asked request) ∷ k.tokens); last = Some (sequence_of opening) };
  says = opened_by site k now opening request;
  asks = [];
}

abbrev pub open_effect : Site → Known → ℕ → Option OpenChunk → Effect
open_effect site k now opening = open_by site k now opening (open_of (open_body opening))

-- message layout; message channel, token, message sequence number
abbrev pub admitted_rows : Channel → ℕ → Option Chunk → List Row
admitted_rows channel now chunk = (is_none chunk, 0x80070000) ∷ admit_rows channel (or_empty chunk) now

abbrev pub heard_in : Known → Chunk → Known
heard_in k c = record k { last = Some c.sequence; used = Some (most k.used c.token) }

abbrev pub answers : Site → ℕ → ℕ → ℕ → Option Agreed → Option Request → List Reply
answers site now token id (Some agreed) (Some request) = map (Answer token) (answer_parts agreed id (answer_body site.settings request now))
answers site now token id (Some agreed) None = []
answers site now token id None request = []

abbrev pub message_effect : Site → Known → ℕ → ℕ → Option Chunk → Effect
message_effect site k now flag chunk =
    let c = or_empty chunk in
    record {
      rows = admitted_rows (channel_of site k) now chunk ++ message_rows site k flag c;
      known = record (heard_in k c) { half = half_after k.half flag c.request_id c.body };
      says = answers site now (most k.used c.token) c.request_id k.limits (whole_with k.half flag c.body);
      asks = to_list (whole_with k.half flag c.body);
    }

abbrev pub close_effect : Site → Known → ℕ → Option Chunk → Effect
close_effect site k now chunk = record {
  rows = admitted_rows (channel_of site k) now chunk ++ close_rows (or_empty chunk);
  known = heard_in k (or_empty chunk);
  says = [];
  asks = [];
}

-- ---- and what a call makes of it

-- no row refuses the frame: all that it does is done
pub record Acts (e : Effect) (old new : Running) (had has : Gained) : Type 0 where
  pub fine : first_row e.rows ≡ None
  pub site : new.site ≡ old.site
  pub known : new.known ≡ e.known
  pub number : new.next ≡ next_after old.next e.says
  pub said : has.bytes ≡ had.bytes ++ spelled_next old.site old.next e.says
  pub handed : has.asked ≡ had.asked ++ e.asks

-- the status of the first row that holds
pub record Stops (e : Effect) (status : ℕ) (had has : Gained) : Type 0 where
  pub fault : first_row e.rows ≡ Some status
  pub unchanged : has ≡ had

abbrev pub Does : Effect → Running → Running → Gained → Gained → Result (Unit {0}) Fault → Type 0
Does e old new had has (Ok u) = Acts e old new had has
Does e old new had has (Err (Refused status)) = Stops e status had has
Does e old new had has (Err NoMemory) = has.bytes ≡ had.bytes

-- what a judgement by the rows gives, unless memory ran out
abbrev pub Judges : {V : Type 0} → List Row → (V → Type 0) → Result V Fault → Type 0
Judges rows P (Ok v) = (first_row rows ≡ None) × P v
Judges rows P (Err (Refused status)) = first_row rows ≡ Some status
Judges rows P (Err NoMemory) = Unit {0}
