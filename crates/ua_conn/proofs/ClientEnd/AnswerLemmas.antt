-- What a part of an answer does to a client, put together from the steps that take it.
use Rattle.std.proofs.Common.{◌≡◌, ℕ, Bool, true, false, cond, ◌&&◌, ◌==◌, List, [], ◌∷◌, ◌++◌, Option, Some, None, refl, sym, ap, subst, ◌∙◌}
use Rattle.std.specs.Prelude.{not, ◌||◌, is_some, is_none, option_map}
use Rattle.std.proofs.lemmas.List.{append-nil}
use Rattle.ua_frame.specs.Rows.{Row, first_row}
use Rattle.ua_frame.specs.declared.acknowledge.Ack.{Ack}
use Rattle.ua_frame.specs.declared.kind.Kind.{Kind}
use Rattle.ua_chunk.specs.Layout.{Chunk, FlaggedChunk, abort_of}
use Rattle.ua_chunk.specs.Half.{Half, body_of, may_have_id, message_too_large, abort_malformed, half_after, ends_message}
use Rattle.ua_chunk.specs.Gathered.{Gathered}
use Rattle.ua_channel.specs.Channel.{Shown, numbered}
use Rattle.ua_service.specs.declared.request.Request.{Request}
use Rattle.ua_service.specs.declared.response.Response.{Response}
use Rattle.ua_service.specs.Responses.{response_of}
use Rattle.ua_conn.specs.Past.{or_empty}
use Rattle.ua_conn.specs.client.Past.{client_channel}
use Rattle.ua_conn.specs.client.Faults.{broken, answer_rows, whole_rows}
use Rattle.ua_conn.specs.client.Reading.{answer_with}
use Rattle.ua_conn.specs.client.Machine.{waiting_under, without}
use Rattle.ua_conn.specs.client.Ranges.{client_known_of, client_running_of, IsHalf}
use Rattle.ua_conn.specs.client.Parts.{gathered_rows, result_with, Gathers}
use Rattle.ua_conn.specs.client.Effects.{asker_with, answer_heard_rows, answer_effect, Acts}
use Rattle.ua_conn.specs.declared.client.config.ClientConfig.{ClientConfig}
use Rattle.ua_conn.specs.declared.client.answer.Answer.{Answer}
use Rattle.ua_conn.specs.declared.client.answer.AnswerResult.{AnswerResult}
use Rattle.ua_conn.specs.declared.client.answer.AnswerResult.TheVariants as results
use Rattle.ua_conn.specs.declared.client.fault.ClientFault.TheVariants.{Broken}
use Rattle.ua_conn.proofs.TableLemmas.{join_none, first_passes}
use Rattle.ua_conn.proofs.ServerEnd.MessageLemmas.{IsChunkOf}
use Rattle.ua_conn.proofs.ClientEnd.EffectLemmas.{broken_first, broken_none, given, waits_of}

-- what the rows of a part say counts for the whole table
answer_decides : (config : ClientConfig) (reverse : Bool) (ack : Option Ack) (channel : Shown) (half : Option Half) (pending : List (ℕ × Request)) (due : Option ℕ) (now flag : ℕ) (o : Option Chunk) (c : Chunk) →
    o ≡ Some c → first_row (answer_heard_rows channel.channel now o) ≡ None →
    first_row (answer_effect config (waits_of reverse ack channel half pending due) now flag o).rows ≡ option_map Broken (first_row (answer_rows (asker_with config) (client_known_of ack channel half) (waiting_under c.request_id pending) flag c))
answer_decides config reverse ack channel half pending due now flag o c e h =
    let d = or_empty o in
    let heard = answer_heard_rows (client_channel (client_known_of ack channel half)) now o in
    let more : Chunk → List Row = λ c. answer_rows (asker_with config) (client_known_of ack channel half) (waiting_under c.request_id pending) flag c in
    broken_first (heard ++ more d) ∙ ap (option_map Broken) (join_none heard (more d) h ∙ ap (λ o. first_row (more (or_empty o))) e)

passes_id : (b : Bool) (status : ℕ) (o : Option ℕ) → b ≡ true → cond (not b) (Some status) o ≡ o
passes_id true status o h = refl
passes_id false status o h = absurd (cc)

-- ---- a part of an answer that waits

-- the rows of a part, as the whole table has them
gathered_are : (config : ClientConfig) (ack : Option Ack) (channel : Shown) (g : Gathered) (c : FlaggedChunk) (flag : ℕ) (request : Request) (wanted : Option Request) →
    IsHalf config g → c.flag ≡ flag → wanted ≡ Some request → may_have_id g.half c.chunk.request_id ≡ true →
    first_row (answer_rows (asker_with config) (client_known_of ack channel g.half) wanted flag c.chunk) ≡ first_row (gathered_rows g c request)
gathered_are config ack channel g c flag request wanted b q w same =
    (λ i. first_row (answer_rows (asker_with config) (client_known_of ack channel g.half) (w i) (sym q i) c.chunk))
    ∙ passes_id (may_have_id g.half c.chunk.request_id) 0x807E0000 _ same
    ∙ (λ i. first_row (
    message_too_large (sym b.max_message i) (sym b.max_chunks i) g.half c.flag c.chunk.body
    ∷ abort_malformed c.flag c.chunk.body
    ∷ cond (c.flag == 70) (whole_rows (Some request) (response_of (body_of g.half ++ c.chunk.body))) []))

pub answer_rows_are : (config : ClientConfig) (reverse : Bool) (ack : Option Ack) (channel : Shown) (g : Gathered) (pending : List (ℕ × Request)) (due : Option ℕ) (now flag : ℕ) (o : Option Chunk) (c : FlaggedChunk) (kind : Kind) (request : Request) →
    IsHalf config g → IsChunkOf kind flag o c → first_row (answer_heard_rows channel.channel now o) ≡ None → may_have_id g.half c.chunk.request_id ≡ true → waiting_under c.chunk.request_id pending ≡ Some request →
    first_row (answer_effect config (waits_of reverse ack channel g.half pending due) now flag o).rows ≡ first_row (broken (gathered_rows g c request))
answer_rows_are config reverse ack channel g pending due now flag o c kind request b is h same w =
    answer_decides config reverse ack channel g.half pending due now flag o c.chunk is.chunk h
    ∙ ap (option_map Broken) (gathered_are config ack channel g c flag request (waiting_under c.chunk.request_id pending) b is.flag_is w same)
    ∙ sym (broken_first (gathered_rows g c request))

-- ---- what came of it

-- a message that ends has a result
ends_with : (g : Gathered) (c : FlaggedChunk) (request : Request) → first_row (gathered_rows g c request) ≡ None → is_some (result_with g.half c.flag c.chunk.body) ≡ ends_message c.flag
ends_with g c request h =
    let too_large = first_passes _ _ _ h in
    let malformed = first_passes _ _ _ too_large.1 in
    by (c.flag == 70) (c.flag == 65) (response_of (body_of g.half ++ c.chunk.body)) (abort_of c.chunk.body) malformed.0 malformed.1
  where
    by : (whole aborted : Bool) (o : Option Response) (p : Option ℕ) → (aborted && is_none p) ≡ false → first_row (cond whole (whole_rows (Some request) o) []) ≡ None →
        is_some (cond whole (option_map results.Response o) (cond aborted (option_map results.Aborted p) None)) ≡ (whole || aborted)
    by true aborted (Some r) p m w = refl
    by true aborted None p m w = absurd (cc w)
    by false true o (Some status) m w = refl
    by false true o None m w = absurd (cc)
    by false false o p m w = refl

-- what is pending then, and what is handed out
pub record Ends (id : ℕ) (pending pending' : List (ℕ × Request)) (came : Option AnswerResult) (had has : List Answer) : Type 0 where
  pub left : pending' ≡ cond (is_some came) (without id pending) pending
  pub given : has ≡ had ++ answer_with id (waiting_under id pending) came

pub answer_acts : (config : ClientConfig) (reverse : Bool) (ack : Option Ack) (channel new : Shown) (g g' : Gathered) (pending pending' : List (ℕ × Request)) (due : Option ℕ) (next now flag : ℕ) (o : Option Chunk) (c : FlaggedChunk) (kind : Kind) (request : Request) (came : Option AnswerResult) (bytes : List ℕ) (had has : List Answer) →
    IsHalf config g → IsChunkOf kind flag o c → first_row (answer_heard_rows channel.channel now o) ≡ None → new ≡ record { channel = numbered channel.channel c.chunk.sequence; moment = now } →
    may_have_id g.half c.chunk.request_id ≡ true → waiting_under c.chunk.request_id pending ≡ Some request →
    first_row (broken (gathered_rows g c request)) ≡ None → Gathers g g' c came → Ends c.chunk.request_id pending pending' came had has →
    Acts (answer_effect config (waits_of reverse ack channel g.half pending due) now flag o) (client_running_of config reverse ack channel g.half pending due next) (client_running_of config reverse ack new g'.half pending' due next) (given bytes had) (given bytes has)
answer_acts config reverse ack channel new g g' pending pending' due next now flag o c kind request came bytes had has b is heard h same w rows gathers ends =
    let id = c.chunk.request_id in
    let whole : came ≡ result_with g.half flag c.chunk.body = gathers.result ∙ ap (λ flag. result_with g.half flag c.chunk.body) is.flag_is in
    let ended : is_some came ≡ ends_message flag = ap is_some gathers.result ∙ ends_with g c request (broken_none (gathered_rows g c request) rows) ∙ ap ends_message is.flag_is in
    subst (λ o. Acts (answer_effect config (waits_of reverse ack channel g.half pending due) now flag o) (client_running_of config reverse ack channel g.half pending due next) (client_running_of config reverse ack new g'.half pending' due next) (given bytes had) (given bytes has)) (sym is.chunk)
    (record {
      fine = ap (λ o. first_row (answer_effect config (waits_of reverse ack channel g.half pending due) now flag o).rows) (sym is.chunk) ∙ answer_rows_are config reverse ack channel g pending due now flag o c kind request b is heard same w ∙ rows;
      config = refl;
      waits = (λ i. waits_of reverse ack (h i) (gathers.half i) (ends.left i) due)
          ∙ (λ i. record (waits_of reverse ack channel g.half pending due) {
            known = record (client_known_of ack channel g.half) { last = Some c.chunk.sequence; half = half_after g.half (is.flag_is i) id c.chunk.body };
            pending = cond (ended i) (without id pending) pending;
          });
      number = refl;
      said = sym (append-nil bytes);
      given = ends.given ∙ ap (λ r. had ++ answer_with id (waiting_under id pending) r) whole;
    })
