-- What a MSG brings to a client's channel, and a part of an answer to those before it.
use Rattle.std.specs.Prelude.{◌≡◌, ℕ, ◌<◌, ◌^◌, true, ◌==◌, List, [], ◌∷◌, ◌++◌, length, Option, Some, None, option_map, if◌then◌else◌}
use Rattle.ua_frame.specs.Layout.{Parts}
use Rattle.ua_frame.specs.Rows.{Row}
use Rattle.ua_chunk.specs.Layout.{FlaggedChunk, chunk_of, with_flag, abort_of}
use Rattle.ua_chunk.specs.Half.{Half, body_of, message_too_large, abort_malformed, half_after}
use Rattle.ua_chunk.specs.Gathered.{Gathered}
use Rattle.ua_channel.specs.Channel.{Shown, numbered}
use Rattle.ua_service.specs.declared.request.Request.{Request}
use Rattle.ua_service.specs.declared.response.Response.{Response}
use Rattle.ua_service.specs.Responses.{response_of}
use Rattle.ua_conn.specs.client.Faults.{whole_rows, fits}
use Rattle.ua_conn.specs.declared.client.answer.AnswerResult.{AnswerResult}
use Rattle.ua_conn.specs.declared.client.answer.AnswerResult.TheVariants as results

-- the chunk of this frame, and the channel that admitted it
pub record IsHeard (old new : Shown) (frame : Parts) (now : ℕ) (c : FlaggedChunk) : Type 0 where
  pub chunk : with_flag frame.kind frame.flag (chunk_of frame.fields) ≡ Some c
  pub short : length c.chunk.body < 2 ^ 32
  pub channel : new ≡ record { channel = numbered old.channel c.chunk.sequence; moment = now }

-- a response that answers the request
pub record IsAnswer (request : Request) (body : List ℕ) (response : Response) : Type 0 where
  pub reads : response_of body ≡ Some response
  pub fit : fits request response ≡ true

-- own limits, and of message body an abort's; then the rows of a whole message
abbrev pub gathered_rows : Gathered → FlaggedChunk → Request → List Row
gathered_rows g c request =
    message_too_large g.max_message g.max_chunks g.half c.flag c.chunk.body
    ∷ abort_malformed c.flag c.chunk.body
    ∷ (if c.flag == 70 then whole_rows (Some request) (response_of (body_of g.half ++ c.chunk.body)) else [])

-- of a message that ends: the response that its bodies joined are, or the status of an abort
abbrev pub result_with : Option Half → ℕ → List ℕ → Option AnswerResult
result_with half flag bytes =
    if flag == 70 then option_map results.Response (response_of (body_of half ++ bytes))
    else (if flag == 65 then option_map results.Aborted (abort_of bytes)
    else None)

-- what came of the request, if the part ends the message, and what is half received then
pub record Gathers (old new : Gathered) (c : FlaggedChunk) (came : Option AnswerResult) : Type 0 where
  pub result : came ≡ result_with old.half c.flag c.chunk.body
  pub half : new.half ≡ half_after old.half c.flag c.chunk.request_id c.chunk.body
