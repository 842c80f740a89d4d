-- What a MSG or CLO brings to a channel, and a part to those before it.
use Rattle.std.specs.Prelude.{◌≡◌, ℕ, ◌<◌, ◌^◌, ◌&&◌, ◌==◌, List, [], ◌∷◌, ◌++◌, length, Option, Some, None, is_none, if◌then◌else◌}
use Rattle.ua_frame.specs.Layout.{Parts}
use Rattle.ua_frame.specs.Rows.{Row}
use Rattle.ua_chunk.specs.Layout.{FlaggedChunk, chunk_of, with_flag}
use Rattle.ua_chunk.specs.Half.{Half, body_of, part_rows, half_after}
use Rattle.ua_chunk.specs.Gathered.{Gathered}
use Rattle.ua_channel.specs.Channel.{Shown, heard}
use Rattle.ua_service.specs.declared.request.Request.{Request}
use Rattle.ua_service.specs.Requests.{request_of}

-- the chunk of this frame, and the channel that admitted it
pub record IsHeard (old new : Shown) (frame : Parts) (now : ℕ) (c : FlaggedChunk) : Type 0 where
  pub chunk : with_flag frame.kind frame.flag (chunk_of frame.fields) ≡ Some c
  pub short : length c.chunk.body < 2 ^ 32
  pub channel : new ≡ record { channel = heard old.channel c.chunk.token c.chunk.sequence; moment = now }

-- the rows of a part, and of the request that it makes whole
abbrev pub gathered_rows : Gathered → FlaggedChunk → List Row
gathered_rows g c =
    part_rows g.max_message g.max_chunks g.half c.flag c.chunk.request_id c.chunk.body
    ++ (c.flag == 70 && is_none (request_of (body_of g.half ++ c.chunk.body)), 0x80070000)
    ∷ []

-- the request that a part makes whole
abbrev pub whole_with : Option Half → ℕ → List ℕ → Option Request
whole_with half flag bytes = if flag == 70 then request_of (body_of half ++ bytes) else None

-- the request that the part makes whole, and what is half received then
pub record Gathers (old new : Gathered) (c : FlaggedChunk) (request : Option Request) : Type 0 where
  pub whole : request ≡ whole_with old.half c.flag c.chunk.body
  pub half : new.half ≡ half_after old.half c.flag c.chunk.request_id c.chunk.body
