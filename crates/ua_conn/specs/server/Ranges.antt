-- What a connection is made of, and the ranges that its numbers keep to.
use Rattle.std.specs.Prelude.{◌≡◌, ℕ, ◌<◌, ◌≤◌, ◌^◌, false, length, Option, IfSome}
use Rattle.ua_frame.specs.declared.limits.Limits.{Limits}
use Rattle.ua_frame.specs.Sizes.{least_buffer, most_buffer}
use Rattle.ua_chunk.specs.Gathered.{Gathered}
use Rattle.ua_chunk.specs.NumberLaws.{IsNumber}
use Rattle.ua_chunk.specs.Half.{Half, body_of}
use Rattle.ua_channel.specs.Channel.{Shown}
use Rattle.ua_disco.specs.Configuration.{Configuration}
use Rattle.ua_conn.specs.Past.{Agreed, Known}
use Rattle.ua_conn.specs.server.Taking.{Running}

-- a size of a buffer that an end here has. OPC 10000-6, 7.1.2.3.
pub record IsBuffer (n : ℕ) : Type 0 where
  pub least : least_buffer ≤ n
  pub most : n ≤ most_buffer

-- what is received so far, between two frames, within the limit on a message
pub record IsBetween (limits : Limits) (half : Gathered) : Type 0 where
  pub max_message : half.max_message ≡ limits.max_message
  pub max_chunks : half.max_chunks ≡ limits.max_chunks
  pub whole : half.whole ≡ false
  pub short : half.max_message < 2 ^ 32
  pub bytes : length (body_of half.half) ≤ half.max_message

-- The frames that the client takes hold a header, the numbers of a chunk and a part of an answer, and those that it
-- sends fit the server's buffer. There is no other part, as `alone` says.
pub record IsConnection (limits : Limits) (channel id : ℕ) (agreed : Option Agreed) (half : Gathered) (next : ℕ) (alone : Type 0) : Type 0 where
  pub same : channel ≡ id
  pub buffer : IsBuffer limits.receive
  pub receive : IfSome agreed (λ a. a.ack.receive ≤ limits.receive)
  pub send : IfSome agreed (λ a. IsBuffer a.ack.send)
  pub between : IsBetween limits half
  pub number : IsNumber next
  pub all : alone

-- what its parts say of the frames before
abbrev pub known_of : Option Agreed → Shown → Option Half → Known
known_of agreed channel half = record { limits = agreed; tokens = channel.channel.tokens; last = channel.channel.last; half = half; used = channel.channel.used }

abbrev pub running_of : Configuration → ℕ → Option Agreed → Shown → Option Half → ℕ → Running
running_of settings id agreed channel half next = record {
  site = record { settings = settings; channel = id };
  known = known_of agreed channel half;
  next = next;
  moment = channel.moment;
}
