-- What a client's connection is made of, and the ranges that its numbers keep to.
use Rattle.std.specs.Prelude.{◌≡◌, ℕ, ◌<◌, ◌≤◌, ◌^◌, Bool, List, Option, IfSome, false, length}
use Rattle.ua_frame.specs.declared.acknowledge.Ack.{Ack}
use Rattle.ua_chunk.specs.Gathered.{Gathered}
use Rattle.ua_chunk.specs.NumberLaws.{IsNumber}
use Rattle.ua_chunk.specs.Half.{Half, body_of}
use Rattle.ua_channel.specs.Channel.{Shown}
use Rattle.ua_service.specs.declared.request.Request.{Request}
use Rattle.ua_conn.specs.server.Ranges.{IsBuffer}
use Rattle.ua_conn.specs.client.Past.{ClientKnown}
use Rattle.ua_conn.specs.client.Taking.{ClientRunning}
use Rattle.ua_conn.specs.declared.client.config.ClientConfig.{ClientConfig}

-- both sizes of an Acknowledge that was accepted. OPC 10000-6, 7.1.2.4.
pub record IsAccepted (ack : Ack) : Type 0 where
  pub receive : IsBuffer ack.receive
  pub send : IsBuffer ack.send

-- what is received so far, between two frames, within the client's own limits
pub record IsHalf (config : ClientConfig) (half : Gathered) : Type 0 where
  pub max_message : half.max_message ≡ config.max_message
  pub max_chunks : half.max_chunks ≡ config.max_chunks
  pub whole : half.whole ≡ false
  pub short : half.max_message < 2 ^ 32
  pub bytes : length (body_of half.half) ≤ half.max_message

-- There is no other part, as `alone` says.
pub record IsRunning (config : ClientConfig) (ack : Option Ack) (half : Gathered) (next : ℕ) (alone : Type 0) : Type 0 where
  pub buffer : IsBuffer config.buffer
  pub accepted : IfSome ack IsAccepted
  pub frames : IfSome ack (λ a. a.send ≤ config.buffer)
  pub between : IsHalf config half
  pub number : IsNumber next
  pub all : alone

-- what its parts say of the frames before
abbrev pub client_known_of : Option Ack → Shown → Option Half → ClientKnown
client_known_of ack channel half = record { ack = ack; channel = channel.channel.id; tokens = channel.channel.tokens; last = channel.channel.last; half = half }

abbrev pub client_running_of : ClientConfig → Bool → Option Ack → Shown → Option Half → List (ℕ × Request) → Option ℕ → ℕ → ClientRunning
client_running_of config reverse ack channel half pending due next = record {
  config = config;
  waits = record { reverse = reverse; known = client_known_of ack channel half; pending = pending; due = due };
  next = next;
  moment = channel.moment;
}
