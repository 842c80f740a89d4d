-- How many bytes of the server's a client holds, and that it keeps nothing else of them.
use Rattle.std.specs.Prelude.{◌≡◌, ℕ, ◌+◌, ◌≤◌, length}
use Rattle.ua_chunk.specs.Half.{body_of}
use Rattle.ua_conn.specs.server.Feeding.{IsTimely}
use Rattle.ua_conn.specs.client.Held.{ClientHeld}
use Rattle.ua_conn.specs.declared.client.config.ClientConfig.{ClientConfig}
use Rattle.ua_conn.specs.declared.client.Client.TheInside.{Inside}

-- those that are not used yet, and those of the half received message
abbrev pub held_bytes : ClientHeld → ℕ
held_bytes h = length h.rest + length (body_of h.known.half)

-- as many as fit the buffer and the longest message
abbrev pub most_held : ClientConfig → ℕ
most_held config = config.buffer + config.max_message

-- These are all its parts: one that has the same is the same client.
abbrev pub IsAll : Inside → Type 0
IsAll s =
    (t : Inside) → t.alloc ≡ s.alloc → t.connection ≡ s.connection → t.closed ≡ s.closed → t.next_id ≡ s.next_id → t.buffer ≡ s.buffer
    → t.output ≡ s.output → t.moment ≡ s.moment → t.failed ≡ s.failed → t ≡ s

-- The buffer has the room that the configuration says, the half received message is within it, and there is no other part but the output.
pub record IsBounded (s : Inside) : Type 0 where
  pub room : s.buffer.capacity ≡ s.connection.config.buffer
  pub rest : length s.buffer.bytes ≤ s.buffer.capacity
  pub half : length (body_of s.connection.waits.known.half) ≤ s.connection.config.max_message
  pub all : IsAll s

pub record IsClient (s : Inside) : Type 0 where
  pub timely : IsTimely s.connection.moment s.moment s.failed
  pub bounded : IsBounded s
