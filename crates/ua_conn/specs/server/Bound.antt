-- How many bytes of its input a server holds, and that it keeps nothing else.
use Rattle.std.specs.Prelude.{◌≡◌, ℕ, ◌+◌, ◌≤◌, length}
use Rattle.ua_frame.specs.declared.limits.Limits.{Limits}
use Rattle.ua_chunk.specs.Half.{body_of}
use Rattle.ua_conn.specs.server.Held.{Held}
use Rattle.ua_conn.specs.server.Feeding.{IsTimely}
use Rattle.ua_conn.specs.declared.server.Server.TheInside.{Inside}

-- those that are not used yet, and those of the half received message
abbrev pub held_bytes : Held → ℕ
held_bytes h = length h.rest + length (body_of h.known.half)

-- as many as fit the buffer and the longest message
abbrev pub most_held : Limits → ℕ
most_held limits = limits.receive + limits.max_message

-- These are all its parts: one that has the same is the same server.
abbrev pub IsAll : Inside → Type 0
IsAll s = (t : Inside) → t.alloc ≡ s.alloc → t.connection ≡ s.connection → t.buffer ≡ s.buffer → t.moment ≡ s.moment → t.failed ≡ s.failed → t ≡ s

-- The buffer has the room that the limits say, the half received message is within them, and there is no third part.
pub record IsBounded (s : Inside) : Type 0 where
  pub room : s.buffer.capacity ≡ s.connection.site.settings.limits.receive
  pub rest : length s.buffer.bytes ≤ s.buffer.capacity
  pub half : length (body_of s.connection.known.half) ≤ s.connection.site.settings.limits.max_message
  pub all : IsAll s

pub record IsServer (s : Inside) : Type 0 where
  pub timely : IsTimely s.connection.moment s.moment s.failed
  pub bounded : IsBounded s
