-- What a channel holds: its parts, and nothing beside them.
use Rattle.std.specs.Prelude.{◌≡◌}
use Rattle.ua_channel.specs.declared.channel.ServerChannel.TheInside as server
use Rattle.ua_channel.specs.declared.client.ClientChannel.TheInside as client

-- These are all its parts: a server's end that has the same is the same.
abbrev pub IsAll : server.Inside → Type 0
IsAll s = (t : server.Inside) → t.id ≡ s.id → t.tokens ≡ s.tokens → t.last ≡ s.last → t.used ≡ s.used → t.moment ≡ s.moment → t ≡ s

-- the same of a client's end
abbrev pub IsAllOfClient : client.Inside → Type 0
IsAllOfClient s = (t : client.Inside) → t.id ≡ s.id → t.tokens ≡ s.tokens → t.last ≡ s.last → t.moment ≡ s.moment → t ≡ s
