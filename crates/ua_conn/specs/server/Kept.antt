-- What a connection of a server is made of, and nothing beside it.
use Rattle.std.specs.Prelude.{◌≡◌}
use Rattle.ua_conn.specs.declared.server.connection.Connection.TheInside.{Inside}

-- These are all its parts: one that has the same is the same connection.
abbrev pub IsAll : Inside → Type 0
IsAll s =
    (t : Inside) → t.alloc ≡ s.alloc → t.settings ≡ s.settings → t.id ≡ s.id → t.channel ≡ s.channel → t.agreed ≡ s.agreed → t.half ≡ s.half → t.next ≡ s.next
    → t ≡ s
