-- What a connection of a client is made of, and nothing beside it.
use Rattle.std.specs.Prelude.{◌≡◌}
use Rattle.ua_conn.specs.declared.client.connection.Connection.TheInside.{Inside}

-- These are all its parts: one that has the same is the same connection.
abbrev pub IsAll : Inside → Type 0
IsAll s =
    (t : Inside) → t.alloc ≡ s.alloc → t.config ≡ s.config → t.reverse ≡ s.reverse → t.channel ≡ s.channel → t.ack ≡ s.ack → t.half ≡ s.half → t.pending ≡ s.pending → t.due ≡ s.due
    → t.next ≡ s.next → t ≡ s
