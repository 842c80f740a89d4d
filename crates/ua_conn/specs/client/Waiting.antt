-- What pending requests are kept in, and nothing beside it.
use Rattle.std.specs.Prelude.{◌≡◌}
use Rattle.ua_conn.specs.declared.client.pending.Pending.TheInside.{Inside}

-- The map from ids is all: pending requests with the same one are the same.
abbrev pub IsAll : Inside → Type 0
IsAll s = (t : Inside) → t.map ≡ s.map → t ≡ s
