-- What a buffer holds: its parts, and nothing beside them.
use Rattle.std.specs.Prelude.{◌≡◌}
use Rattle.ua_frame.specs.declared.buffer.FrameBuf.TheInside.{Inside}

-- These are all its parts: one that has the same is the same buffer.
abbrev pub IsAll : Inside → Type 0
IsAll s = (t : Inside) → t.bytes ≡ s.bytes → t.start ≡ s.start → t.capacity ≡ s.capacity → t.awaited ≡ s.awaited → t.limit ≡ s.limit → t ≡ s
