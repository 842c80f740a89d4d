-- How a file of packets begins.
use Rattle.std.specs.Prelude.{ℕ, ◌==◌, ◌&&◌, ◌||◌, not, nat_lt, Bool, true, false, List, length, Option, Some, None}
use Rattle.ua_capture.specs.Number.{big_32}
use Rattle.ua_capture.specs.declared.number.Order.{Order}
use Rattle.ua_capture.specs.Pcap.{magic_of}

abbrev pub is_known : Option (Order × Bool) → Bool
is_known None = false
is_known (Some m) = true

-- the number of the block that begins a section of pcapng, or one of the magic numbers of pcap
abbrev pub is_capture : List ℕ → Bool
is_capture bytes = not (nat_lt (length bytes) 4) && (big_32 bytes 0 == 0x0A0D0D0A || is_known (magic_of (big_32 bytes 0)))
