-- What a packet is.
use Rattle.std.specs.Prelude.{ℕ, ◌+◌, ◌/◌, ◌%◌, ◌==◌, nat_lt, Bool, List, length, slice_range, Option, Some, None, if◌then◌else◌}
use Rattle.ua_capture.specs.declared.packet.Address.{Address}
use Rattle.ua_capture.specs.declared.packet.Address.TheVariants as addresses
use Rattle.ua_capture.specs.declared.packet.Packet.{Packet}
use Rattle.ua_capture.specs.declared.packet.Packet.TheVariants as packets
use Rattle.ua_capture.specs.declared.link.Datagram.{Datagram}
use Rattle.ua_capture.specs.declared.link.Version.{Version}
use Rattle.ua_capture.specs.declared.link.Version.TheVariants as versions
use Rattle.ua_capture.specs.declared.ip.Carried.{Carried}
use Rattle.ua_capture.specs.declared.ip.Carried.TheVariants as carried
use Rattle.ua_capture.specs.declared.tcp.Header.{Header}
use Rattle.ua_capture.specs.Link.{network_of}
use Rattle.ua_capture.specs.Ip.{carried_of}
use Rattle.ua_capture.specs.Tcp.{header_at}

abbrev pub has_flag : ℕ → ℕ → Bool
has_flag flags flag = flags / flag % 2 == 1

abbrev pub four_address : List ℕ → ℕ → List ℕ
four_address bytes at = slice_range bytes at (at + 4)

abbrev pub six_address : List ℕ → ℕ → List ℕ
six_address bytes at = slice_range bytes at (at + 16)

-- where the header of a datagram has the address that it comes from, and the one that it goes to
abbrev pub from_address : Version → List ℕ → ℕ → Address
from_address versions.Four bytes at = addresses.Four (four_address bytes (at + 12))
from_address versions.Six bytes at = addresses.Six (six_address bytes (at + 8))

abbrev pub to_address : Version → List ℕ → ℕ → Address
to_address versions.Four bytes at = addresses.Four (four_address bytes (at + 16))
to_address versions.Six bytes at = addresses.Six (six_address bytes (at + 24))

-- A segment with this header, in this datagram, whose bytes end at a place.
abbrev pub by_header : List ℕ → Datagram → ℕ → Option Header → Packet
by_header bytes d end None = packets.Other
by_header bytes d end (Some h) = packets.Segment (record {
  from = record { address = from_address d.version bytes d.at; port = h.from };
  to = record { address = to_address d.version bytes d.at; port = h.to };
  sequence = h.sequence;
  flags = h.flags;
  payload = slice_range bytes h.at end;
})

abbrev pub by_carried : List ℕ → Datagram → Carried → Packet
by_carried bytes d (carried.Tcp at end) = by_header bytes d end (header_at bytes at end)
by_carried bytes d carried.Fragment = packets.Fragment
by_carried bytes d carried.Other = packets.Other

abbrev pub by_datagram : List ℕ → Option Datagram → Packet
by_datagram bytes None = packets.Other
by_datagram bytes (Some d) = if nat_lt (length bytes) d.at then packets.Other else by_carried bytes d (carried_of d.version bytes d.at)

-- What a packet of this link type is.
abbrev pub packet_of : ℕ → List ℕ → Packet
packet_of link bytes = by_datagram bytes (network_of link bytes)
