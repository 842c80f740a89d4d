-- Where the internet protocol begins in a packet, by the link types of the list of tcpdump.org (LINKTYPE values).
use Rattle.std.specs.Prelude.{ℕ, zero, suc, ◌+◌, ◌==◌, ◌&&◌, ◌||◌, nat_lt, Bool, List, length, slice_index, Option, Some, None, if◌then◌else◌}
use Rattle.ua_capture.specs.Number.{big_16}
use Rattle.ua_capture.specs.declared.link.Datagram.{Datagram}
use Rattle.ua_capture.specs.declared.link.Version.{Version}
use Rattle.ua_capture.specs.declared.link.Version.TheVariants.{Four, Six}

-- the type of a VLAN tag, of IEEE 802.1Q, 802.1ad, and before these
abbrev pub is_tag : ℕ → Bool
is_tag type = type == 0x8100 || type == 0x88A8 || type == 0x9100

-- The place of the type that is none of a tag: a tag has two bytes of its own, and the next type stands behind them.
unfoldable pub tags_passed : ℕ → List ℕ → ℕ → Option ℕ
tags_passed zero bytes at = if nat_lt (length bytes) (at + 2) then None else Some at
tags_passed (suc most) bytes at =
    if nat_lt (length bytes) (at + 2) then None else (if is_tag (big_16 bytes at) then tags_passed most bytes (at + 4) else Some at)

-- the protocol that an EtherType names
abbrev pub version_by_type : ℕ → Option Version
version_by_type type = if type == 0x0800 then Some Four else (if type == 0x86DD then Some Six else None)

abbrev pub datagram_at : ℕ → Option Version → Option Datagram
datagram_at at None = None
datagram_at at (Some version) = Some (record { version = version; at = at })

-- a datagram behind its EtherType
abbrev pub behind_type : List ℕ → Option ℕ → Option Datagram
behind_type bytes None = None
behind_type bytes (Some at) = datagram_at (at + 2) (version_by_type (big_16 bytes at))

-- where the EtherType may stand behind VLAN tags
abbrev pub network_by_type : List ℕ → ℕ → Option Datagram
network_by_type bytes at = behind_type bytes (tags_passed 8 bytes at)

-- The address family of a loopback packet, in the order of the machine that captured it: one byte that is not 0, the first or the last.
abbrev pub version_by_family : ℕ → Option Version
version_by_family family = if family == 2 then Some Four else (if family == 10 || family == 24 || family == 28 || family == 30 then Some Six else None)

abbrev pub network_by_family : List ℕ → Option Datagram
network_by_family bytes =
    if nat_lt (length bytes) 4 then None else
    (if slice_index bytes 1 == 0 && slice_index bytes 2 == 0 then
    (if slice_index bytes 3 == 0 then datagram_at 4 (version_by_family (slice_index bytes 0)) else
    (if slice_index bytes 0 == 0 then datagram_at 4 (version_by_family (slice_index bytes 3)) else None)) else None)

-- a datagram says its version in its first four bits
abbrev pub version_by_byte : ℕ → Option Version
version_by_byte first = if nat_lt first 64 then None else (if nat_lt first 80 then Some Four else (if nat_lt first 96 then None else (if nat_lt first 112 then Some Six else None)))

abbrev pub network_raw : List ℕ → Option Datagram
network_raw bytes = if nat_lt (length bytes) 1 then None else datagram_at 0 (version_by_byte (slice_index bytes 0))

-- Linux cooked, version 2: the type stands in front, and 18 bytes of other fields behind it
abbrev pub network_cooked : List ℕ → Option Datagram
network_cooked bytes =
    if nat_lt (length bytes) 22 then None else
    (if is_tag (big_16 bytes 0) then network_by_type bytes 22 else datagram_at 20 (version_by_type (big_16 bytes 0)))

-- Ethernet, Linux cooked, BSD loopback in either order, raw IP, and raw IP of one version.
abbrev pub network_of : ℕ → List ℕ → Option Datagram
network_of link bytes =
    if link == 1 then network_by_type bytes 12 else
    (if link == 113 then network_by_type bytes 14 else
    (if link == 276 then network_cooked bytes else
    (if link == 0 || link == 108 then network_by_family bytes else
    (if link == 101 || link == 12 || link == 14 then network_raw bytes else
    (if link == 228 then Some (record { version = Four; at = 0 }) else
    (if link == 229 then Some (record { version = Six; at = 0 }) else None))))))
