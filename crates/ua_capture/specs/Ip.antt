-- What a datagram carries: RFC 791, 3.1, and RFC 8200, 3 and 4.
use Rattle.std.specs.Prelude.{ℕ, zero, suc, ◌+◌, ◌*◌, ◌/◌, ◌%◌, ◌-◌, ◌≤◌, min, ◌==◌, ◌||◌, ◌&&◌, not, nat_lt, Bool, List, length, slice_index, if◌then◌else◌}
use Rattle.ua_capture.specs.Number.{big_16}
use Rattle.ua_capture.specs.declared.link.Version.{Version}
use Rattle.ua_capture.specs.declared.link.Version.TheVariants as versions
use Rattle.ua_capture.specs.declared.ip.Carried.{Carried}
use Rattle.ua_capture.specs.declared.ip.Carried.TheVariants.{Tcp, Fragment, Other}

-- the number of TCP among the protocols
abbrev pub is_tcp : ℕ → Bool
is_tcp protocol = protocol == 6

-- Where something that begins at a place ends, by the length that its header says: what stands behind that is padding of the link layer.
-- No more than was captured is there, and a length of 0 is left open by a card that cuts the datagram later.
unfoldable pub end_by : List ℕ → ℕ → ℕ → ℕ → ℕ
end_by bytes at said header = if said == 0 then length bytes else min (at + header + said) (length bytes)

abbrev pub segment_between : ℕ → ℕ → Carried
segment_between at end = if nat_lt end at then Other else Tcp at end

-- ---- version 4: the header's length in words of four bytes, the flags and the offset of fragments

abbrev pub header_of : List ℕ → ℕ → ℕ
header_of bytes at = 4 * (slice_index bytes at % 16)

abbrev pub is_four : List ℕ → ℕ → Bool
is_four bytes at = slice_index bytes at / 16 == 4 && not (nat_lt (header_of bytes at) 20) && is_tcp (slice_index bytes (at + 9))

-- all bits but "don't fragment" and the reserved one are 0 in a datagram that is whole
abbrev pub is_whole_four : List ℕ → ℕ → Bool
is_whole_four bytes at = big_16 bytes (at + 6) % 16384 == 0

unfoldable pub four_of : List ℕ → ℕ → Carried
four_of bytes at =
    if nat_lt (length bytes) (at + 20) then Other else
    (if is_four bytes at then
    (if is_whole_four bytes at then segment_between (at + header_of bytes at) (end_by bytes at (big_16 bytes (at + 2)) 0) else Fragment)
    else Other)

-- ---- version 6: extension headers, each of which says the next

-- hop-by-hop options, routing, authentication, destination options, mobility, host identity, shim6
abbrev pub is_extension : ℕ → Bool
is_extension next = next == 0 || next == 43 || next == 51 || next == 60 || next == 135 || next == 139 || next == 140

-- the length of one by its second byte: in words of eight bytes, and of four for authentication (RFC 4302, 2.2)
abbrev pub extension_length : ℕ → ℕ → ℕ
extension_length next second = if next == 51 then 8 + 4 * second else 8 + 8 * second

-- a fragment header that says the whole: no offset, and no more fragments
abbrev pub is_whole_six : List ℕ → ℕ → Bool
is_whole_six bytes at = big_16 bytes (at + 2) / 8 == 0 && big_16 bytes (at + 2) % 2 == 0

-- what a fragment of that next header is part of
abbrev pub fragment_of : ℕ → Carried
fragment_of next = if is_tcp next || is_extension next then Fragment else Other

-- What stands behind at most so many extension headers, of which the first is of type `next` and begins at a place.
unfoldable pub headers_passed : ℕ → List ℕ → ℕ → ℕ → ℕ → Carried
headers_passed zero bytes next at end = if is_tcp next then Tcp at end else Other
headers_passed (suc most) bytes next at end =
    if is_tcp next then Tcp at end else
    (if next == 44 then
    (if nat_lt (end - at) 8 then Other else
    (if is_whole_six bytes at then headers_passed most bytes (slice_index bytes at) (at + 8) end else fragment_of (slice_index bytes at))) else
    (if is_extension next then
    (if nat_lt (end - at) 8 then Other else
    (if nat_lt (end - at) (extension_length next (slice_index bytes (at + 1))) then Other else
    headers_passed most bytes (slice_index bytes at) (at + extension_length next (slice_index bytes (at + 1))) end)) else Other))

unfoldable pub six_of : List ℕ → ℕ → Carried
six_of bytes at =
    if nat_lt (length bytes) (at + 40) then Other else
    (if slice_index bytes at / 16 == 6 then
    headers_passed 16 bytes (slice_index bytes (at + 6)) (at + 40) (end_by bytes at (big_16 bytes (at + 4)) 40) else Other)

abbrev pub carried_of : Version → List ℕ → ℕ → Carried
carried_of versions.Four bytes at = four_of bytes at
carried_of versions.Six bytes at = six_of bytes at

-- a segment begins behind the header, and ends within what was captured
abbrev pub IsPlaced : List ℕ → ℕ → Carried → Type 0
IsPlaced bytes least (Tcp at end) = (least ≤ at) × (at ≤ end) × (end ≤ length bytes)
IsPlaced bytes least Fragment = Unit {0}
IsPlaced bytes least Other = Unit {0}

-- the bytes that a header has at the least
abbrev pub least_of : Version → ℕ
least_of versions.Four = 20
least_of versions.Six = 40
