-- The header of a TCP segment: RFC 9293, 3.1.
use Rattle.std.specs.Prelude.{ℕ, ◌+◌, ◌*◌, ◌/◌, ◌-◌, nat_lt, List, slice_index, Option, Some, None, if◌then◌else◌}
use Rattle.ua_capture.specs.Number.{big_16, big_32}
use Rattle.ua_capture.specs.declared.tcp.Header.{Header}

-- how many bytes the header has, which it says in words of four bytes
abbrev pub length_of : List ℕ → ℕ → ℕ
length_of bytes at = 4 * (slice_index bytes (at + 12) / 16)

abbrev pub fields_at : List ℕ → ℕ → Header
fields_at bytes at =
    record { from = big_16 bytes at; to = big_16 bytes (at + 2); sequence = big_32 bytes (at + 4); flags = slice_index bytes (at + 13); at = at + length_of bytes at }

-- a header has at least its 20 bytes, and is whole
abbrev pub header_at : List ℕ → ℕ → ℕ → Option Header
header_at bytes at end =
    if nat_lt (end - at) 20 then None else
    (if nat_lt (length_of bytes at) 20 then None else
    (if nat_lt (end - at) (length_of bytes at) then None else Some (fields_at bytes at)))
