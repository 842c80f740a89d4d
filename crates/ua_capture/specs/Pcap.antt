-- The format pcap: draft-ietf-opsawg-pcap, 4 and 5.
use Rattle.std.specs.Prelude.{ℕ, ◌+◌, ◌*◌, ◌%◌, ◌≤◌, ◌==◌, nat_lt, Bool, true, false, List, length, Option, Some, None, if◌then◌else◌}
use Rattle.ua_capture.specs.Number.{big_32, number_32}
use Rattle.ua_capture.specs.declared.number.Order.{Order}
use Rattle.ua_capture.specs.declared.number.Order.TheVariants.{Little, Big}
use Rattle.ua_capture.specs.declared.pcap.FileHeader.{FileHeader}
use Rattle.ua_capture.specs.declared.file.Record.{Record}
use Rattle.ua_capture.specs.declared.file.Fault.TheVariants as faults
use Rattle.ua_capture.specs.declared.step.Step.{Step}
use Rattle.ua_capture.specs.declared.step.Step.TheVariants as steps

-- The magic number says the order of all numbers, and whether the second part of a moment counts nanoseconds.
abbrev pub magic_of : ℕ → Option (Order × Bool)
magic_of magic =
    if magic == 0xA1B2C3D4 then Some (Big, false) else
    (if magic == 0xA1B23C4D then Some (Big, true) else
    (if magic == 0xD4C3B2A1 then Some (Little, false) else
    (if magic == 0x4D3CB2A1 then Some (Little, true) else None)))

-- the lowest 16 bits of the last field are the link type
abbrev pub header_of : Order × Bool → List ℕ → FileHeader
header_of m bytes = record { order = m.0; nanos = m.1; link = number_32 m.0 bytes 20 % 65536 }

abbrev pub file_by : Option (Order × Bool) → List ℕ → Step
file_by None bytes = steps.Fault faults.Magic
file_by (Some m) bytes = if nat_lt (length bytes) 24 then steps.More else steps.File (header_of m bytes)

abbrev pub file_step : List ℕ → Step
file_step bytes = file_by (magic_of (big_32 bytes 0)) bytes

abbrev pub pcap_moment : ℕ → ℕ → Bool → ℕ
pcap_moment seconds part nanos = seconds * 1000000000 + (if nanos then part else part * 1000)

-- the seconds, the part of a second, the bytes that are kept, the bytes that there were, and then those that are kept
abbrev pub kept_of : FileHeader → List ℕ → ℕ
kept_of h bytes = number_32 h.order bytes 8

abbrev pub record_of : FileHeader → List ℕ → Record
record_of h bytes = record {
  link = h.link;
  moment = Some (pcap_moment (number_32 h.order bytes 0) (number_32 h.order bytes 4) h.nanos);
  length = number_32 h.order bytes 12;
  from = 16;
  to = 16 + kept_of h bytes;
}

abbrev pub packet_step : FileHeader → List ℕ → Step
packet_step h bytes =
    if nat_lt (length bytes) 16 then steps.More else
    (if nat_lt 16777216 (kept_of h bytes) then steps.Fault faults.TooLong else
    (if nat_lt (length bytes) (16 + kept_of h bytes) then steps.More else steps.Packet (record_of h bytes) (16 + kept_of h bytes)))

-- A step takes no more bytes than there are, and the bytes of a packet are among those.
abbrev pub IsWithin : List ℕ → Step → Type 0
IsWithin bytes steps.More = Unit {0}
IsWithin bytes (steps.Fault fault) = Unit {0}
IsWithin bytes (steps.File header) = 24 ≤ length bytes
IsWithin bytes (steps.Section order size) = size ≤ length bytes
IsWithin bytes (steps.Interface interface size) = size ≤ length bytes
IsWithin bytes (steps.Packet r size) = (r.from ≤ r.to) × (r.to ≤ size) × (size ≤ length bytes)
IsWithin bytes (steps.Passed size) = size ≤ length bytes
