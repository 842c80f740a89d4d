-- The format pcapng: draft-ietf-opsawg-pcapng, 3 and 4, and the block that the Enhanced Packet Block replaced.
use Rattle.std.specs.Prelude.{ℕ, ◌+◌, ◌*◌, ◌%◌, ◌-◌, ◌==◌, ◌||◌, not, min, nat_lt, List, length, slice_get, slice_index, Option, Some, None, Result, Ok, Err, if◌then◌else◌}
use Rattle.ua_capture.specs.Number.{big_32, number_16, number_32}
use Rattle.ua_capture.specs.Moment.{ticks_a_second, moment_of}
use Rattle.ua_capture.specs.Options.{option_of}
use Rattle.ua_capture.specs.declared.options.Value.{Value}
use Rattle.ua_capture.specs.declared.number.Order.{Order}
use Rattle.ua_capture.specs.declared.number.Order.TheVariants.{Little, Big}
use Rattle.ua_capture.specs.declared.file.Record.{Record}
use Rattle.ua_capture.specs.declared.file.Interface.{Interface}
use Rattle.ua_capture.specs.declared.file.Fault.TheVariants as faults
use Rattle.ua_capture.specs.declared.step.Step.{Step}
use Rattle.ua_capture.specs.declared.step.Step.TheVariants as steps

-- ---- blocks: a type, a length, a body, and the length once more

abbrev pub order_of : ℕ → Option Order
order_of magic = if magic == 0x1A2B3C4D then Some Big else (if magic == 0x4D3C2B1A then Some Little else None)

-- A length is a multiple of four, and leaves room for what a block of its type has at the least. A block is read once it is whole.
abbrev pub size_by : ℕ → ℕ → ℕ → Result ℕ Step
size_by there said least =
    if nat_lt said least || not (said % 4 == 0) then Err (steps.Fault faults.Length) else
    (if nat_lt 16777216 said then Err (steps.Fault faults.TooLong) else
    (if nat_lt there said then Err steps.More else Ok said))

abbrev pub stepped : Result ℕ Step → (ℕ → Step) → Step
stepped (Ok size) f = f size
stepped (Err step) f = step

-- ---- Section Header Block: the magic number says the order of the section

abbrev pub section_by : Option Order → List ℕ → Step
section_by None bytes = steps.Fault faults.Order
section_by (Some order) bytes =
    stepped (size_by (length bytes) (number_32 order bytes 4) 28) (λ size. if number_16 order bytes 12 == 1 then steps.Section order size else steps.Fault faults.Version)

unfoldable pub section_step : List ℕ → Step
section_step bytes = if nat_lt (length bytes) 12 then steps.More else section_by (order_of (big_32 bytes 8)) bytes

-- ---- Interface Description Block: link type, the most bytes of a packet, and options

abbrev pub number_64 : Order → List ℕ → ℕ → ℕ
number_64 Little bytes at = number_32 Little bytes (at + 4) * 4294967296 + number_32 Little bytes at
number_64 Big bytes at = number_32 Big bytes at * 4294967296 + number_32 Big bytes (at + 4)

-- if_tsresol, of one byte; without it a tick is a microsecond
abbrev pub resolution_by : List ℕ → Option Value → ℕ
resolution_by bytes None = 6
resolution_by bytes (Some v) = if v.length == 1 then slice_index bytes v.at else 6

abbrev pub resolution_of : Order → List ℕ → ℕ → ℕ
resolution_of order bytes end = resolution_by bytes (option_of 255 order bytes 9 16 end)

-- if_tsoffset, of eight bytes; without it nothing is added
abbrev pub offset_by : Order → List ℕ → Option Value → ℕ
offset_by order bytes None = 0
offset_by order bytes (Some v) = if v.length == 8 then number_64 order bytes v.at else 0

abbrev pub offset_of : Order → List ℕ → ℕ → ℕ
offset_of order bytes end = offset_by order bytes (option_of 255 order bytes 14 16 end)

abbrev pub interface_by : Order → List ℕ → ℕ → Option ℕ → Step
interface_by order bytes size None = steps.Fault faults.Resolution
interface_by order bytes size (Some unit) =
    steps.Interface (record { link = number_16 order bytes 8; most = number_32 order bytes 12; unit = unit; offset = offset_of order bytes (size - 4) }) size

unfoldable pub interface_step : Order → List ℕ → ℕ → Step
interface_step order bytes size =
    if nat_lt size 20 then steps.Fault faults.Length else interface_by order bytes size (ticks_a_second (resolution_of order bytes (size - 4)))

-- ---- packets

-- Enhanced Packet Block: the interface, the moment in its ticks, the bytes that are kept, the bytes that there were
abbrev pub enhanced_of : Order → Interface → List ℕ → Record
enhanced_of order i bytes = record {
  link = i.link;
  moment = Some (moment_of (number_32 order bytes 12 * 4294967296 + number_32 order bytes 16) i.unit i.offset);
  length = number_32 order bytes 24;
  from = 28;
  to = 28 + number_32 order bytes 20;
}

abbrev pub enhanced_by : Order → Option Interface → List ℕ → ℕ → Step
enhanced_by order None bytes size = steps.Fault faults.Interface
enhanced_by order (Some i) bytes size =
    if nat_lt (size - 32) (number_32 order bytes 20) then steps.Fault faults.Length else steps.Packet (enhanced_of order i bytes) size

unfoldable pub enhanced_step : Order → List Interface → ℕ → List ℕ → ℕ → Step
enhanced_step order interfaces id bytes size =
    if nat_lt size 32 then steps.Fault faults.Length else enhanced_by order (slice_get interfaces id) bytes size

-- Simple Packet Block: the bytes that there were, of which as many are kept as the first interface keeps and the block has room for
abbrev pub simple_kept : ℕ → ℕ → ℕ → ℕ
simple_kept length most room = min room (if most == 0 then length else min length most)

abbrev pub simple_of : Order → Interface → List ℕ → ℕ → Record
simple_of order i bytes size = record {
  link = i.link;
  moment = None;
  length = number_32 order bytes 8;
  from = 12;
  to = 12 + simple_kept (number_32 order bytes 8) i.most (size - 16);
}

abbrev pub simple_by : Order → Option Interface → List ℕ → ℕ → Step
simple_by order None bytes size = steps.Fault faults.Interface
simple_by order (Some i) bytes size = steps.Packet (simple_of order i bytes size) size

unfoldable pub simple_step : Order → List Interface → List ℕ → ℕ → Step
simple_step order interfaces bytes size =
    if nat_lt size 16 then steps.Fault faults.Length else simple_by order (slice_get interfaces 0) bytes size

-- ---- any block

abbrev pub block_by : Order → List Interface → ℕ → List ℕ → ℕ → Step
block_by order interfaces kind bytes size =
    if kind == 1 then interface_step order bytes size else
    (if kind == 2 then enhanced_step order interfaces (number_16 order bytes 8) bytes size else
    (if kind == 3 then simple_step order interfaces bytes size else
    (if kind == 6 then enhanced_step order interfaces (number_32 order bytes 8) bytes size else steps.Passed size)))

unfoldable pub block_step : Order → List Interface → List ℕ → Step
block_step order interfaces bytes =
    if nat_lt (length bytes) 8 then steps.More else
    (if number_32 order bytes 0 == 0x0A0D0D0A then section_step bytes else
    stepped (size_by (length bytes) (number_32 order bytes 4) 12) (λ size. block_by order interfaces (number_32 order bytes 0) bytes size))
