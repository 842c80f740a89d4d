-- What a file gives, step by step.
use Rattle.std.specs.Prelude.{◌≡◌, ℕ, ◌+◌, ◌-◌, ◌^◌, ◌<◌, ◌≤◌, ◌==◌, min, nat_lt, List, [], ◌∷◌, ◌++◌, length, drop, slice_range, Option, Some, None, if◌then◌else◌}
use Rattle.ua_capture.specs.Number.{big_32}
use Rattle.ua_capture.specs.declared.form.Form.{Form}
use Rattle.ua_capture.specs.declared.form.Form.TheVariants as forms
use Rattle.ua_capture.specs.declared.file.Interface.{Interface}
use Rattle.ua_capture.specs.declared.step.Step.{Step}
use Rattle.ua_capture.specs.declared.step.Step.TheVariants as steps
use Rattle.ua_capture.specs.declared.file.Fault.TheVariants as faults
use Rattle.ua_capture.specs.declared.reader.Found.{Found}
use Rattle.ua_capture.specs.declared.reader.Found.TheVariants as found
use Rattle.ua_capture.specs.declared.reader.ReadFault.{ReadFault}
use Rattle.ua_capture.specs.declared.reader.ReadFault.TheVariants as read_faults
use Rattle.ua_capture.specs.File.{Reading}
use Rattle.ua_capture.specs.Pcap.{file_step, packet_step}
use Rattle.ua_capture.specs.Pcapng.{section_step, block_step}

abbrev pub no_file : Reading
no_file = record { form = forms.Unknown; interfaces = []; rest = []; packet = []; place = 0 }

-- a piece comes behind what is held
abbrev pub with_piece : Reading → List ℕ → Reading
with_piece r piece = record r { rest = r.rest ++ piece; packet = [] }

-- a file has fewer than 2 ^ 64 bytes
abbrev pub placed : ℕ → ℕ → ℕ
placed place size = min (place + size) (2 ^ 64 - 1)

abbrev pub passed : Reading → ℕ → Reading
passed r size = record r { rest = drop size r.rest; packet = []; place = placed r.place size }

abbrev pub taken : Reading → ℕ → ℕ → ℕ → Reading
taken r from to size = record r { rest = drop size r.rest; packet = slice_range r.rest from to; place = placed r.place size }

-- What stands in front: first what the file is, by its magic number, and then packets or blocks.
abbrev pub front_step : Form → List Interface → List ℕ → Step
front_step forms.Unknown interfaces bytes =
    if nat_lt (length bytes) 4 then steps.More else (if big_32 bytes 0 == 0x0A0D0D0A then section_step bytes else file_step bytes)
front_step (forms.Pcap header) interfaces bytes = packet_step header bytes
front_step (forms.Section order) interfaces bytes = block_step order interfaces bytes

-- A section describes at most 65536 interfaces.
abbrev pub limited : ℕ → Step → Step
limited known (steps.Interface i size) = if nat_lt known 65536 then steps.Interface i size else steps.Fault faults.Interfaces
limited known steps.More = steps.More
limited known (steps.Fault fault) = steps.Fault fault
limited known (steps.File header) = steps.File header
limited known (steps.Section order size) = steps.Section order size
limited known (steps.Packet r size) = steps.Packet r size
limited known (steps.Passed size) = steps.Passed size

abbrev pub step_of : Reading → Step
step_of r = limited (length r.interfaces) (front_step r.form r.interfaces r.rest)

-- what is held after it
abbrev pub after_step : Reading → Step → Reading
after_step r steps.More = r
after_step r (steps.Fault fault) = r
after_step r (steps.File header) = passed (record r { form = forms.Pcap header }) 24
after_step r (steps.Section order size) = passed (record r { form = forms.Section order; interfaces = [] }) size
after_step r (steps.Interface i size) = passed (record r { interfaces = r.interfaces ++ i ∷ [] }) size
after_step r (steps.Packet p size) = taken r p.from p.to size
after_step r (steps.Passed size) = passed r size

-- what is told of it
abbrev pub found_of : Step → Option Found
found_of steps.More = Some found.More
found_of (steps.Fault fault) = None
found_of (steps.File header) = Some found.Passed
found_of (steps.Section order size) = Some found.Passed
found_of (steps.Interface i size) = Some found.Passed
found_of (steps.Packet p size) = Some (found.Packet p)
found_of (steps.Passed size) = Some found.Passed

-- Memory is wanted for an interface alone.
abbrev pub IsInterface : Step → Type 0
IsInterface steps.More = ⊥
IsInterface (steps.Fault fault) = ⊥
IsInterface (steps.File header) = ⊥
IsInterface (steps.Section order size) = ⊥
IsInterface (steps.Interface i size) = Unit {0}
IsInterface (steps.Packet p size) = ⊥
IsInterface (steps.Passed size) = ⊥

abbrev pub IsFaultOf : Step → ReadFault → Type 0
IsFaultOf step (read_faults.File fault) = step ≡ steps.Fault fault
IsFaultOf step read_faults.NoMemory = IsInterface step

-- why an interface is not put behind so many others
abbrev pub IsTooMany : ℕ → ReadFault → Type 0
IsTooMany known (read_faults.File fault) = (65536 ≤ known) × (fault ≡ faults.Interfaces)
IsTooMany known read_faults.NoMemory = known < 65536
