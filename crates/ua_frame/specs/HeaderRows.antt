-- The refusals that a frame's header decides. OPC 10000-6, 7.1.2.2, 6.7.2.2 and 7.1.5.
use Rattle.std.specs.Prelude.{ℕ, Bool, false, not, nat_lt, ◌==◌, ◌||◌, List, [], ◌∷◌, length, Option, Some, None, is_none, if◌then◌else◌}
use Rattle.ua_frame.specs.declared.kind.Kind.{Kind}
use Rattle.ua_frame.specs.declared.kind.Kind.TheVariants.{Message}
use Rattle.ua_frame.specs.Layout.{kind_of, flag_of, size_of}
use Rattle.ua_frame.specs.Rows.{Row, first_row}

-- A message's chunk has the flag C, F or A, every other frame F.
abbrev pub flag_fits : Kind → ℕ → Bool
flag_fits Message flag = flag == 67 || flag == 70 || flag == 65
flag_fits kind flag = flag == 70

abbrev pub some_flag_fits : Option Kind → ℕ → Bool
some_flag_fits None flag = false
some_flag_fits (Some kind) flag = flag_fits kind flag

-- unknown type, wrong flag, size under a header, size over the limit
abbrev pub rows_of : Option Kind → ℕ → ℕ → ℕ → List Row
rows_of kind flag size limit =
    (is_none kind, 0x807E0000)
    ∷ (not (some_flag_fits kind flag), 0x807E0000)
    ∷ (nat_lt size 8, 0x80070000)
    ∷ (nat_lt limit size, 0x80800000)
    ∷ []

abbrev pub header_rows : ℕ → List ℕ → List Row
header_rows limit bytes = rows_of (kind_of bytes) (flag_of bytes) (size_of bytes) limit

-- The rows are read as soon as the 8 bytes of a header are there.
abbrev pub header_fault : ℕ → List ℕ → Option ℕ
header_fault limit bytes = if nat_lt (length bytes) 8 then None else first_row (header_rows limit bytes)
