-- The options at the end of a block of pcapng: draft-ietf-opsawg-pcapng, 3.5.
use Rattle.std.specs.Prelude.{ℕ, zero, suc, ◌+◌, ◌*◌, ◌/◌, ◌-◌, ◌==◌, nat_lt, List, Option, Some, None, if◌then◌else◌}
use Rattle.ua_capture.specs.Number.{number_16}
use Rattle.ua_capture.specs.declared.number.Order.{Order}
use Rattle.ua_capture.specs.declared.options.Value.{Value}

-- a length with the padding to a multiple of four
abbrev pub padded : ℕ → ℕ
padded length = (length + 3) / 4 * 4

-- An option has a code, a length and a value, which is padded; the code 0 ends them. The first of a code counts.
unfoldable pub option_of : ℕ → Order → List ℕ → ℕ → ℕ → ℕ → Option Value
option_of zero order bytes code at end = None
option_of (suc most) order bytes code at end =
    if nat_lt (end - at) 4 then None else
    (if number_16 order bytes at == 0 then None else
    (if nat_lt (end - at) (4 + padded (number_16 order bytes (at + 2))) then None else
    (if number_16 order bytes at == code then Some (record { at = at + 4; length = number_16 order bytes (at + 2) }) else
    option_of most order bytes code (at + (4 + padded (number_16 order bytes (at + 2)))) end)))
