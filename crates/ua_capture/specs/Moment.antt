-- Moments in nanoseconds since 1970.
use Rattle.std.specs.Prelude.{ℕ, ◌+◌, ◌-◌, ◌*◌, ◌/◌, ◌^◌, ◌==◌, min, nat_lt, Option, Some, None, if◌then◌else◌}

-- Ticks of a second by the option if_tsresol: a power of ten, or with the highest bit a power of two.
abbrev pub power_of : ℕ → ℕ
power_of resolution = if nat_lt resolution 128 then 10 ^ resolution else 2 ^ (resolution - 128)

abbrev pub ticks_a_second : ℕ → Option ℕ
ticks_a_second resolution = if nat_lt (power_of resolution) (2 ^ 64) then Some (power_of resolution) else None

-- seconds later by the option if_tsoffset, which has a sign
abbrev pub shifted : ℕ → ℕ → ℕ
shifted nanos offset = if nat_lt offset (2 ^ 63) then nanos + offset * 1000000000 else nanos - (2 ^ 64 - offset) * 1000000000

abbrev pub nanos_of : ℕ → ℕ → ℕ
nanos_of ticks unit = if unit == 0 then 0 else ticks * 1000000000 / unit

unfoldable pub moment_of : ℕ → ℕ → ℕ → ℕ
moment_of ticks unit offset = min (shifted (nanos_of ticks unit) offset) (2 ^ 64 - 1)
