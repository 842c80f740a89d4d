-- Sequence numbers. OPC 10000-6, 6.7.2.4.
use Rattle.std.specs.Prelude.{ℕ, ◌+◌, ◌-◌, ◌%◌, Bool, ◌==◌, ◌||◌, ◌&&◌, nat_lt}

-- the bytes of the largest part of a message in one frame: those of the largest buffer without the header of a chunk
abbrev pub most_part : ℕ
most_part = 1048552

-- the greatest number that a sender gives; it is followed by 1
abbrev pub greatest_number : ℕ
greatest_number = 4294966272

-- b may come next after a: one more, or a wrap
abbrev pub follows : ℕ → ℕ → Bool
follows a b = b == a + 1 || (nat_lt 4294966271 a && nat_lt b 1024)

-- the number of a sender that starts at first, after n others
abbrev pub number_after : ℕ → ℕ → ℕ
number_after first n = (first + n - 1) % greatest_number + 1
