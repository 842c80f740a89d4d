-- How long the frames before an Acknowledge are. OPC 10000-6, 7.1.2.3, 7.1.2.4 and 7.1.2.6.
use Rattle.std.specs.Prelude.{ℕ}

-- Until the Acknowledge says how long frames may be, each has at most so many bytes: a Hello, a ReverseHello, and the Acknowledge itself.
abbrev pub greatest_first_frame : ℕ
greatest_first_frame = 8192
