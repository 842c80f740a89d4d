-- How large the buffers of an end are, in bytes. OPC 10000-6, 7.1.2.3 and 7.1.2.4.
use Rattle.std.specs.Prelude.{ℕ}

-- An end has buffers of at least so many bytes, and takes no longer frame before an Acknowledge.
abbrev pub least_buffer : ℕ
least_buffer = 8192

-- Ours have at most so many.
abbrev pub most_buffer : ℕ
most_buffer = 1048576
