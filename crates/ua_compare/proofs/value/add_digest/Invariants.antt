use Rattle.std.proofs.Common.{◌≤◌, length}
use Rattle.std.specs.Prelude.{string_bytes}
use Rattle.ua_compare.proofs.value.add_digest.Given as goal

-- the text is no shorter than it was
abbrev pub invariant-loop-byte : goal.invariant-loop-byte
invariant-loop-byte l = length (string_bytes l.initial.text) ≤ length (string_bytes l.text)
