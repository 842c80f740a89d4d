use Rattle.std.proofs.Common.{◌+◌, ◌≤◌, length}
use Rattle.std.specs.Prelude.{string_bytes}
use Rattle.ua_compare.proofs.differing.add_extra.Given as goal

-- a byte at least was appended for each
abbrev pub invariant-loop-one : goal.invariant-loop-one
invariant-loop-one g l = length (string_bytes l.initial.text) + l.one-index ≤ length (string_bytes l.text)
