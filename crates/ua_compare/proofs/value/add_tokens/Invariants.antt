use Rattle.std.proofs.Common.{◌≤◌, length}
use Rattle.std.specs.Prelude.{string_bytes}
use Rattle.ua_compare.proofs.value.add_tokens.Given as goal

-- the text is no shorter than it was
abbrev pub invariant-loop-i : goal.invariant-loop-i
invariant-loop-i l = length (string_bytes l.initial.text) ≤ length (string_bytes l.text)
