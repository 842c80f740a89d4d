use Rattle.std.proofs.Common.{length, string_bytes}
use denote.Text.{Utf8}
use denote.Shadow.{shadow}
use Rattle.ua_trace.specs.Under.{AreUnder}
use Rattle.ua_trace.proofs.answer.add_lines.Given as goal

abbrev pub invariant-lines : goal.invariant-lines
invariant-lines l = shadow (Utf8 l.left) × AreUnder (string_bytes l.text)

abbrev pub decreases-lines : goal.decreases-lines
decreases-lines l = length l.left
