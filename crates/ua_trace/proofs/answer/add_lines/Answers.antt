use Rattle.std.proofs.Common.{arith}
use Rattle.std.proofs.lemmas.Str.Pattern.{split_once_first}
use Rattle.ua_trace.proofs.Weave.{line_before}
use Rattle.ua_trace.proofs.answer.add_lines.Goals as goal

pub add_line-requires-clause-line : goal.add_line-requires-clause-line
add_line-requires-clause-line c =
    let first = rw c.in-Some.is at (split_once_first 10 c.lines.left.now c.split_once.result c.split_once.ensures.cases (omega arith)) in
    line_before c.lines.left.now c.in-Some.line.now first.0 first.1
