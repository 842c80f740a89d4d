use Rattle.std.proofs.Common.{◌+◌, arith}
use Rattle.ua_command.proofs.Dropped.{ends_at, ends_nowhere, is_end, none_more}
use Rattle.ua_command.proofs.search.far_line_end.Goals as goal

pub returns-then-run-lt-BLOCK : goal.returns-then-run-lt-BLOCK
returns-then-run-lt-BLOCK c =
    let at = c.runs.at in
    let run = c.run_at-run.result in
    ends_at c.args.text.now (at + run) (none_more c.args.text.now at (at + run) c.runs.invariant.none c.run_at-run.ensures.none)
    (omega (arith, c.runs-test.true, c.if-run-lt-BLOCK.true, c.runs.invariant.within)) (c.run_at-run.ensures.found c.if-run-lt-BLOCK.true)

pub returns-then-text-at-eq10 : goal.returns-then-text-at-eq10
returns-then-text-at-eq10 c = ends_at c.args.text.now c.bytes.at c.bytes.invariant.none c.bytes-test.true (is_end _ c.if-text-at-eq10.true)

pub returns : goal.returns
returns c = ends_nowhere c.args.text.now c.bytes.at c.bytes.invariant.none (omega (arith, c.bytes-test.false))
