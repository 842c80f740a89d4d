use Rattle.ua_command.proofs.Dropped.{kept_before, kept_rest}
use Rattle.ua_command.proofs.search.first_dropped.Goals as goal

pub returns-then-are_kept_at-2-clause-kept : goal.returns-then-are_kept_at-2-clause-kept
returns-then-are_kept_at-2-clause-kept c =
    kept_rest c.args.line.now c.runs.at c.runs.invariant.within c.if-line-at-lt-BLOCK.true c.if-line-ge-BLOCK.true c.runs.invariant.kept (c.are_kept_at-then-line-ge-BLOCK.ensures c.if-are_kept_at-2.true)

pub returns-else-not-is_dropped-clause-kept : goal.returns-else-not-is_dropped-clause-kept
returns-else-not-is_dropped-clause-kept c = kept_before c.args.line.now c.bytes.at c.bytes.invariant.within c.bytes.invariant.kept

pub returns-after-bytes-clause-kept : goal.returns-after-bytes-clause-kept
returns-after-bytes-clause-kept c = kept_before c.args.line.now c.bytes.at c.bytes.invariant.within c.bytes.invariant.kept
