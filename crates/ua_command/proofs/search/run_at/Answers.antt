use Rattle.ua_command.proofs.Runs.{run_clear, run_within, run_none, run_found}
use Rattle.ua_command.proofs.search.run_at.Goals as goal

pub returns-then-ends-eq0-clause-none : goal.returns-then-ends-eq0-clause-none
returns-then-ends-eq0-clause-none c = run_clear c.args.text.now c.args.at c.requires c.if-ends-eq0.true

pub returns-else-ends-eq0-clause-within : goal.returns-else-ends-eq0-clause-within
returns-else-ends-eq0-clause-within c = run_within c.args.text.now c.args.at c.requires c.if-ends-eq0.false

pub returns-else-ends-eq0-clause-none : goal.returns-else-ends-eq0-clause-none
returns-else-ends-eq0-clause-none c = run_none c.args.text.now c.args.at c.requires c.if-ends-eq0.false

pub returns-else-ends-eq0-clause-found : goal.returns-else-ends-eq0-clause-found
returns-else-ends-eq0-clause-found c = run_found c.args.text.now c.args.at c.requires c.if-ends-eq0.false
