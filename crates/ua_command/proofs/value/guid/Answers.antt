use Rattle.std.proofs.Common.{rules}
use Rattle.ua_command.proofs.value.guid.Goals as goal

pub returns-clause-ok : goal.returns-clause-ok
returns-clause-ok c = ((c.in_ok-found.found.value, c.in_ok-found.found.used), c.in_ok-found.ensures.ok, search rules)
