use Rattle.std.proofs.Common.{rules}
use Rattle.ua_command.proofs.Values.{prints_two}
use Rattle.ua_command.proofs.value.plain.Goals as goal

pub returns-clause-ok : goal.returns-clause-ok
returns-clause-ok g c = prints_two g.T.Wire.format c.args.bytes.now _ c.in_ok-found.found.value c.in_ok-found.found.used c.in_ok-found.ensures.ok (search rules)
