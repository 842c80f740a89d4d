use Rattle.ua_command.proofs.Serving.{served_so}
use Rattle.ua_command.proofs.serve.serve_by.Goals as goal

pub returns-then-reverse-clause-ok : goal.returns-then-reverse-clause-ok
returns-then-reverse-clause-ok g c = rw c.if-reverse.true c.serve_to-status.ensures

pub returns-clause-ok : goal.returns-clause-ok
returns-clause-ok g c = served_so c.args.reverse c.args.settings.now c.serve_at.result c.serve_at.ensures.ok
