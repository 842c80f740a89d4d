use Rattle.ua_command.proofs.Serving.{served_by, unlinked}
use Rattle.ua_command.proofs.serve.serve.Goals as goal

pub returns-clause-ok : goal.returns-clause-ok
returns-clause-ok g c = served_by _ _ _ c.serve_by-served.result c.in_ok-settings.ensures.ok c.serve_by-served.ensures.ok

pub returns-clause-err : goal.returns-clause-err
returns-clause-err g c = unlinked _ c.serve_by-served.result c.serve_by-served.ensures.err
