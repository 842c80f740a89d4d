use Rattle.std.proofs.Common.{false}
use Rattle.ua_command.proofs.Serving.{served_by, served_so, unbound}
use Rattle.ua_command.proofs.serve.many.serve_many.Goals as goal

pub returns-clause-ok : goal.returns-clause-ok
returns-clause-ok g c = served_by _ _ _ c.serve_at-served.result c.in_ok-settings.ensures.ok (served_so false c.in_ok-settings.settings c.serve_at-served.result c.serve_at-served.ensures.ok)

pub returns-clause-err : goal.returns-clause-err
returns-clause-err g c = unbound _ c.serve_at-served.result c.serve_at-served.ensures.err
