use Rattle.ua_command.proofs.Serving.{stopped_so}
use Rattle.ua_command.proofs.serve.serve_or_tell.Goals as goal

pub returns-in-Err : goal.returns-in-Err
returns-in-Err g c = stopped_so c.args.reverse c.args.settings.now c.in-Err.stop c.told_and_noted.result c.in-Err.ensures.stop c.told_and_noted.ensures.status
