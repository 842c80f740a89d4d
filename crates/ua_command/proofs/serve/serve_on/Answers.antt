use Rattle.ua_command.proofs.Serving.{accepted_so}
use Rattle.ua_command.proofs.serve.serve_on.Goals as goal

pub returns : goal.returns
returns g c = accepted_so c.args.settings.now c.serve_or_tell.result c.serve_or_tell.ensures
