use Rattle.ua_command.specs.Serve.{IsServeStatus}
use Rattle.ua_command.proofs.serve.serve_all.Given as goal

abbrev pub invariant-connections : goal.invariant-connections
invariant-connections g l = IsServeStatus l.status
