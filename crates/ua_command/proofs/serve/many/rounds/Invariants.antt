use Rattle.ua_command.specs.Serve.{IsServeStatus}
use Rattle.ua_command.proofs.serve.many.rounds.Given as goal

abbrev pub invariant-rounds : goal.invariant-rounds
invariant-rounds g l = IsServeStatus l.status
