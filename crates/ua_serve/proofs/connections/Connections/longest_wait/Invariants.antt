use Rattle.ua_serve.proofs.WaitLemmas.{IsSoonestBelow}
use Rattle.ua_serve.proofs.connections.Connections.longest_wait.Given as goal

abbrev pub invariant-places : goal.invariant-places
invariant-places g l = IsSoonestBelow l.fn.self l.place l.least
