use Rattle.ua_serve.specs.Waits.{Wakes}
use Rattle.ua_serve.proofs.tcp.TcpSocketsSockets.wait.Given as goal

abbrev pub invariant-loop-event : goal.invariant-loop-event
invariant-loop-event l = (goal.iterator-loop-event).can_next l.event-iterator × Wakes l.fn.ready l.ready
