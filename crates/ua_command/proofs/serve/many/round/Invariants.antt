use Rattle.ua_serve.specs.Turn.{seen_by}
use Rattle.ua_serve.specs.Rounds.{Rounds}
use Rattle.ua_command.specs.Serve.{IsServeStatus}
use Rattle.ua_command.proofs.serve.many.round.Given as goal

abbrev pub invariant-places : goal.invariant-places
invariant-places g l = IsServeStatus l.status
    × Rounds (seen_by g.L.ReadyLink.input g.L.ReadyLink.output g.L.ReadyLink.fault_count) g.L.ReadyLink.tried l.place (g.C.Clock.answered l.fn.clock) (g.C.Clock.answered l.clock) (g.T.Clock.answered l.fn.timer) (g.T.Clock.answered l.timer)
    (g.S.Sockets.sought l.fn.sockets) (g.S.Sockets.sought l.sockets) l.fn.connections l.connections
