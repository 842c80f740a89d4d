use Rattle.std.proofs.Common.{◌≡◌}
use Rattle.ua_command.proofs.ask.talk.Given as goal

-- no call of the link failed since
abbrev pub invariant-reads : goal.invariant-reads
invariant-reads g l = g.L.Link.fault_count l.link ≡ g.L.Link.fault_count l.fn.link
