use Rattle.std.proofs.Common.{◌≤◌, length}
use Rattle.ua_link.specs.Connections.{Hears}
use Rattle.ua_link.proofs.connection.ServerConnection.hear.Given as goal

abbrev pub invariant-frames : goal.invariant-frames
invariant-frames l = record {
  hears : Hears l.fn.self l.self;
  shorter : length l.self.waiting ≤ length l.fn.self.waiting;
}

abbrev pub decreases-frames : goal.decreases-frames
decreases-frames l = length l.self.waiting
