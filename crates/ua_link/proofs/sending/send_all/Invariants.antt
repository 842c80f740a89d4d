use Rattle.std.proofs.Common.{◌≡◌, ◌≤◌, ◌-◌, length, take}
use Rattle.std.specs.Io.KnownBytes.{Appends}
use Rattle.ua_link.proofs.sending.send_all.Given as goal

abbrev pub invariant-sends : goal.invariant-sends
invariant-sends g l = record {
  within : l.sent ≤ length l.bytes;
  sent : Appends (g.L.Link.output l.initial.link) (g.L.Link.output l.link) (take l.sent l.bytes);
  kept : g.L.Link.input l.link ≡ g.L.Link.input l.initial.link;
  counted : g.L.Link.fault_count l.link ≡ g.L.Link.fault_count l.initial.link;
}

abbrev pub decreases-sends : goal.decreases-sends
decreases-sends g l = length l.bytes - l.sent
