use Rattle.std.proofs.Common.{◌≡◌, ◌≤◌, ◌*◌, ◌+◌, ◌^◌, Bool, length}
use Rattle.ua_conn.specs.server.Greeting.{greeting}
use Rattle.ua_link.specs.Clock.{Answered}
use Rattle.ua_link.specs.Reads.{moments}
use Rattle.ua_link.specs.Turns.{Seen}
use Rattle.ua_link.specs.Reports.{Serving}
use Rattle.ua_link.proofs.serving.serve_from.Given as goal

abbrev pub invariant-turns : goal.invariant-turns
invariant-turns g l =
    let before : Seen = record { input = g.L.Link.input l.fn.link; output = g.L.Link.output l.fn.link; faults = g.L.Link.fault_count l.fn.link } in
    let now : Seen = record { input = g.L.Link.input l.link; output = g.L.Link.output l.link; faults = g.L.Link.fault_count l.link } in
    record {
      entries : length l.cuts.items ≡ l.counter;
      bound : l.written ≤ (l.counter + 1) * 2 ^ 64;
      serving : (reverse : Bool) → l.said ≡ greeting reverse l.fn.server.site.settings → Serving reverse l.fn.server.site l.server l.cuts.items l.written before now;
      asked : Answered (g.C.Clock.answered l.fn.clock) (g.C.Clock.answered l.clock) (moments l.cuts.items);
    }
