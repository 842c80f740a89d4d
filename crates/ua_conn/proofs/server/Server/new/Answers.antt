use Rattle.std.proofs.Common.{arith, length, false, ap, sym, ◌∙◌}
use Rattle.ua_frame.specs.Buffer.{Buffered}
use Rattle.ua_frame.specs.Streams.{cuts_within, rest_within}
use Rattle.ua_frame.specs.declared.limits.Limits.{Limits}
use Rattle.ua_conn.specs.server.Bound.{IsAll}
use Rattle.ua_conn.specs.server.Held.{held}
use Rattle.ua_conn.specs.server.Taking.{Running}
use Rattle.ua_conn.specs.declared.server.Server.TheInside.{Inside}
use Rattle.ua_conn.proofs.server.Server.new.Goals as goal

-- the fields that are named here are all
all_parts : (s : Inside) → IsAll s
all_parts s = λ t a b c d e. λ i. record { alloc = a i; connection = b i; buffer = c i; moment = d i; failed = e i }

pub returns : goal.returns
unfolding held cuts_within rest_within
returns c =
    let e = c.in_ok-connection.ensures in
    λ i. record { site = (e i).site; held = record { known = (e i).known; next = (e i).next; moment = 0; rest = (c.in_ok-buffer.ensures i).bytes }; failed = false }

pub invariant_of-result : goal.invariant_of-result
invariant_of-result c =
    let begins = c.in_ok-connection.ensures in
    record {
      timely = record { within = λ _. omega (arith, ap (λ (r : Running). r.moment) begins); clock = omega arith };
      bounded = record {
        room = ap (λ (b : Buffered). b.capacity) c.in_ok-buffer.ensures ∙ ap (λ (l : Limits). l.receive) c.limits-limits.ensures.limits
            ∙ sym (ap (λ (r : Running). r.site.settings.limits.receive) begins);
        rest = omega (arith, ap (λ (b : Buffered). length b.bytes) c.in_ok-buffer.ensures);
        half = c.keeps_limits.ensures;
        all = all_parts _;
      };
    }
