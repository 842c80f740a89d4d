use Rattle.std.proofs.Common.{arith}
use Rattle.ua_stream.proofs.Places.{gives_none, gives_more}
use Rattle.ua_stream.proofs.parts.advance.Goals as goal

pub loop-run-init : goal.loop-run-init
loop-run-init c = record { given = gives_none c.args.parts.now c.args.from c.args.ready.now.items; within = omega arith }

pub loop-run-preserved : goal.loop-run-preserved
loop-run-preserved c = record {
  given =
      rw c.in_ok-extend_from_slice.ensures.items
      (gives_more c.args.parts.now c.args.from c.loop-run.next c.args.ready.now.items c.loop-run.ready.items c.in-Some.run'.now c.loop-run.invariant.given c.in-Some.ensures.run);
  within = c.in-Some.ensures.run.within;
}
