use Rattle.std.proofs.Common.{arith}
use Rattle.ua_link.proofs.HearLemmas.{nothing_heard, heard_both}
use Rattle.ua_link.proofs.connection.ServerConnection.hear.Goals as goal

pub frames-init : goal.frames-init
frames-init c = record { hears = nothing_heard c.args.self.now c.requires.left; shorter = omega arith }

pub frames-preserved : goal.frames-preserved
frames-preserved c = record {
  hears = heard_both c.args.self.now c.frames.self c.hear_front.new.self c.frames.invariant.hears c.in_ok-hear_front.ensures.hears c.frames.invariant.shorter (omega (arith, c.in_ok-hear_front.ensures.less));
  shorter = omega (arith, c.frames.invariant.shorter, c.in_ok-hear_front.ensures.less);
}
