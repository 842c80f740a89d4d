use Rattle.std.proofs.Common.{arith, length-drop}
use Rattle.std.proofs.lemmas.List.{take_rest}
use Rattle.ua_walk.proofs.Stories.{goes_on, ends}
use Rattle.ua_walk.proofs.walk.tell_all.Goals as goal

pub frames-preserved : goal.frames-preserved
frames-preserved g c =
    let s = rw take_rest at (rw c.in-Frame.is at c.in_ok-size.ensures) in
    let t = c.frames.invariant.told in
    record {
      within = omega (arith, s.1, c.frames.invariant.within, length-drop c.frames.used c.args.bytes.now);
      told = goes_on g.T.Teller.heard c.args.offset c.frames.used c.in-Frame.size c.args.bytes.now _ _ _ _ _ _ t.0 s.2 t.1 t.2 t.3 s.3 s.4 s.5;
    }

pub returns-in-End : goal.returns-in-End
returns-in-End g c =
    let s = rw take_rest at (rw c.in-End.is at c.in_ok-size.ensures) in
    let t = c.frames.invariant.told in
    let e = ends g.T.Teller.heard c.args.offset c.frames.used c.args.bytes.now _ _ _ _ _ t.0 s.0 t.1 t.2 t.3 s.1 s.2 s.3 in
    (c.frames.invariant.within, e.0, e.1, e.2)
