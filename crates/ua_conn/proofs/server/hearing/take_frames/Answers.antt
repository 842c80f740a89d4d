use Rattle.std.proofs.Common.{refl, arith, length, ap, ◌∙◌}
use Rattle.std.proofs.lemmas.List.{length-drop, take_rest}
use Rattle.ua_frame.specs.Streams.{size_of}
use Rattle.ua_conn.proofs.BufferedLemmas.{IsPush, pushed_on, push_within, nothing_behind}
use Rattle.ua_conn.proofs.ServerEnd.FrontLemmas.{header_waits, waits_header}
use Rattle.ua_conn.proofs.ServerEnd.FeedLemmas.{starts_with, waits_whole, reads_on, closes, refuses, goes_on}
use Rattle.ua_conn.proofs.server.hearing.take_frames.Goals as goal

pub frames-init : goal.frames-init
frames-init c = record {
  heard = starts_with c.args.connection.now c.args.now _ c.args.buffer.now.bytes c.args.piece.now c.push-read.new.self.bytes c.push-read.result c.push-read.ensures.bytes;
  within = omega (arith, c.push-read.ensures.taken);
  moment = c.requires.moment;
  capacity = c.push-read.ensures.capacity;
  bound = c.push-read.ensures.bound;
}

pub frames-preserved : goal.frames-preserved
frames-preserved c =
    let s = rw c.in-GoesOn.is at c.in_ok-take_front.ensures.step in
    let front = c.frames.buffer.bytes in
    record {
      heard = rw c.drop_first.ensures.bytes (goes_on _ c.frames.invariant.heard s);
      within = c.frames.invariant.within;
      moment = c.in_ok-take_front.ensures.moment;
      capacity = c.drop_first.ensures.capacity ∙ c.frames.invariant.capacity;
      bound = omega (arith, c.drop_first.ensures.capacity, c.frames.invariant.bound, ap length c.drop_first.ensures.bytes, length-drop (size_of front) front);
    }

pub frames-preserved-in-Waits : goal.frames-preserved-in-Waits
frames-preserved-in-Waits c =
    let s = rw c.in-Waits.is at c.in_ok-take_front.ensures.step in
    let front = c.frames.buffer.bytes in
    let new = c.push-read-in-Waits.new.self.bytes in
    let p : IsPush c.push-read-in-Waits.result c.frames.read c.frames.buffer.capacity front c.args.piece.now new =
    record { taken = rw take_rest at c.push-read-in-Waits.ensures.taken; bytes = rw take_rest at c.push-read-in-Waits.ensures.bytes } in
    record {
      heard = reads_on c.frames.invariant.heard s _ (pushed_on c.push-read-in-Waits.result c.frames.read front c.args.piece.now new p.bytes);
      within = push_within c.push-read-in-Waits.result c.frames.read c.frames.buffer.capacity front c.args.piece.now new p c.frames.invariant.within;
      moment = c.in_ok-take_front.ensures.moment;
      capacity = c.push-read-in-Waits.ensures.capacity ∙ c.frames.invariant.capacity;
      bound = c.push-read-in-Waits.ensures.bound;
    }

pub returns-then-read-piece-2-clause-heard : goal.returns-then-read-piece-2-clause-heard
returns-then-read-piece-2-clause-heard c =
    let s = rw c.in-Waits.is at c.in_ok-take_front.ensures.step in
    rw c.remember.ensures (waits_whole c.frames.invariant.heard (nothing_behind c.frames.read c.frames.buffer.bytes c.args.piece.now (omega arith)) s)

pub returns-in-Closed-clause-heard : goal.returns-in-Closed-clause-heard
returns-in-Closed-clause-heard c = closes _ c.frames.invariant.heard (rw c.in-Closed.is at c.in_ok-take_front.ensures.step)

pub returns-in-Refused-clause-heard : goal.returns-in-Refused-clause-heard
returns-in-Refused-clause-heard c =
    refuses _ c.frames.invariant.heard (rw c.in-Refused.is at c.in_ok-take_front.ensures.step) c.in_ok-refuse-in-Refused.ensures.ok

pub returns-then-awaits-clause-heard : goal.returns-then-awaits-clause-heard
returns-then-awaits-clause-heard c =
    let new = c.push-read.new.self.bytes in
    let heard = starts_with c.args.connection.now c.args.now _ c.args.buffer.now.bytes c.args.piece.now new c.push-read.result c.push-read.ensures.bytes in
    waits_whole heard (nothing_behind c.push-read.result new c.args.piece.now (omega arith)) (c.awaits.ensures.none c.if-awaits.true, header_waits c.args.connection.now.known new (rw c.greatest_frame.ensures.is at (c.awaits.ensures.passed c.if-awaits.true)), refl, refl)

pub remember-requires : goal.remember-requires
remember-requires c =
    let s = rw c.in-Waits.is at c.in_ok-take_front.ensures.step in
    rw (c.greatest_frame-then-read-piece-2.ensures.is, s.2) (waits_header c.frames.connection.known c.frames.buffer.bytes s.1)
