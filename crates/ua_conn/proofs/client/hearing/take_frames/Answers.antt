use Rattle.std.proofs.Common.{refl, arith, length, ap, ◌∙◌}
use Rattle.std.proofs.lemmas.List.{length-drop, take_rest}
use Rattle.ua_frame.specs.Streams.{size_of}
use Rattle.ua_conn.proofs.BufferedLemmas.{IsPush, pushed_on, push_within, nothing_behind}
use Rattle.ua_conn.proofs.ClientEnd.FrontLemmas.{header_waits, waits_header}
use Rattle.ua_conn.proofs.ClientEnd.FeedLemmas.{starts_with, waits_whole, reads_on, breaks, goes_on}
use Rattle.ua_conn.proofs.client.hearing.take_frames.Goals as goal

pub frames-init : goal.frames-init
frames-init c = record {
  heard = starts_with c.args.connection.now c.args.now _ c.args.buffer.now.bytes c.args.piece.now c.push-read.new.self.bytes c.push-read.result c.push-read.ensures.bytes;
  within = omega (arith, c.push-read.ensures.taken);
  moment = c.requires.moment;
  capacity = c.push-read.ensures.capacity;
  bound = c.push-read.ensures.bound;
}

pub returns-in-Err-clause-breaks : goal.returns-in-Err-clause-breaks
returns-in-Err-clause-breaks c =
    let s = rw c.in-Err.is at c.take_front.ensures.step in
    breaks _ _ c.take_front.new.connection (record { bytes = c.take_front.new.out.items; answers = c.take_front.new.answers.items }) c.in-Err.fault c.frames.invariant.heard s

pub frames-preserved-in-Ok-true : goal.frames-preserved-in-Ok-true
frames-preserved-in-Ok-true c =
    let s = rw c.in-Ok-true.field-0-test at (rw c.in-Ok-true.is at c.take_front.ensures.step) in
    let front = c.frames.buffer.bytes in
    record {
      heard = rw c.drop_first.ensures.bytes (goes_on _ c.frames.invariant.heard s);
      within = c.frames.invariant.within;
      moment = c.in-Ok-true.ensures.moment;
      capacity = c.drop_first.ensures.capacity ∙ c.frames.invariant.capacity;
      bound = omega (arith, c.drop_first.ensures.capacity, c.frames.invariant.bound, ap length c.drop_first.ensures.bytes, length-drop (size_of front) front);
    }

pub frames-preserved : goal.frames-preserved
frames-preserved c =
    let s = rw c.in-Ok-false.field-0-test at (rw c.in-Ok-false.is at c.take_front.ensures.step) in
    let front = c.frames.buffer.bytes in
    let new = c.push-read-in-Ok-false.new.self.bytes in
    let p : IsPush c.push-read-in-Ok-false.result c.frames.read c.frames.buffer.capacity front c.args.piece.now new =
    record { taken = rw take_rest at c.push-read-in-Ok-false.ensures.taken; bytes = rw take_rest at c.push-read-in-Ok-false.ensures.bytes } in
    record {
      heard = reads_on c.frames.invariant.heard s _ (pushed_on c.push-read-in-Ok-false.result c.frames.read front c.args.piece.now new p.bytes);
      within = push_within c.push-read-in-Ok-false.result c.frames.read c.frames.buffer.capacity front c.args.piece.now new p c.frames.invariant.within;
      moment = c.in-Ok-false.ensures.moment;
      capacity = c.push-read-in-Ok-false.ensures.capacity ∙ c.frames.invariant.capacity;
      bound = c.push-read-in-Ok-false.ensures.bound;
    }

pub returns-then-read-piece-2-clause-heard : goal.returns-then-read-piece-2-clause-heard
returns-then-read-piece-2-clause-heard c =
    let s = rw c.in-Ok-false.field-0-test at (rw c.in-Ok-false.is at c.take_front.ensures.step) in
    rw c.remember.ensures (waits_whole c.frames.invariant.heard (nothing_behind c.frames.read c.frames.buffer.bytes c.args.piece.now (omega arith)) s)

pub returns-then-awaits-clause-heard : goal.returns-then-awaits-clause-heard
returns-then-awaits-clause-heard c =
    let new = c.push-read.new.self.bytes in
    let heard = starts_with c.args.connection.now c.args.now _ c.args.buffer.now.bytes c.args.piece.now new c.push-read.result c.push-read.ensures.bytes in
    waits_whole heard (nothing_behind c.push-read.result new c.args.piece.now (omega arith)) (c.awaits.ensures.none c.if-awaits.true, header_waits c.args.connection.now.waits.known new (rw c.greatest_frame.ensures.is at (c.awaits.ensures.passed c.if-awaits.true)), refl, refl)

pub remember-requires : goal.remember-requires
remember-requires c =
    let s = rw c.in-Ok-false.field-0-test at (rw c.in-Ok-false.is at c.take_front.ensures.step) in
    rw (c.greatest_frame-then-read-piece-2.ensures.is, s.2) (waits_header c.frames.connection.waits.known c.frames.buffer.bytes s.1)
