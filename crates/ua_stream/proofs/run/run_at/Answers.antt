use Rattle.std.proofs.Common.{◌≡◌, ◌<◌, ◌∙◌, ap, min, length, arith}
use Rattle.ua_stream.specs.Piece.{end_of}
use Rattle.ua_stream.proofs.Places.{run_is, passed_behind, passed_later, byte_at-none}
use Rattle.ua_stream.proofs.run.run_at.Goals as goal
use Rattle.ua_stream.proofs.run.run_at.Goals.{then-at-next, else-at-next+else-next-end}

pub loop-part-init : goal.loop-part-init
loop-part-init c = record { later = omega arith; none = λ k from lt. byte_at-none k }

pub returns-then-next-end-clause-run : goal.returns-then-next-end-clause-run
returns-then-next-end-clause-run c =
    let i : c.loop-part.part-index < length c.args.parts.now = omega arith in
    let e : c.min.result ≡ min (end_of c.part-item.result) c.loop-part.until = c.min.ensures ∙ ap (λ n. min n c.loop-part.until) c.end-end.ensures.end in
    rw (c.bytes.ensures, c.at-at.ensures)
    (run_is c.args.parts.now c.loop-part.part-index c.args.next c.loop-part.until c.min.result c.part-item.result i c.part-item.is c.loop-part.invariant.none (omega arith) (omega arith) c.loop-part.invariant.later (omega arith) e)

pub loop-part-preserved : goal.loop-part-preserved
loop-part-preserved c =
    let i : c.loop-part.part-index < length c.args.parts.now = omega arith in
    elim c.if-at-next.branch [
      | then-at-next w ↦
          let e : c.if-at-next.until ≡ min c.loop-part.until c.part-item.result.at = w.until-is ∙ w.min-until.ensures ∙ ap (min c.loop-part.until) c.at-at.ensures in
          record {
            later = omega arith;
            none = λ k from lt. passed_later c.args.parts.now c.loop-part.part-index c.args.next c.loop-part.until c.part-item.result i c.part-item.is c.loop-part.invariant.none k from (omega arith);
          }
      | else-at-next+else-next-end w ↦
          record {
            later = omega arith;
            none = λ k from lt. passed_behind c.args.parts.now c.loop-part.part-index c.args.next c.loop-part.until c.part-item.result i c.part-item.is c.loop-part.invariant.none (omega arith) k from (omega arith);
          }
    ]
