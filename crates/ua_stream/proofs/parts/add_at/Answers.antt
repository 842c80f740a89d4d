use Rattle.std.proofs.Common.{◌≡◌, None, subst, arith}
use Rattle.ua_stream.specs.Piece.{part_of, byte_at}
use Rattle.ua_stream.specs.Run.{Gives}
use Rattle.ua_stream.proofs.Places.{added_behind, added_kept}
use Rattle.ua_stream.proofs.parts.add_at.Goals as goal

pub returns-then-at-next-clause-added : goal.returns-then-at-next-clause-added
returns-then-at-next-clause-added c =
    added_behind c.args.parts.now.items c.args.next c.args.at c.args.bytes.now c.args.ready.now.items c.extend_from_slice.new.self.items (omega arith) (omega arith) c.in_ok-extend_from_slice.ensures.items

pub returns-then-kept-clause-added : goal.returns-then-kept-clause-added
returns-then-kept-clause-added c =
    added_kept c.args.parts.now.items c.keep.new.parts.items c.drop_behind.new.parts.items c.args.next c.in_ok-to.to (part_of c.args.at c.args.bytes.now) c.args.ready.now.items c.advance.new.ready.items
    (c.in_ok-kept.ensures.kept c.if-kept.true)
    (subst (λ l. Gives l c.args.next c.in_ok-to.to c.args.ready.now.items c.advance.new.ready.items) c.deref.ensures.value c.in_ok-to.ensures.given)
    (subst (λ l. byte_at l c.in_ok-to.to ≡ None) c.deref.ensures.value c.in_ok-to.ensures.gap)
    c.drop_behind.ensures
