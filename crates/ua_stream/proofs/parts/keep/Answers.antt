use Rattle.std.proofs.Common.{refl}
use Rattle.ua_stream.specs.Piece.{part_of}
use Rattle.ua_stream.proofs.Places.{byte_at-snoc, known_all}
use Rattle.ua_stream.proofs.parts.keep.Goals as goal

pub returns-then-has_all-clause-kept : goal.returns-then-has_all-clause-kept
returns-then-has_all-clause-kept c = λ e k. known_all c.args.parts.now.items (part_of c.args.at c.args.bytes.now) (λ j from to. rw (← c.deref.ensures.value) (c.if-has_all.ensures refl j from to)) k

pub returns-clause-kept : goal.returns-clause-kept
returns-clause-kept c = λ e k. rw (c.in_ok-push.ensures.items, c.in_ok-part.ensures) (byte_at-snoc c.args.parts.now.items (part_of c.args.at c.args.bytes.now) k)
