use Rattle.std.proofs.Common.{◌++◌, subst, sym}
use Rattle.ua_stream.specs.Piece.{part_of}
use Rattle.ua_stream.specs.Flow.{Flow}
use Rattle.ua_stream.specs.Run.{IsStream}
use Rattle.ua_stream.proofs.Places.{stream_added}
use Rattle.ua_stream.proofs.side.Side.add_from.Goals as goal

pub returns-in-Ok-Some-clause-stream : goal.returns-in-Ok-Some-clause-stream
returns-in-Ok-Some-clause-stream c = λ live past taken h.
    stream_added past c.self.inside.parts.items c.add_at.new.parts.items taken c.self.inside.ready.items c.add_at.new.ready.items c.self.inside.next c.in-Ok-Some.to (part_of c.args.at c.args.bytes.now)
    (subst (λ (v : Flow). IsStream past (taken ++ v.ready) v.next v.parts) (sym c.self.view_is) h)
    (rw c.in-Ok-Some.field-0-is at c.in-Ok-Some.ensures.added)
