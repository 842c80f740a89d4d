use Rattle.ua_value.proofs.Chunks.{read_all, too_short}
use Rattle.ua_value.proofs.bulk.read_fixed.Goals as goal

pub returns-then-input-size-clause-gives : goal.returns-then-input-size-clause-gives
returns-then-input-size-clause-gives g c = too_short g.T.Fixed.format g.row.N g.T.Fixed.value g.met.T.Fixed.fixed c.args.count c.args.input.now c.if-input-size.true

pub returns-clause-gives : goal.returns-clause-gives
returns-clause-gives g c =
    read_all g.T.Fixed.format g.row.N g.T.Fixed.value g.met.T.Fixed.fixed c.args.count c.args.input.now c.split_at.result.0.now c.split_at.result.1.now c.as_chunks.result.0.now c.loop-chunk.items.items c.loop-chunk.chunk-index
    c.if-input-size.false c.split_at.ensures.front c.split_at.ensures.back c.as_chunks.ensures.front c.loop-chunk-test.false c.loop-chunk.invariant.values
