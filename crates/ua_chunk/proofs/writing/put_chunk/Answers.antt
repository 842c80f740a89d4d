use Rattle.std.proofs.Common.{arith}
use Rattle.ua_chunk.proofs.InOrder.{ok_is, chunk_written}
use Rattle.ua_chunk.proofs.writing.put_chunk.Goals as goal

pub returns-clause-ok : goal.returns-clause-ok
returns-clause-ok c =
    let body = c.args.body.now in
    ok_is c.extend_from_slice-2.result _ c.extend_from_slice.new.self.items body _ c.extend_from_slice-2.ensures.items
    (chunk_written _ c.chunk_header.result body c.args.out.now.items _ _ (c.chunk_header.ensures body (omega arith)) c.in_ok-reserve.ensures.items c.in_ok-extend_from_slice.ensures.items)
