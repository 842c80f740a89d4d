use Rattle.ua_chunk.proofs.InOrder.{ok_is, open_written}
use Rattle.ua_chunk.proofs.writing.put_open.Goals as goal

pub returns-clause-ok : goal.returns-clause-ok
returns-clause-ok c =
    ok_is c.extend_from_slice-3.result _ c.put_number-4.new.out.items c.args.body.now _ c.extend_from_slice-3.ensures.items
    (open_written c.args.channel c.args.number c.args.request_id c.args.body.now c.as_bytes-policy.result.now c.args.out.now.items _ _ _ _ _ _ _ c.as_bytes-policy.ensures.value
    c.in_ok-put_header.ensures.ok c.in_ok-put_number.ensures c.in_ok-put_number-2.ensures c.in_ok-extend_from_slice.ensures.items c.in_ok-extend_from_slice-2.ensures.items c.in_ok-put_number-3.ensures c.in_ok-put_number-4.ensures)
