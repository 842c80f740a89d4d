use Rattle.ua_chunk.proofs.InOrder.{header_spelled}
use Rattle.ua_chunk.proofs.writing.chunk_header.Goals as goal

pub returns : goal.returns
returns c =
    let head = c.args.head.now in
    header_spelled c.args.kind c.args.flag head.channel head.token c.args.number head.request_id c.args.len c.name-name.result.now
    c.to_le_bytes.result c.to_le_bytes-2.result c.to_le_bytes-3.result c.to_le_bytes-4.result c.to_le_bytes-5.result
    c.name-name.ensures c.to_le_bytes.ensures c.to_le_bytes-2.ensures c.to_le_bytes-3.ensures c.to_le_bytes-4.ensures c.to_le_bytes-5.ensures
