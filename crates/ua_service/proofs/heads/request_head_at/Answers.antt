use Rattle.ua_service.proofs.Beginnings.{request_head_spelled}
use Rattle.ua_service.proofs.heads.request_head_at.Goals as goal

pub returns : goal.returns
returns c now moment =
    request_head_spelled c.args.id now c.args.handle c.to_le_bytes.result c.args.moment c.to_le_bytes-2.result
    c.requires.wide c.requires.narrow c.to_le_bytes.ensures moment c.to_le_bytes-2.ensures
