use Rattle.std.proofs.Common.{arith}
use Rattle.ua_conn.proofs.content.are_bytes.Goals as goal

pub returns : goal.returns
returns c = λ i. omega (arith, c.type_inv.bytes i)
