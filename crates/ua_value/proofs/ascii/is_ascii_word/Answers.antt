use Rattle.std.proofs.Common.{arith}
use Rattle.ua_value.proofs.Blocks.{block_ascii}
use Rattle.ua_value.proofs.ascii.is_ascii_word.Goals as goal

pub returns : goal.returns
returns c = block_ascii 8 c.args.bytes.now c.args.at (omega arith) c.requires
