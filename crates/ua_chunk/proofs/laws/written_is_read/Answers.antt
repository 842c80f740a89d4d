use Rattle.ua_chunk.specs.LayoutLaws.{written_is_read}
use Rattle.ua_chunk.proofs.laws.written_is_read.Goals as goal

pub returns : goal.returns
returns c = written_is_read
