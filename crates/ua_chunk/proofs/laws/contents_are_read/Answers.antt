use Rattle.ua_chunk.specs.ContentLaws.{contents_are_read}
use Rattle.ua_chunk.proofs.laws.contents_are_read.Goals as goal

pub returns : goal.returns
returns c = contents_are_read
