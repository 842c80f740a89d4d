use Rattle.ua_chunk.specs.LayoutLaws.{layouts_are_read}
use Rattle.ua_chunk.proofs.laws.layouts_are_read.Goals as goal

pub returns : goal.returns
returns c = layouts_are_read
