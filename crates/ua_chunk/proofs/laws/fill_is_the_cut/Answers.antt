use Rattle.ua_chunk.specs.CutLaws.{fill_is_the_cut}
use Rattle.ua_chunk.proofs.laws.fill_is_the_cut.Goals as goal

pub returns : goal.returns
returns c = fill_is_the_cut
