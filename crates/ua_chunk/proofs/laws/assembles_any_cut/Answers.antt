use Rattle.ua_chunk.specs.AssemblyLaws.{assembles_any_cut}
use Rattle.ua_chunk.proofs.laws.assembles_any_cut.Goals as goal

pub returns : goal.returns
returns c = assembles_any_cut
