use Rattle.ua_value.specs.Laws.{reads_back}
use Rattle.ua_value.proofs.laws.what_is_written_reads_back.Goals as goal

pub returns : goal.returns
returns g c = reads_back g.T.Wire.format g.met.T.Wire.laws
