use Rattle.ua_value.specs.Laws.{no_other}
use Rattle.ua_value.proofs.laws.no_spelling_begins_another.Goals as goal

pub returns : goal.returns
returns g c = no_other g.T.Wire.format.grammar g.met.T.Wire.laws.reads
