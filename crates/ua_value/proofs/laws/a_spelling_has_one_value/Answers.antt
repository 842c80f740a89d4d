use Rattle.ua_value.specs.Laws.{one_value}
use Rattle.ua_value.proofs.laws.a_spelling_has_one_value.Goals as goal

pub returns : goal.returns
returns g c = one_value g.T.Wire.format.grammar g.met.T.Wire.laws.reads
