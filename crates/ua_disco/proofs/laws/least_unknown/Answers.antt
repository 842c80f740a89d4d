use Rattle.ua_disco.specs.ReadingLaws.{names_least}
use Rattle.ua_disco.proofs.laws.least_unknown.Goals as goal

pub returns : goal.returns
returns c = names_least
