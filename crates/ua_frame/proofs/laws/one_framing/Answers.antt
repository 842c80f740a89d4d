use Rattle.ua_frame.specs.StreamLaws.{framed, framed_once}
use Rattle.ua_frame.proofs.laws.one_framing.Goals as goal

pub returns-clause-some : goal.returns-clause-some
returns-clause-some c = framed

pub returns-clause-one : goal.returns-clause-one
returns-clause-one c = framed_once
