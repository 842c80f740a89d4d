use Rattle.ua_service.specs.MessageLaws.{agree, one_message}
use Rattle.ua_service.proofs.laws.bodies_are_read_as_their_messages.Goals as goal

pub returns-clause-agree : goal.returns-clause-agree
returns-clause-agree g c = agree g.B.Body.message g.met.B.Body.laws

pub returns-clause-one : goal.returns-clause-one
returns-clause-one g c = one_message g.B.Body.message g.met.B.Body.laws
