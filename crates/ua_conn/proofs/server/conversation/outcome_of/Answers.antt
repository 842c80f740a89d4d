use Rattle.std.proofs.Common.{[]}
use Rattle.ua_conn.proofs.server.conversation.outcome_of.Goals as goal

pub returns-in-Ok-clause-reply : goal.returns-in-Ok-clause-reply
returns-in-Ok-clause-reply c = λ reverse site a. c.in-Ok.ensures.reply reverse site [] c.new.ensures.items a

pub returns-in-Ok-clause-handed : goal.returns-in-Ok-clause-handed
returns-in-Ok-clause-handed c = λ reverse site a. c.in-Ok.ensures.handed reverse site [] c.new.ensures.items a

pub returns-in-Ok-clause-end : goal.returns-in-Ok-clause-end
returns-in-Ok-clause-end c = λ reverse site a. c.in-Ok.ensures.end reverse site [] c.new.ensures.items a
