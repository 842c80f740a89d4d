use Rattle.std.proofs.Common.{[]}
use Rattle.ua_conn.proofs.server.conversation.reply_of.Goals as goal

pub returns-in-Ok-clause-reply : goal.returns-in-Ok-clause-reply
returns-in-Ok-clause-reply c = λ reverse site a. c.in-Ok.ensures.reply reverse site [] tt a

pub returns-in-Ok-clause-end : goal.returns-in-Ok-clause-end
returns-in-Ok-clause-end c = λ reverse site a. c.in-Ok.ensures.end reverse site [] tt a
