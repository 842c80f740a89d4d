use Rattle.ua_command.proofs.Opening.{opened, unopened}
use Rattle.ua_command.proofs.answer.answered.Goals as goal

pub returns-then-reverse-clause-can_open : goal.returns-then-reverse-clause-can_open
returns-then-reverse-clause-can_open c = opened c.args.reverse c.args.settings.now c.reply_all_reverse.result c.reply_all_reverse.ensures.no_endpoint c.reply_all_reverse.ensures.too_large

pub returns-then-reverse-clause-fault : goal.returns-then-reverse-clause-fault
returns-then-reverse-clause-fault c = unopened c.args.reverse c.args.settings.now c.reply_all_reverse.result c.if-reverse.true c.reply_all_reverse.ensures.no_endpoint c.reply_all_reverse.ensures.too_large
