use Rattle.std.proofs.Common.{[]}
use Rattle.ua_print.proofs.capture.lines_of.Goals as goal

pub returns-in-Ok-clause-text : goal.returns-in-Ok-clause-text
returns-in-Ok-clause-text c = c.in-Ok.ensures.told [] c.new.ensures.bytes
