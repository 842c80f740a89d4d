use Rattle.std.proofs.Common.{[], subst, sym}
use Rattle.ua_trace.specs.Woven.{Woven, none}
use Rattle.ua_trace.proofs.whole.whole_lines_of.Goals as goal

pub returns-in-Ok-clause-text : goal.returns-in-Ok-clause-text
returns-in-Ok-clause-text c = c.in-Ok.ensures.told [] (subst (Woven []) (sym c.new.ensures.bytes) none)
