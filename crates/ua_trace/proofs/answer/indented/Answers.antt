use Rattle.std.proofs.Common.{subst, sym}
use Rattle.ua_trace.specs.Under.{AreUnder, none}
use Rattle.ua_trace.proofs.answer.indented.Goals as goal

pub add_lines-requires : goal.add_lines-requires
add_lines-requires c = subst AreUnder (sym c.new-text.ensures.bytes) none
