use Rattle.std.proofs.Common.{sym, arith}
use Rattle.ua_command.specs.Script.{script_in}
use Rattle.ua_command.proofs.Lines.{onto-none}
use Rattle.ua_command.proofs.script.script_of.Goals as goal

pub lines-init : goal.lines-init
unfolding script_in
lines-init c = record { told = rw c.new.ensures.items (sym (onto-none _)); counted = omega arith }
