use Rattle.std.proofs.Common.{sym, ◌==◌}
use Rattle.ua_command.proofs.Lines.{cut_none, cut_some}
use Rattle.ua_command.proofs.script.cut_line.Goals as goal

pub returns-in-None-clause-parts : goal.returns-in-None-clause-parts
returns-in-None-clause-parts c = cut_none (λ b. b == 10) c.args.text.now (sym c.in-None.ensures)

pub returns-in-Some-clause-parts : goal.returns-in-Some-clause-parts
returns-in-Some-clause-parts c = cut_some (λ b. b == 10) c.args.text.now c.in-Some.end (sym c.in-Some.ensures)
