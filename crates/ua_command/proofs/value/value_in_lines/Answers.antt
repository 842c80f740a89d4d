use Rattle.std.proofs.Common.{rules}
use Rattle.ua_command.proofs.value.value_in_lines.Goals as goal

pub returns-in_ok-print_bytes-in-Ok-clause-done : goal.returns-in_ok-print_bytes-in-Ok-clause-done
returns-in_ok-print_bytes-in-Ok-clause-done g c = λ _. (c.in-Ok.text.items, c.in-Ok.ensures.ok, search rules)
