use Rattle.std.proofs.Common.{sym, ◌<◌, length, rules}
use Rattle.ua_command.proofs.Lines.{digits_text, no_moment}
use Rattle.ua_command.proofs.script.moment_of.Goals as goal

pub returns-in_default : goal.returns-in_default
returns-in_default c = absurd (c.in_default.ensures.cases.0 (digits_text c.args.digits.now (sym c.if-not-are_digits.ensures)))

pub returns-in_default-parse : goal.returns-in_default-parse
returns-in_default-parse c =
    let some : 0 < length c.args.digits.now = search rules in
    no_moment c.args.digits.now c.in_default-parse.field-0 (sym c.if-not-are_digits.ensures) some (rw (c.in-Ok.ensures.cases.0) at (c.in_default-parse.ensures.value.0))
