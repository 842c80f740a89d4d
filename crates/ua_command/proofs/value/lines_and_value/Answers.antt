use Rattle.ua_command.proofs.value.lines_and_value.Goals as goal

pub returns-clause-ok : goal.returns-clause-ok
returns-clause-ok c =
    let more = c.in_ok-add_value_itself.ensures in
    rw c.if-not-whole.false (c.in_ok-lines.lines.items, more.0, c.in_ok-lines.ensures.ok, more.1)
