use Rattle.std.proofs.lemmas.Result.{err_from_is_err_and}
use Rattle.ua_command.proofs.Stops.{settings_stop, stopped_by, done_by}
use Rattle.ua_command.proofs.answer.answer.Goals as goal

pub returns-in_err-settings-clause-err : goal.returns-in_err-settings-clause-err
returns-in_err-settings-clause-err g c =
    let p = err_from_is_err_and c.from_residual.result c.from_residual.ensures.1 in
    rw (p.1, p.2) (settings_stop c.args.reverse c.args.source.now (g.I.Read.remaining c.args.input.now) _ c.in_err-settings.ensures.err)

pub returns-clause-ok : goal.returns-clause-ok
returns-clause-ok g c = done_by _ _ _ _ _ _ c.answer_input.result c.in_ok-settings.ensures.ok c.answer_input.ensures.ok

pub returns-clause-err : goal.returns-clause-err
returns-clause-err g c = stopped_by _ _ _ _ c.answer_input.result c.in_ok-settings.ensures.ok c.answer_input.ensures.err
