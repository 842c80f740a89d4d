use Rattle.std.proofs.lemmas.Result.{err_from_is_err_and}
use Rattle.ua_command.proofs.Stops.{input_stop, file_stop, reverse_stop}
use Rattle.ua_command.proofs.answer.answer_input.Goals as goal

pub returns-in_err-pieces-clause-err : goal.returns-in_err-pieces-clause-err
returns-in_err-pieces-clause-err g c =
    let p = err_from_is_err_and c.from_residual.result c.from_residual.ensures.1 in
    rw (p.1, p.2) (input_stop c.args.reverse c.args.settings.now (g.I.Read.remaining c.args.input.now) _ c.in_err-pieces.ensures.err)

pub returns-in_err-reply-clause-err : goal.returns-in_err-reply-clause-err
returns-in_err-reply-clause-err g c =
    let p = err_from_is_err_and c.from_residual-in_err-reply.result c.from_residual-in_err-reply.ensures.1 in
    rw (p.1, p.2) (reverse_stop c.args.reverse c.args.settings.now (g.I.Read.remaining c.args.input.now) _ _ c.in_ok-pieces.ensures.ok c.in_err-reply.ensures.fault)

pub returns-in_err-print_answer-clause-err : goal.returns-in_err-print_answer-clause-err
returns-in_err-print_answer-clause-err g c =
    let p = err_from_is_err_and c.from_residual-in_err-print_answer.result c.from_residual-in_err-print_answer.ensures.1 in
    rw (p.1, p.2) (file_stop c.args.reverse c.args.settings.now (g.I.Read.remaining c.args.input.now) _ c.in_err-print_answer.ensures.err)
