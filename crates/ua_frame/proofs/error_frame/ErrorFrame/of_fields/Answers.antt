use Rattle.std.proofs.Common.{Ok, arith}
use Rattle.std.proofs.lemmas.Result.{err_from_is_err_and}
use Rattle.ua_frame.specs.Hello.{error_layout, lawful_error}
use Rattle.ua_frame.proofs.Codecs.{reads_all, error_some, error_fails}
use Rattle.ua_frame.proofs.error_frame.ErrorFrame.of_fields.Goals as goal

pub returns-in_err-status-clause-exact : goal.returns-in_err-status-clause-exact
returns-in_err-status-clause-exact c =
    let p = err_from_is_err_and c.from_residual.result c.from_residual.ensures.1 in
    rw (p.1, p.2) (error_fails c.args.fields.now c.in_err-status.field-0.0 c.in_err-status.ensures.gives)

pub returns-in_err-status-clause-spelled : goal.returns-in_err-status-clause-spelled
returns-in_err-status-clause-spelled c =
    reads_all error_layout lawful_error c.args.fields.now (λ i. omega (arith, c.type_inv.fields i)) _ (returns-in_err-status-clause-exact c)

pub returns-clause-exact : goal.returns-clause-exact
returns-clause-exact c = error_some c.args.fields.now _ c.in_ok-status.ensures.gives

pub returns-clause-spelled : goal.returns-clause-spelled
returns-clause-spelled c =
    reads_all error_layout lawful_error c.args.fields.now (λ i. omega (arith, c.type_inv.fields i)) (Ok _) (returns-clause-exact c)
