use Rattle.std.proofs.Common.{◌∙◌, sym, arith, ap, Option, Some, List, ℕ}
use Rattle.std.proofs.lemmas.Result.{err_from_is_err_and}
use Rattle.ua_variant.specs.Diagnostic.{Diagnostic}
use Rattle.ua_variant.proofs.DiagnosticSteps.{parts_fail, is_plain, inner_fails, is_around}
use Rattle.ua_variant.proofs.diagnostic.DiagnosticInfo.+read_within.Goals as goal

pub returns-in_err-parts-clause-gives : goal.returns-in_err-parts-clause-gives
returns-in_err-parts-clause-gives t c =
    let p = err_from_is_err_and c.from_residual.result c.from_residual.ensures.1 in
    rw (p.1, p.2) (parts_fail c.args.allowance c.args.input.now _ (omega arith) c.in-len1-up.len_at_least (omega arith) c.in_err-parts.ensures.gives)

pub returns-then-not-has_inner-clause-gives : goal.returns-then-not-has_inner-clause-gives
returns-then-not-has_inner-clause-gives t c =
    is_plain c.args.allowance c.args.input.now c.in_ok-parts.parts c.in_ok-parts.rest.now (omega arith) c.in-len1-up.len_at_least (omega arith) c.if-not-has_inner.true c.in_ok-parts.ensures.gives
    ∙ ap (λ (v : Diagnostic). let r : Option (Diagnostic × List ℕ) = Some (v, c.in_ok-parts.rest.now) in r) (sym c.plain.ensures)

pub returns-in_err-inner-clause-gives : goal.returns-in_err-inner-clause-gives
returns-in_err-inner-clause-gives t c =
    let p = err_from_is_err_and c.from_residual-in_err-inner.result c.from_residual-in_err-inner.ensures.1 in
    rw (p.1, p.2) (inner_fails c.args.allowance c.args.input.now c.in_ok-parts.parts c.in_ok-parts.rest.now _ (omega arith) c.in-len1-up.len_at_least (omega arith) c.if-not-has_inner.false c.in_ok-parts.ensures.gives c.in_err-inner.ensures.gives)

pub returns-clause-gives : goal.returns-clause-gives
returns-clause-gives t c =
    is_around c.args.allowance c.args.input.now c.in_ok-parts.parts c.in_ok-parts.rest.now c.in_ok-inner.inner c.in_ok-inner.rest.now (omega arith) c.in-len1-up.len_at_least (omega arith) c.if-not-has_inner.false c.in_ok-parts.ensures.gives c.in_ok-inner.ensures.gives
    ∙ ap (λ (v : Diagnostic). let r : Option (Diagnostic × List ℕ) = Some (v, c.in_ok-inner.rest.now) in r) (sym c.in_ok-around.ensures)
