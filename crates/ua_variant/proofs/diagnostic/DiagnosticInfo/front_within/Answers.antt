use Rattle.std.proofs.Common.{◌∙◌, ap, sym, arith, Option, Some, List, ℕ}
use Rattle.ua_variant.specs.Diagnostic.{Diagnostic}
use Rattle.ua_variant.proofs.DiagnosticSteps.{after_mask}
use Rattle.ua_variant.proofs.Unflagged.{says_nothing}
use Rattle.ua_variant.proofs.diagnostic.DiagnosticInfo.front_within.Goals as goal

pub returns-then-allowance-gt0-clause-gives : goal.returns-then-allowance-gt0-clause-gives
returns-then-allowance-gt0-clause-gives c =
    says_nothing c.args.allowance c.args.input.now (omega arith) c.in-len1-up.len_at_least c.if-mask-eq0.true
    ∙ ap (λ (v : Diagnostic). let r : Option (Diagnostic × List ℕ) = Some (v, after_mask c.args.input.now) in r) (sym c.empty.ensures)
