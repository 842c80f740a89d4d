use Rattle.std.proofs.Common.{arith, rules}
use Rattle.ua_variant.specs.View.{kind_of}
use Rattle.ua_variant.proofs.NumberSteps.{number_ahead}
use Rattle.ua_variant.proofs.reading.data.number_ahead.Goals as goal

pub returns-then-number-le-LAST_NUMBER-clause-ahead : goal.returns-then-number-le-LAST_NUMBER-clause-ahead
returns-then-number-le-LAST_NUMBER-clause-ahead c =
    number_ahead c.args.allowance c.args.input.now (kind_of c.in_ok-kind.kind) (omega (arith, c.if-allowance-lt2.false)) (omega (arith, c.in-len2-up.len_at_least)) (search rules) (search rules) (search rules) (search rules) (search rules) (omega (arith, c.number.ensures.number, c.if-number-le-LAST_NUMBER.true))
