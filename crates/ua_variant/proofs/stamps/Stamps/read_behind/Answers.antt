use Rattle.ua_variant.proofs.Unflagged.{stamps_at_one}
use Rattle.ua_variant.proofs.stamps.Stamps.read_behind.Goals as goal

pub returns-then-mask-le1-clause-gives : goal.returns-then-mask-le1-clause-gives
returns-then-mask-le1-clause-gives c = stamps_at_one c.args.mask c.args.input.now c.if-mask-le1.true
