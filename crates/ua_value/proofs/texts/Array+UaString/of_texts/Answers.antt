use Rattle.std.proofs.Common.{arith}
use Rattle.ua_value.proofs.TextLengths.{within}
use Rattle.ua_value.proofs.texts.Array+UaString.of_texts.Goals as goal

pub new-requires : goal.new-requires
unfolding Rattle.ua_value.specs.Text.bytes_of
new-requires c = rw c.in_ok-copies.ensures (omega (arith, c.requires.count, within (λ t. t.now) c.args.texts.now c.requires.lengths))
