use Rattle.ua_print.proofs.PartLemmas.{first_tells}
use Rattle.ua_print.proofs.parts.type_of_first.Goals as goal

pub returns : goal.returns
returns c = first_tells c.args.bytes.now c.type_of.result (λ i. (c.type_inv.bytes i).fits) c.type_of.ensures
