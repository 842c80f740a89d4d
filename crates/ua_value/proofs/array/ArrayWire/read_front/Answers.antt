use Rattle.std.proofs.Common.{arith, sym}
use Rattle.std.specs.Int.{w32}
use Rattle.ua_value.specs.FormatLaws.{rest_fits}
use Rattle.ua_value.specs.Number.{unsigned}
use Rattle.ua_value.specs.NumberLaws.{unsigned_reads, wide_32}
use Rattle.ua_value.proofs.Items.{within}
use Rattle.ua_value.proofs.array.ArrayWire.read_front.Goals as goal

pub invariant_of-result : goal.invariant_of-result
invariant_of-result g c =
    let fits = rest_fits (unsigned w32).grammar (unsigned_reads w32 wide_32) c.args.input.now c.in-Some.count c.in-Some.rest.now (λ i. omega (arith, c.type_inv.input i)) (sym c.in-Some.ensures.front) in
    let w = within g.T.Wire.format g.met.T.Wire.laws c.in-Some.count c.in-Some.rest.now c.in_ok-items.items.items c.in_ok-items.rest.now (omega (arith, c.requires, c.in-Some.ensures.shorter)) fits c.in_ok-items.ensures.gives in
    (omega (arith, w.0, c.if-count-gt-LONGEST.false), w.1)
