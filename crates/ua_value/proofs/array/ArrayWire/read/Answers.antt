use Rattle.std.proofs.Common.{arith}
use Rattle.ua_value.specs.FormatLaws.{found, refused}
use Rattle.ua_value.specs.Array.{array}
use Rattle.ua_value.specs.ArrayLaws.{lawful_array}
use Rattle.ua_value.proofs.array.ArrayWire.read.Goals as goal

pub returns-in-Ok-clause-reads : goal.returns-in-Ok-clause-reads
returns-in-Ok-clause-reads g c =
    found (array g.T.Wire.format) (lawful_array g.T.Wire.format g.met.T.Wire.laws) c.args.input.now c.in-Ok.value c.in-Ok.rest.now c.requires (λ i. omega (arith, c.type_inv.input i)) c.in-Ok.ensures.gives

pub returns-in-Err-clause-reads : goal.returns-in-Err-clause-reads
returns-in-Err-clause-reads g c = refused (array g.T.Wire.format) (lawful_array g.T.Wire.format g.met.T.Wire.laws) c.args.input.now c.in-Err.fault c.in-Err.ensures.gives
