use Rattle.std.proofs.Common.{arith}
use Rattle.ua_value.specs.FormatLaws.{found, refused}
use Rattle.ua_variant.specs.Formats.{variant_format, lawful_variant}
use Rattle.ua_variant.proofs.wire.VariantWire.read.Goals as goal

pub returns-in-Ok-clause-reads : goal.returns-in-Ok-clause-reads
returns-in-Ok-clause-reads c = found variant_format lawful_variant c.args.input.now c.in-Ok.value c.in-Ok.rest.now c.requires (λ i. omega (arith, c.type_inv.input i)) c.in-Ok.ensures.gives

pub returns-in-Err-clause-reads : goal.returns-in-Err-clause-reads
returns-in-Err-clause-reads c = refused variant_format lawful_variant c.args.input.now c.in-Err.fault c.in-Err.ensures.gives
