use Rattle.std.proofs.Common.{Ok, Err, sym, arith}
use Rattle.ua_value.specs.declared.fault.ReadFault.TheVariants.{Refused}
use Rattle.ua_frame.specs.Hello.{acknowledge_layout, lawful_acknowledge}
use Rattle.ua_frame.proofs.Codecs.{reads_all}
use Rattle.ua_frame.proofs.acknowledge.Ack.of_fields.Goals as goal

pub returns-in-Some-clause-spelled : goal.returns-in-Some-clause-spelled
returns-in-Some-clause-spelled c = reads_all acknowledge_layout lawful_acknowledge c.args.fields.now (λ i. omega (arith, c.type_inv.fields i)) (Ok c.in-Some.ack) (sym c.in-Some.ensures)

pub returns-in-None-clause-spelled : goal.returns-in-None-clause-spelled
returns-in-None-clause-spelled c = reads_all acknowledge_layout lawful_acknowledge c.args.fields.now (λ i. omega (arith, c.type_inv.fields i)) (Err Refused) (sym c.in-None.ensures)
