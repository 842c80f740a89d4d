use Rattle.std.proofs.Common.{sym, ◌∙◌}
use Rattle.ua_frame.specs.Hello.{acknowledge_layout}
use Rattle.ua_frame.proofs.Codecs.{reads_also}
use Rattle.ua_frame.proofs.acknowledge.Ack.read.Goals as goal

pub returns-in-Acknowledge-clause-spelled : goal.returns-in-Acknowledge-clause-spelled
returns-in-Acknowledge-clause-spelled c =
    reads_also acknowledge_layout.grammar.spells _ (sym c.kind.ensures ∙ c.in-Acknowledge.is) _ _ c.fields.ensures.fields c.of_fields.result c.of_fields.ensures.spelled
