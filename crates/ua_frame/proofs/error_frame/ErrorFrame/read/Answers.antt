use Rattle.std.proofs.Common.{sym, ◌∙◌}
use Rattle.ua_frame.specs.Hello.{error_layout}
use Rattle.ua_frame.proofs.Codecs.{reads_also}
use Rattle.ua_frame.proofs.error_frame.ErrorFrame.read.Goals as goal

pub returns-in-Error-clause-spelled : goal.returns-in-Error-clause-spelled
returns-in-Error-clause-spelled c =
    reads_also error_layout.grammar.spells _ (sym c.kind.ensures ∙ c.in-Error.is) _ _ c.fields.ensures.fields c.of_fields.result c.of_fields.ensures.spelled
