use Rattle.std.proofs.Common.{sym, ◌∙◌}
use Rattle.ua_frame.specs.Hello.{hello_layout}
use Rattle.ua_frame.proofs.Codecs.{reads_also}
use Rattle.ua_frame.proofs.hello.Hello.read.Goals as goal

pub returns-in-Hello-clause-spelled : goal.returns-in-Hello-clause-spelled
returns-in-Hello-clause-spelled c =
    reads_also hello_layout.grammar.spells _ (sym c.kind.ensures ∙ c.in-Hello.is) _ _ c.fields.ensures.fields c.of_fields.result c.of_fields.ensures.spelled
