use Rattle.std.proofs.Common.{sym, ◌∙◌}
use Rattle.ua_frame.specs.Hello.{reverse_hello_layout}
use Rattle.ua_frame.proofs.Codecs.{reads_also}
use Rattle.ua_frame.proofs.reverse_hello.ReverseHello.read.Goals as goal

pub returns-in-ReverseHello-clause-spelled : goal.returns-in-ReverseHello-clause-spelled
returns-in-ReverseHello-clause-spelled c =
    reads_also reverse_hello_layout.grammar.spells _ (sym c.kind.ensures ∙ c.in-ReverseHello.is) _ _ c.fields.ensures.fields c.of_fields.result c.of_fields.ensures.spelled
