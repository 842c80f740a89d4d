use Rattle.std.proofs.Common.{◌∙◌, ◌++◌, ap, string_bytes}
use Rattle.ua_trace.proofs.Weave.{answer_line_put}
use Rattle.ua_trace.proofs.answer.add_line.Goals as goal

pub returns : goal.returns
returns c = answer_line_put c.push_str-3.result (string_bytes c.args.text.now) c.args.line.now _ _ c.requires.under c.requires.line
    (c.in_ok-push_str-2.ensures.bytes ∙ ap (λ t. t ++ c.args.line.now) c.in_ok-push_str.ensures.bytes) c.push_str-3.ensures.bytes
