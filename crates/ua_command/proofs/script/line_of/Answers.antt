use Rattle.std.proofs.Common.{refl, sym, ◌∙◌}
use Rattle.ua_command.specs.Script.{is_dropped}
use Rattle.ua_command.proofs.Dropped.{kept_front, none_kept}
use Rattle.ua_command.proofs.script.line_of.Goals as goal

pub returns-then-are_dropped : goal.returns-then-are_dropped
returns-then-are_dropped c =
    let none = none_kept is_dropped c.args.line.now (sym c.are_dropped.ensures ∙ c.if-are_dropped.true) in
    rw none refl

pub returns-then-are_dropped-2 : goal.returns-then-are_dropped-2
returns-then-are_dropped-2 c =
    let whole = kept_front is_dropped c.args.line.now c.split_at.result.0.now c.split_at.result.1.now c.first_dropped.result c.split_at.ensures.front c.split_at.ensures.back c.first_dropped.ensures.kept (sym c.are_dropped-2.ensures ∙ c.if-are_dropped-2.true) in
    rw whole c.line_of_kept.ensures
