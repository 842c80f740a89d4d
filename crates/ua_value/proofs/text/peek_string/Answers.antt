use Rattle.std.proofs.Common.{arith, sym}
use Rattle.ua_value.specs.Text.{string}
use Rattle.ua_value.specs.TextLaws.{lawful_string}
use Rattle.ua_value.specs.FormatLaws.{none_begins, begins_with}
use Rattle.std.specs.Prelude.{option_copied}
use Rattle.ua_value.proofs.text.peek_string.Goals as goal

pub returns-in-None : goal.returns-in-None
returns-in-None c = none_begins string.grammar lawful_string.reads c.args.input.now (sym c.in-None.ensures.front)

pub returns-in-Some : goal.returns-in-Some
returns-in-Some c = let b = begins_with string.grammar lawful_string.reads c.args.input.now (option_copied c.in-Some.text) c.in-Some.rest.now (λ i. omega (arith, c.type_inv.input i)) (sym c.in-Some.ensures.front) in (omega arith, b.1)
