use Rattle.std.proofs.Common.{◌≡◌, ◌<◌, ◌∙◌, ap, sym, subst}
use Rattle.std.specs.Prelude.{IfSome}
use Rattle.ua_choice.specs.Choosing.{is_asked}
use Rattle.ua_choice.proofs.Given.{holds_of_next, same_is_equal}
use Rattle.ua_choice.proofs.verdicts.Verdicts.remembered.Goals as goal

pub returns-then-is_same : goal.returns-then-is_same
returns-then-is_same c =
    let below = subst (λ n. c.loop-given.given-index < n) (sym c.self.invariant.1) c.loop-given-test.true in
    let given = holds_of_next (λ g. IfSome g (λ j. j.1 ≡ is_asked c.args.self.now j.0.now)) c.self.inside.given c.loop-given.given-index c.given-item.result below c.loop-given.invariant in
    let judged = subst (λ g. IfSome g (λ j. j.1 ≡ is_asked c.args.self.now j.0.now)) c.in-Some.is given in
    let same = same_is_equal c.args.text.now c.in-Some.other.now (sym c.is_same.ensures ∙ c.if-is_same.true) in
    judged ∙ ap (is_asked c.args.self.now) (sym same)
