use Rattle.std.proofs.Common.{◌≡◌, ◌∙◌, ◌∷◌, [], true, false, arith, length, not, ◌&&◌, sym, subst}
use Rattle.ua_walk.specs.Told.{is_whole, rest_told}
use Rattle.ua_walk.specs.Walk.{story_on}
use Rattle.ua_walk.proofs.Stories.{end_none, end_some, whole_none, whole_some, hears_same, hears_nothing}
use Rattle.ua_walk.proofs.walker.Walker.end.Goals as goal

pub returns-then-left-eq0-clause-told : goal.returns-then-left-eq0-clause-told
returns-then-left-eq0-clause-told g c =
    hears_nothing g.T.Teller.heard _ _ (subst (λ w. story_on w [] ≡ []) c.self.view_is (end_none _ c.if-self.false c.self.invariant (omega (arith, c.len-left.ensures, c.if-left-eq0.true))))

pub returns-then-left-eq0-clause-whole : goal.returns-then-left-eq0-clause-whole
returns-then-left-eq0-clause-whole g c =
    subst (λ w. true ≡ not w.has_ended && is_whole (story_on w [])) c.self.view_is (whole_none _ c.if-self.false c.self.invariant (omega (arith, c.len-left.ensures, c.if-left-eq0.true)))

pub returns-clause-told : goal.returns-clause-told
returns-clause-told g c =
    let left : c.len-left.result ≡ length c.self.inside.rest.items = omega (arith, c.len-left.ensures) in
    let story = subst (λ w. story_on w [] ≡ rest_told c.self.inside.offset (length c.self.inside.rest.items) ∷ []) c.self.view_is (end_some _ c.if-self.false c.self.invariant (omega (arith, left, c.if-left-eq0.false))) in
    hears_same g.T.Teller.heard (rest_told c.self.inside.offset c.len-left.result ∷ []) _ _ _ ((λ i. rest_told c.self.inside.offset (left i) ∷ []) ∙ sym story) c.in_ok-tell_rest.ensures

pub returns-clause-whole : goal.returns-clause-whole
returns-clause-whole g c =
    subst (λ w. false ≡ not w.has_ended && is_whole (story_on w [])) c.self.view_is (whole_some _ c.if-self.false c.self.invariant (omega (arith, c.len-left.ensures, c.if-left-eq0.false)))
