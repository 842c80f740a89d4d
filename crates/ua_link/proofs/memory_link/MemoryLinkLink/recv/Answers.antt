use Rattle.std.proofs.Common.{rules, arith, ◌≡◌, [], ◌∷◌, List, ℕ, refl, ap, min, length, drop, ◌∙◌, sym, Bor, true, false, ◌==◌}
use Rattle.std.proofs.lemmas.Bool.Decides.{nat_tests}
use Rattle.std.proofs.lemmas.List.{drop_min}
use Rattle.ua_link.specs.MemoryLink.{before, filled, left_after, lent}
use Rattle.ua_link.proofs.memory_link.MemoryLinkLink.recv.Goals as goal
use Rattle.ua_link.proofs.memory_link.MemoryLinkLink.recv.Goals.{then-empty-test+else-not-is_empty, else-empty-test}

left_is : (room n : ℕ) (p : List ℕ) (ps : List (Bor (List ℕ))) → n ≡ min room (length p) → (p ≡ [] → ps ≡ []) → before (drop n p) (filled (lent ps)) ≡ left_after room (before p (filled (lent ps)))
left_is room n [] [] e none = search rules
left_is room n [] (q ∷ ps) e none = absurd (let h = none refl in cc)
left_is room n (b ∷ bs) ps e none =
    ap (λ k. before (drop k (b ∷ bs)) (filled (lent ps))) e ∙ ap (λ l. before l (filled (lent ps))) (drop_min room (b ∷ bs))

none_left : (p : List ℕ) (ps : List (Bor (List ℕ))) → (length ps == 0) ≡ true → p ≡ [] → ps ≡ []
none_left p [] e is = refl
none_left p (q ∷ ps) e is = absurd (grind (arith, nat_tests, e))

some_begun : (p : List ℕ) (ps : List (Bor (List ℕ))) → (length p == 0) ≡ false → p ≡ [] → ps ≡ []
some_begun [] ps e is = absurd (cc)
some_begun (b ∷ p) ps e is = absurd (cc)

pub returns-clause-pieces : goal.returns-clause-pieces
returns-clause-pieces c =
    let l = c.empty.self-inside in
    let none : l.piece.now ≡ [] → l.pieces.now ≡ [] = elim c.empty-test.branch [
      | then-empty-test+else-not-is_empty w ↦ none_left l.piece.now l.pieces.now (sym w.is_empty-in-empty.ensures ∙ w.if-not-is_empty.false)
      | else-empty-test w ↦ some_begun l.piece.now l.pieces.now (sym c.is_empty.ensures ∙ w.empty-test.false)
    ] in
    ap (λ r. before r (filled (lent l.pieces.now))) c.split_at.ensures.back ∙ left_is (length c.args.buf.now) c.min-n.result l.piece.now l.pieces.now c.min-n.ensures none ∙ ap (left_after (length c.args.buf.now)) c.empty.invariant.0
