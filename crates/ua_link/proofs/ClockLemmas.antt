-- What a clock answered over several calls.
use Rattle.std.proofs.Common.{◌≡◌, ℤ, List, [], ◌∷◌, ◌++◌, Option, Some, None, refl, sym, ap, subst, ◌∙◌, append-nil, append_assoc}
use Rattle.ua_link.specs.Clock.{Answered}
use Rattle.ua_link.specs.Reads.{Cut, moment_of_read, moments}
use Rattle.ua_link.specs.Reports.{cuts_with}

-- a clock that was not asked
pub not_asked : (clock : Option (List ℤ)) → Answered clock clock []
not_asked None = tt
not_asked (Some ms) = sym (append-nil ms)

-- a clock that was asked twice
asked_again : (a b c : Option (List ℤ)) (ms ns : List ℤ) → Answered a b ms → Answered b c ns → Answered a c (ms ++ ns)
asked_again None None None ms ns h k = tt
asked_again None None (Some zs) ms ns h k = absurd k
asked_again None (Some ys) c ms ns h k = absurd h
asked_again (Some xs) None None ms ns h k = tt
asked_again (Some xs) None (Some zs) ms ns h k = absurd k
asked_again (Some xs) (Some ys) None ms ns h k = tt
asked_again (Some xs) (Some ys) (Some zs) ms ns h k = k ∙ ap (λ l. l ++ ns) h ∙ append_assoc xs ms ns

moments_more : (cuts : List Cut) (cut : Cut) → moments (cuts ++ cut ∷ []) ≡ moments cuts ++ cut.0 ∷ []
moments_more [] cut = refl
moments_more (c ∷ cs) cut = ap (λ l. c.0 ∷ l) (moments_more cs cut)

moments_with : (cut : Option Cut) (cuts : List Cut) → moments (cuts_with cut cuts) ≡ moments cuts ++ moment_of_read cut
moments_with None cuts = sym (append-nil (moments cuts))
moments_with (Some cut) cuts = moments_more cuts cut

-- the moments of one more turn
pub asked_with : (a b c : Option (List ℤ)) (cuts : List Cut) (cut : Option Cut) → Answered a b (moments cuts) → Answered b c (moment_of_read cut) → Answered a c (moments (cuts_with cut cuts))
asked_with a b c cuts cut h k = subst (Answered a c) (sym (moments_with cut cuts)) (asked_again a b c (moments cuts) (moment_of_read cut) h k)
