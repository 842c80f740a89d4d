-- Lists that have the same things, each as often, are the same but for their order.
use Rattle.std.proofs.Common.{◌≡◌, ◌+◌, ◌<◌, ◌∷◌, [], ℕ, suc, Bool, true, false, cond, List, length, get_or, refl, sym, ap, arith}
use Rattle.std.specs.Prelude.{remove, count_by}
use Rattle.std.specs.Cmp.{IsEquivalence}
use Rattle.std.proofs.lemmas.List.Sums.{sum_by-cons, sum_by-remove}
use Rattle.std.proofs.lemmas.List.Sorted.{IsPermutation-refl, IsPermutation-sym, IsPermutation-cons, IsPermutation-trans, IsPermutation-remove, sum_by-IsPermutation}
use Rattle.ua_compare.specs.Offer.{times, IsSameOffer, HasAsOften}
use Rattle.ua_compare.proofs.Counts.{one_if, some_one, alike}

-- where some pass a test, one stands at some place
some_place : {D : Type 0} (p : D → Bool) (list : List D) → 0 < count_by p list → (i : ℕ) × ((i < length list) × ((d : D) → p (get_or list i d) ≡ true))
some_place p [] some = absurd (omega (arith, some))
some_place p (x ∷ xs) some =
    let first : count_by p (x ∷ xs) ≡ one_if (p x) + count_by p xs = sum_by-cons (λ o. cond (p o) 1 0) x xs in
    let by : (b : Bool) → p x ≡ b → (i : ℕ) × ((i < length (x ∷ xs)) × ((d : _) → p (get_or (x ∷ xs) i d) ≡ true)) =
    elim [
      | true ↦ (λ is. (0, (omega arith, λ d. is)))
      | false ↦ (λ is.
          let none : one_if (p x) ≡ 0 = ap one_if is in
          let later = some_place p xs (omega (arith, first, none, some)) in
          (suc later.0, (omega (arith, later.1.0), λ d. later.1.1 d)))
    ] in
    by (p x) refl

-- without one of the same in each, the rest have each as often
rest_as_often : {D : Type 0} (same : D → D → Bool) → IsEquivalence same → (w : D) (ws found : List D) (i : ℕ) → i < length found → same w (get_or found i w) ≡ true → HasAsOften same (w ∷ ws) found → HasAsOften same ws (remove found i)
rest_as_often same laws w ws found i below is often x =
    let first : times same x (w ∷ ws) ≡ one_if (same x w) + times same x ws = sum_by-cons (λ o. cond (same x o) 1 0) w ws in
    let without : times same x (remove found i) + one_if (same x (get_or found i w)) ≡ times same x found = sum_by-remove (λ o. cond (same x o) 1 0) found i w below in
    let there : one_if (same x (get_or found i w)) ≡ one_if (same x w) = ap one_if (alike same laws x w (get_or found i w) is) in
    omega (arith, first, without, there, often x)

pub in_some_order : {D : Type 0} (same : D → D → Bool) → IsEquivalence same → ((a b : D) → same a b ≡ true → a ≡ b) → (wanted found : List D) → HasAsOften same wanted found → IsSameOffer wanted found
in_some_order same laws decides [] [] often = IsPermutation-refl []
in_some_order same laws decides [] (e ∷ es) often =
    let first : times same e (e ∷ es) ≡ one_if (same e e) + times same e es = sum_by-cons (λ o. cond (same e o) 1 0) e es in
    let itself : one_if (same e e) ≡ 1 = some_one (same e e) (laws.refl e) in
    let none : times same e [] ≡ 0 = refl in
    absurd (omega (arith, often e, first, itself, none))
in_some_order same laws decides (w ∷ ws) found often =
    let first : times same w (w ∷ ws) ≡ one_if (same w w) + times same w ws = sum_by-cons (λ o. cond (same w o) 1 0) w ws in
    let itself : one_if (same w w) ≡ 1 = some_one (same w w) (laws.refl w) in
    let place = some_place (same w) found (omega (arith, often w, first, itself)) in
    let i = place.0 in
    let below = place.1.0 in
    let is = place.1.1 w in
    let rest = in_some_order same laws decides ws (remove found i) (rest_as_often same laws w ws found i below is often) in
    let out = IsPermutation-remove found i w below (decides w (get_or found i w) is) in
    IsPermutation-trans (w ∷ ws) (w ∷ remove found i) found (IsPermutation-cons w ws (remove found i) rest) (IsPermutation-sym found (w ∷ remove found i) out)

pub as_often : {D : Type 0} (same : D → D → Bool) (wanted found : List D) → IsSameOffer wanted found → HasAsOften same wanted found
as_often same wanted found is x = sym (sum_by-IsPermutation (λ o. cond (same x o) 1 0) wanted found is)
