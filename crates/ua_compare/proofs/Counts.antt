-- How often descriptions stand in lists that lose one or gain one.
use Rattle.std.proofs.Common.{◌≡◌, ◌+◌, ◌<◌, ◌≤◌, ◌∷◌, ◌++◌, [], ℕ, Bool, true, false, cond, List, length, take, get_or, refl, sym, ap, ◌∙◌, arith}
use Rattle.std.specs.Prelude.{All, remove}
use Rattle.std.specs.Borrow.{Bor}
use Rattle.std.specs.Cmp.{IsEquivalence}
use Rattle.std.proofs.lemmas.List.Sums.{sum_by-cons, sum_by-remove, sum_by_push, sum_by_more, get_or-le-sum_by}
use Rattle.ua_compare.specs.Offer.{times, times_lent, HasAsOften}

abbrev pub one_if : Bool → ℕ
one_if b = cond b 1 0

no_one : (b : Bool) → one_if b ≤ 0 → b ≡ false
no_one false le = refl
no_one true le = let one : 1 ≤ 0 = le in absurd (omega (arith, one))

pub some_one : (b : Bool) → b ≡ true → one_if b ≡ 1
some_one b is = ap one_if is

-- one that is the same as another is the same as what the other is the same as
pub alike : {D : Type 0} (same : D → D → Bool) → IsEquivalence same → (x a b : D) → same a b ≡ true → same x b ≡ same x a
alike same laws x a b is = laws.symm x b ∙ sym (laws.congr a b x is) ∙ laws.symm a x

-- where none is the same, the one at a place is not
pub differs_at : {D : Type 0} (same : D → D → Bool) (one : D) (lent : List (Bor D)) (i : ℕ) (other : Bor D) → i < length lent → times_lent same one lent ≡ 0 → same one (get_or lent i other).now ≡ false
differs_at same one lent i other below none =
    let at : one_if (same one (get_or lent i other).now) ≤ times_lent same one lent = get_or-le-sum_by (λ o. cond (same one o.now) 1 0) lent i other below in
    no_one (same one (get_or lent i other).now) (omega (arith, at, none))

-- what is nowhere is nowhere among fewer
fewer : {D : Type 0} (same : D → D → Bool) (one : D) (lent : List (Bor D)) (i : ℕ) (other : Bor D) → i < length lent → times_lent same one lent ≡ 0 → times_lent same one (remove lent i) ≡ 0
fewer same one lent i other below none =
    let without : times_lent same one (remove lent i) + one_if (same one (get_or lent i other).now) ≡ times_lent same one lent = sum_by-remove (λ o. cond (same one o.now) 1 0) lent i other below in
    omega (arith, without, none)

pub apart_still : {D : Type 0} (same : D → D → Bool) (missing extra : List (Bor D)) (i : ℕ) (other : Bor D) → i < length extra → All (λ m. times_lent same m.now extra ≡ 0) missing → All (λ m. times_lent same m.now (remove extra i) ≡ 0) missing
apart_still same missing extra i other below apart k d small = fewer same (get_or missing k d).now extra i other below (apart k d small)

-- one of the wanted and the same one of the found are taken away
pub taken : {D : Type 0} (same : D → D → Bool) → IsEquivalence same → (wanted found : List D) (missing extra : List (Bor D)) (n i : ℕ) (one : D) (other : Bor D) → n < length wanted → one ≡ get_or wanted n one → i < length extra → same one (get_or extra i other).now ≡ true
    → ((x : D) → times same x (take n wanted) + times_lent same x extra ≡ times same x found + times_lent same x missing)
    → (x : D) → times same x (take (n + 1) wanted) + times_lent same x (remove extra i) ≡ times same x found + times_lent same x missing
taken same laws wanted found missing extra n i one other below at within is balance x =
    let more : times same x (take (n + 1) wanted) ≡ times same x (take n wanted) + one_if (same x (get_or wanted n one)) = sum_by_more (λ o. cond (same x o) 1 0) wanted n one below in
    let here : one_if (same x (get_or wanted n one)) ≡ one_if (same x one) = ap (λ o. one_if (same x o)) (sym at) in
    let without : times_lent same x (remove extra i) + one_if (same x (get_or extra i other).now) ≡ times_lent same x extra = sum_by-remove (λ o. cond (same x o.now) 1 0) extra i other within in
    let there : one_if (same x (get_or extra i other).now) ≡ one_if (same x one) = ap one_if (alike same laws x one (get_or extra i other).now is) in
    omega (arith, more, here, without, there, balance x)

-- one of the wanted is missing
pub missed : {D : Type 0} (same : D → D → Bool) (wanted found : List D) (missing extra : List (Bor D)) (n : ℕ) (one : Bor D) → n < length wanted → one.now ≡ get_or wanted n one.now
    → ((x : D) → times same x (take n wanted) + times_lent same x extra ≡ times same x found + times_lent same x missing)
    → (x : D) → times same x (take (n + 1) wanted) + times_lent same x extra ≡ times same x found + times_lent same x (missing ++ one ∷ [])
missed same wanted found missing extra n one below at balance x =
    let more : times same x (take (n + 1) wanted) ≡ times same x (take n wanted) + one_if (same x (get_or wanted n one.now)) = sum_by_more (λ o. cond (same x o) 1 0) wanted n one.now below in
    let here : one_if (same x (get_or wanted n one.now)) ≡ one_if (same x one.now) = ap (λ o. one_if (same x o)) (sym at) in
    let push : times_lent same x (missing ++ one ∷ []) ≡ times_lent same x missing + one_if (same x one.now) = sum_by_push (λ o. cond (same x o.now) 1 0) missing one in
    omega (arith, more, here, push, balance x)

-- with nothing left, each stands as often in both
pub nothing_left : {D : Type 0} (same : D → D → Bool) (wanted found : List D) (missing extra : List (Bor D))
    → ((x : D) → times same x wanted + times_lent same x extra ≡ times same x found + times_lent same x missing)
    → missing ≡ [] → extra ≡ [] → HasAsOften same wanted found
nothing_left same wanted found missing extra balance no_missing no_extra x =
    let none_extra : times_lent same x extra ≡ 0 = ap (times_lent same x) no_extra in
    let none_missing : times_lent same x missing ≡ 0 = ap (times_lent same x) no_missing in
    omega (arith, balance x, none_extra, none_missing)

-- where each stands as often in both, nothing is left
pub none_left : {D : Type 0} (same : D → D → Bool) → IsEquivalence same → (wanted found : List D) (missing extra : List (Bor D))
    → ((x : D) → times same x wanted + times_lent same x extra ≡ times same x found + times_lent same x missing)
    → All (λ m. times_lent same m.now extra ≡ 0) missing
    → HasAsOften same wanted found → (missing ≡ []) × (extra ≡ [])
none_left same laws wanted found [] [] balance apart is = (refl, refl)
none_left same laws wanted found [] (e ∷ es) balance apart is =
    let first : times_lent same e.now (e ∷ es) ≡ one_if (same e.now e.now) + times_lent same e.now es = sum_by-cons (λ (o : Bor _). cond (same e.now o.now) 1 0) e es in
    let none : times_lent same e.now [] ≡ 0 = refl in
    let itself : one_if (same e.now e.now) ≡ 1 = some_one (same e.now e.now) (laws.refl e.now) in
    absurd (omega (arith, balance e.now, is e.now, first, itself, none))
none_left same laws wanted found (m ∷ ms) extra balance apart is =
    let first : times_lent same m.now (m ∷ ms) ≡ one_if (same m.now m.now) + times_lent same m.now ms = sum_by-cons (λ (o : Bor _). cond (same m.now o.now) 1 0) m ms in
    let itself : one_if (same m.now m.now) ≡ 1 = some_one (same m.now m.now) (laws.refl m.now) in
    let none : times_lent same m.now extra ≡ 0 = apart 0 m (omega arith) in
    absurd (omega (arith, balance m.now, is m.now, first, itself, none))
