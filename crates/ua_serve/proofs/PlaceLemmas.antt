-- A list in which one entry is another, and what has a place.
use Rattle.std.proofs.Common.{arith, ◌≡◌, ◌≢◌, ◌⊎◌, inl, inr, ℕ, zero, suc, ◌≤◌, List, [], ◌∷◌, Some, replicate, unwrap_or, slice_get, slice_set, refl, sym, ap, ◌∙◌}
use Rattle.ua_serve.specs.declared.place.Place.{Place}
use Rattle.ua_serve.specs.declared.place.Seat.{Seat}
use Rattle.ua_serve.specs.declared.place.Seat.TheVariants.{Free, Taken, Lingering}

module _ {A : Type 0} where
  -- An entry of it is the new one, or was there before.
  pub set_cases : (xs : List A) (i : ℕ) (v : A) (k : ℕ) (y : A) → slice_get (slice_set xs i v) k ≡ Some y → ((k ≡ i) × (v ≡ y)) ⊎ (slice_get xs k ≡ Some y)
  set_cases [] i v k y e = inr e
  set_cases (x ∷ xs) zero v zero y e = inl (refl, ap (λ o. unwrap_or o v) e)
  set_cases (x ∷ xs) zero v (suc k) y e = inr e
  set_cases (x ∷ xs) (suc i) v zero y e = inr e
  set_cases (x ∷ xs) (suc i) v (suc k) y e = elim (set_cases xs i v k y e) [ inl h ↦ inl (ap suc h.0, h.1) | inr h ↦ inr h ]

  -- The others stay.
  pub set_other : (xs : List A) (i : ℕ) (v : A) (k : ℕ) → k ≢ i → slice_get (slice_set xs i v) k ≡ slice_get xs k
  set_other [] i v k ne = refl
  set_other (x ∷ xs) zero v zero ne = absurd (ne refl)
  set_other (x ∷ xs) zero v (suc k) ne = refl
  set_other (x ∷ xs) (suc i) v zero ne = refl
  set_other (x ∷ xs) (suc i) v (suc k) ne = set_other xs i v k (λ e. ne (ap suc e))

  -- Nothing changes where the entry was there.
  pub set_same : (xs : List A) (i : ℕ) (v : A) → slice_get xs i ≡ Some v → slice_set xs i v ≡ xs
  set_same [] i v e = refl
  set_same (x ∷ xs) zero v e = ap (λ o. unwrap_or o v ∷ xs) (sym e)
  set_same (x ∷ xs) (suc i) v e = ap (λ ys. x ∷ ys) (set_same xs i v e)

-- where all places are free no connection has one
pub none_placed : {L : Type 0} (n k : ℕ) (p : Place L) → (let free : Seat L = Free in slice_get (replicate n free) k ≡ Some (Taken p)) → ⊥
none_placed zero k p e = cc
none_placed (suc n) zero p e = cc
none_placed (suc n) (suc k) p e = none_placed n k p e

-- the connection that has a place
abbrev place_in : {L : Type 0} → Seat L → Place L → Place L
place_in Free p = p
place_in (Taken q) p = q
place_in (Lingering l) p = p

pub one_place : {L : Type 0} (p q : Place L) → Taken p ≡ Taken q → p ≡ q
one_place p q e = ap (λ s. place_in s p) e

-- as many free places as were asked for
pub all_free : {L : Type 0} (n k : ℕ) (places : List (Seat L)) → (let free : Seat L = Free in places ≡ replicate k free) → n ≤ k → k ≤ n → (let free : Seat L = Free in places ≡ replicate n free)
all_free {L} n k places e a b =
    let free : Seat L = Free in
    let same : k ≡ n = omega (arith, a, b) in
    e ∙ ap (λ m. replicate m free) same
