-- A wait: entries that become true, and how long it may last.
use Rattle.std.proofs.Common.{◌≡◌, ℕ, zero, suc, ◌<◌, ℤ, Bool, true, List, [], ◌∷◌, ◌++◌, length, take, drop, append_assoc, subst, Option, Some, None, slice_get, slice_set, refl, sym, ap, ◌∙◌}
use Rattle.std.proofs.Math.Seq.{take-append_seam}
use Rattle.ua_link.specs.Clock.{Answered}
use Rattle.ua_serve.specs.Places.{Crowd}
use Rattle.ua_serve.specs.Waits.{Wakes, IsWithin, due_in, IsDue}

pub wakes_none : (xs : List Bool) → Wakes xs xs
wakes_none xs = record { as_many = refl; kept = λ k e. e }

pub wakes_more : (xs ys zs : List Bool) → Wakes xs ys → Wakes ys zs → Wakes xs zs
wakes_more xs ys zs a b = record { as_many = b.as_many ∙ a.as_many; kept = λ k e. b.kept k (a.kept k e) }

set_length : (xs : List Bool) (i : ℕ) → length (slice_set xs i true) ≡ length xs
set_length [] i = refl
set_length (x ∷ xs) zero = refl
set_length (x ∷ xs) (suc i) = ap suc (set_length xs i)

set_kept : (xs : List Bool) (i k : ℕ) → slice_get xs k ≡ Some true → slice_get (slice_set xs i true) k ≡ Some true
set_kept [] i k e = e
set_kept (x ∷ xs) zero zero e = refl
set_kept (x ∷ xs) zero (suc k) e = e
set_kept (x ∷ xs) (suc i) zero e = e
set_kept (x ∷ xs) (suc i) (suc k) e = set_kept xs i k e

pub wakes_one : (xs : List Bool) (i : ℕ) → Wakes xs (slice_set xs i true)
wakes_one xs i = record { as_many = set_length xs i; kept = set_kept xs i }

-- the soonest of the places below a number
pub record IsSoonestBelow {L : Type 0} (c : Crowd L) (places : ℕ) (at_most : Option ℕ) : Type 0 where
  pub bound : (place ticks : ℕ) → place < places → due_in c place ≡ Some ticks → IsWithin at_most ticks
  pub one : (ticks : ℕ) → at_most ≡ Some ticks → IsDue c ticks

-- ---- a wait

pub wakes_all : (old lent new : List Bool) (n : ℕ) → lent ≡ old → n ≡ length old → Wakes lent new → Wakes old (take n (new ++ drop (length new) old))
wakes_all old lent new n same is w =
    let wakes = subst (λ xs. Wakes xs new) same w in
    let all : take n (new ++ drop (length new) old) ≡ new = ap (λ k. take k (new ++ drop (length new) old)) (is ∙ sym wakes.as_many) ∙ take-append_seam new (drop (length new) old) in
    subst (λ ys. Wakes old ys) (sym all) wakes

pub asked_twice : (a b c : Option (List ℤ)) (m n : ℤ) → Answered a b (m ∷ []) → Answered b c (n ∷ []) → Answered a c (m ∷ n ∷ [])
asked_twice None None None m n h k = h
asked_twice None None (Some zs) m n h k = absurd k
asked_twice None (Some ys) c m n h k = absurd h
asked_twice (Some xs) None None m n h k = h
asked_twice (Some xs) None (Some zs) m n h k = absurd k
asked_twice (Some xs) (Some ys) None m n h k = k
asked_twice (Some xs) (Some ys) (Some zs) m n h k = k ∙ ap (λ s. s ++ n ∷ []) h ∙ append_assoc xs (m ∷ []) (n ∷ [])
