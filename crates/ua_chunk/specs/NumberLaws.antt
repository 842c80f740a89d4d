-- What the numbers of a sender keep to.
use Rattle.std.proofs.Common.{◌≡◌, ℕ, ◌+◌, ◌-◌, ◌%◌, ◌<◌, ◌≤◌, Bool, true, false, refl, ap, arith, inl, inr}
use Rattle.std.specs.Prelude.{◌⊎◌, ◌==◌, ◌&&◌, ◌||◌, nat_lt}
use Rattle.std.proofs.lemmas.Bool.{and_from, eq-eqb, cases_lt, lt-ltb}
use Rattle.ua_chunk.specs.Numbers.{greatest_number, follows, number_after}

-- a sender may start at this number
pub record IsNumber (n : ℕ) : Type 0 where
  pub some : 1 ≤ n
  pub least : n ≤ greatest_number

pub number_is : (first n : ℕ) → IsNumber (number_after first n)
number_is first n = record { some = omega arith; least = omega arith }

pub number_after_none : (first : ℕ) → IsNumber first → number_after first 0 ≡ first
number_after_none first h = omega (arith, h.some, h.least)

-- the numbers after those that came first
pub number_after_more : (first n m : ℕ) → 1 ≤ first → number_after (number_after first n) m ≡ number_after first (n + m)
number_after_more first n m h = omega arith

or_true : (x y : Bool) → (x ≡ true) ⊎ (y ≡ true) → (x || y) ≡ true
or_true true y h = refl
or_true false y (inl h) = absurd (cc h)
or_true false y (inr h) = h

-- the remainder of the next number
next_rem : (m : ℕ) → (((m + 1) % 4294966272 ≡ m % 4294966272 + 1) × (m % 4294966272 < 4294966271)) ⊎ ((m % 4294966272 ≡ 4294966271) × ((m + 1) % 4294966272 ≡ 0))
next_rem m = elim (cases_lt (m % 4294966272) 4294966271) [ inl l ↦ inl (omega (arith, l), l) | inr g ↦ inr (omega (arith, g), omega (arith, g)) ]

pub each_follows : (first n : ℕ) → 1 ≤ first → follows (number_after first n) (number_after first (n + 1)) ≡ true
each_follows first n f =
    let m = first + n - 1 in
    let e : first + (n + 1) - 1 ≡ m + 1 = omega arith in
    or_true (number_after first (n + 1) == number_after first n + 1) (nat_lt 4294966271 (number_after first n) && nat_lt (number_after first (n + 1)) 1024)
    (elim (next_rem m) [
      | inl h ↦ inl (eq-eqb (number_after first (n + 1)) (number_after first n + 1) (omega (arith, h.0, e, ap (λ (k : ℕ). k % 4294966272) e)))
      | inr h ↦ inr (and_from (nat_lt 4294966271 (number_after first n)) (nat_lt (number_after first (n + 1)) 1024)
          (lt-ltb 4294966271 (number_after first n) (omega (arith, h.0))) (lt-ltb (number_after first (n + 1)) 1024 (omega (arith, h.1, ap (λ (k : ℕ). k % 4294966272) e))))
    ])

-- The numbers of a sender: where they begin, that each follows the one before it, and that they can be counted on.
pub record AreNumbers (first : ℕ) : Type 0 where
  pub begins : number_after first 0 ≡ first
  pub range : (n : ℕ) → IsNumber (number_after first n)
  pub follow : (n : ℕ) → follows (number_after first n) (number_after first (n + 1)) ≡ true
  pub count_on : (n m : ℕ) → number_after (number_after first n) m ≡ number_after first (n + m)

abbrev pub NumbersFollow : Type 0
NumbersFollow = (first : ℕ) → IsNumber first → AreNumbers first

pub numbers_follow : NumbersFollow
numbers_follow first h = record {
  begins = number_after_none first h;
  range = number_is first;
  follow = λ n. each_follows first n h.some;
  count_on = λ n m. number_after_more first n m h.some;
}
