-- What a machine offers, as a list of descriptions of which the order says nothing.
use Rattle.std.specs.Prelude.{◌≡◌, ℕ, Bool, List, count_by, IsPermutation}
use Rattle.std.specs.Borrow.{Bor}

-- the one list has the descriptions of the other, each as often, in some order
abbrev pub IsSameOffer : {D : Type 0} → List D → List D → Type 0
IsSameOffer wanted found = IsPermutation wanted found

-- how often a description stands in a list, by what makes two of them the same
abbrev pub times : {D : Type 0} → (D → D → Bool) → D → List D → ℕ
times same one list = count_by (same one) list

-- the same of a list of lent ones
abbrev pub times_lent : {D : Type 0} → (D → D → Bool) → D → List (Bor D) → ℕ
times_lent same one lent = count_by (λ other. same one other.now) lent

-- each description stands in the one list as often as in the other
abbrev pub HasAsOften : {D : Type 0} → (D → D → Bool) → List D → List D → Type 0
HasAsOften {D} same wanted found = (one : D) → times same one wanted ≡ times same one found
