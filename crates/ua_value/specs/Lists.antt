-- Bytes at the front, and what follows.
use Rattle.std.proofs.Common.{◌≡◌, ◌+◌, ℕ, Bool, true, false, cond, List, ◌++◌, length, take, drop, Option, Some, None, refl, ap, subst, ◌∙◌, arith, inl, inr}
use Rattle.std.specs.Prelude.{◌⊎◌}
use Rattle.std.proofs.lemmas.Bool.{cases_lt}
use Rattle.std.proofs.lemmas.List.{take_at, drop_at, length-take, get_or-drop, get_or-take, get_or_past}
use Rattle.ua_value.specs.Format.{◌>>=◌, IsBytes}

pub IsBytes-drop : (n : ℕ) (bytes : List ℕ) → IsBytes bytes → IsBytes (drop n bytes)
IsBytes-drop n bytes h i = rw get_or-drop (h (n + i))

pub IsBytes-take : (n : ℕ) (bytes : List ℕ) → IsBytes bytes → IsBytes (take n bytes)
IsBytes-take n bytes h i =
    elim (cases_lt i n) [
      | inl lt ↦ rw (get_or-take n bytes i 0 lt) (h i)
      | inr le ↦ rw (get_or_past (take n bytes) i 0 (omega (arith, length-take n bytes))) (omega arith)
    ]

pub IsBytes-rest : (bytes a rest : List ℕ) → IsBytes bytes → bytes ≡ a ++ rest → IsBytes rest
IsBytes-rest bytes a rest h e = subst (λ (l : List ℕ). IsBytes l) (ap (drop (length a)) e ∙ drop_at a rest (length a) refl) (IsBytes-drop (length a) bytes h)

pub IsBytes-front : (bytes a rest : List ℕ) → IsBytes bytes → bytes ≡ a ++ rest → IsBytes a
IsBytes-front bytes a rest h e = subst (λ (l : List ℕ). IsBytes l) (ap (take (length a)) e ∙ take_at a rest (length a) refl) (IsBytes-take (length a) bytes h)

pub bind_some : {A B : Type 0} (r : Option A) (f : A → Option B) (y : B) → (r >>= f) ≡ Some y → (x : A) × (r ≡ Some x) × (f x ≡ Some y)
bind_some (Some x) f y e = (x, refl, e)
bind_some None f y e = absurd cc

-- which way a test went
pub chosen : {A : Type 0} (b : Bool) (x y z : A) → cond b x y ≡ z → ((b ≡ true) × (x ≡ z)) ⊎ ((b ≡ false) × (y ≡ z))
chosen true x y z e = inl (refl, e)
chosen false x y z e = inr (refl, e)

-- some where the other way gives none
pub passed : {A : Type 0} (b : Bool) (y : Option A) (z : A) → cond b None y ≡ Some z → (b ≡ false) × (y ≡ Some z)
passed true y z e = absurd cc
passed false y z e = (refl, e)

pub guarded : {A : Type 0} (b : Bool) (y : Option A) (z : A) → cond b y None ≡ Some z → (b ≡ true) × (y ≡ Some z)
guarded true y z e = (refl, e)
guarded false y z e = absurd cc

pub same_some : {A : Type 0} (x y : A) → let s : Option A = Some x in let t : Option A = Some y in s ≡ t → x ≡ y
same_some x y e = cc

pub same_pair : {A B : Type 0} (a c : A) (b d : B) → let s : Option (A × B) = Some (a, b) in let t : Option (A × B) = Some (c, d) in s ≡ t → (a ≡ c) × (b ≡ d)
same_pair {A} {B} a c b d e = let p : A × B = (a, b) in let q : A × B = (c, d) in let same : p ≡ q = same_some p q e in (ap (λ (x : A × B). x.0) same, ap (λ (x : A × B). x.1) same)
