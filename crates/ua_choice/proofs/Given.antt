-- Verdicts that were given over texts.
use Rattle.std.proofs.Common.{◌≡◌, ◌<◌, ℕ, true, List, length, drop, get_or, Option, Some, None, refl, ap, subst}
use Rattle.std.specs.List.{AllByRecursion}
use Rattle.std.proofs.lemmas.Bool.{false≢true}
use Rattle.std.proofs.lemmas.List.{drop_more}
use Rattle.std.proofs.lemmas.Slice.Eq.{bytes_eq-Decides}
use Rattle.ua_choice.specs.Choosing.{same_text}

-- what holds of all that are left holds of the next one
pub holds_of_next : {X : Type 0} (P : X → Type 0) (items : List X) (i : ℕ) (item : X) → i < length items → AllByRecursion P (drop i items) → P (get_or items i item)
holds_of_next P items i item below all = (subst (AllByRecursion P) (drop_more items i item below) all).0

pub same_is_equal : (a b : Option (List ℕ)) → same_text a b ≡ true → a ≡ b
same_is_equal None None same = refl
same_is_equal None (Some b) same = absurd (false≢true same)
same_is_equal (Some a) None same = absurd (false≢true same)
same_is_equal (Some a) (Some b) same = ap (λ t. Some t) ((bytes_eq-Decides a b).0 same)
