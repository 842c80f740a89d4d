-- Texts that are put into an index.
use Rattle.std.proofs.Common.{◌≡◌, ◌||◌, ◌∙◌, ◌<◌, ◌+◌, refl, sym, ap, ℕ, Bool, true, false, cond, List, length, take, get_or, Option, Some, None}
use Rattle.std.specs.BTreeSet.{contains_text}
use Rattle.std.proofs.lemmas.Cmp.{nat_list_eq_equiv}
use Rattle.std.specs.Str.{bytes_eq}
use Rattle.std.proofs.lemmas.List.Folds.{list_any_more}
use Rattle.ua_choice.specs.Choosing.{same_text, is_among}
use Rattle.ua_choice.specs.Index.{is_indexed, IndexesOne}
use Rattle.ua_choice.specs.declared.index.Index.{Index}

or_false : (b : Bool) → b ≡ (b || false)
or_false true = refl
or_false false = refl

or_true : (b : Bool) → true ≡ (b || true)
or_true true = refl
or_true false = refl

turned : (b s : Bool) → cond b true s ≡ (s || b)
turned true s = or_true s
turned false s = or_false s

-- a text that was put is there, beside those that were
pub has_text : (text : List ℕ) (old new : Index) → new.has_null ≡ old.has_null → ((other : List ℕ) → contains_text new.texts other ≡ cond (bytes_eq text other) true (contains_text old.texts other)) → IndexesOne (Some text) old new
has_text text old new null puts None = null ∙ or_false old.has_null
has_text text old new null puts (Some other) =
    let there = contains_text old.texts other in
    puts other ∙ turned (bytes_eq text other) there ∙ ap (λ b. there || b) (nat_list_eq_equiv.symm text other)

-- and so is the null text
pub has_none : (old new : Index) → new.has_null ≡ true → new.texts ≡ old.texts → IndexesOne None old new
has_none old new null same None = null ∙ or_true old.has_null
has_none old new null same (Some other) = ap (λ s. contains_text s other) same ∙ or_false (contains_text old.texts other)

-- with one text more, those that were gone through are there
pub one_more : (texts : List (Option (List ℕ))) (i : ℕ) (text : Option (List ℕ)) (old new : Index) → i < length texts → text ≡ get_or texts i text → IndexesOne text old new
    → ((other : Option (List ℕ)) → is_indexed other old ≡ is_among other (take i texts)) → (other : Option (List ℕ)) → is_indexed other new ≡ is_among other (take (i + 1) texts)
one_more texts i text old new below at puts so_far other =
    puts other ∙ ap (λ b. b || same_text other text) (so_far other) ∙ ap (λ t. is_among other (take i texts) || same_text other t) at ∙ sym (list_any_more (same_text other) texts i text below)
