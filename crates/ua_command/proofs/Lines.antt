-- Lines of a text, and what they say.
use Rattle.std.proofs.Common.{◌≡◌, ℕ, ◌+◌, ◌-◌, ◌<◌, ◌≤◌, ◌^◌, Bool, true, false, not, cond, nat_lt, List, [], ◌∷◌, ◌++◌, length, take, drop, Some, None, Result, Ok, Err, ℤ, sym, ◌∙◌, ap, refl, subst, arith, append_assoc, IsUtf8, slice_index, true≢false, inl, inr, is_some, ◌&&◌, zero, suc, length-drop}
use Rattle.std.specs.List.{slice_split, onto_first, position, position_or_len, list_all}
use Rattle.std.specs.Char.{is_ascii_digit}
use Rattle.std.specs.Str.{all_ascii_digits}
use Rattle.std.specs.Str.Parse.{digits_value, ParsesUnsigned}
use Rattle.std.proofs.lemmas.Bool.Decides.{nat_tests}
use Rattle.std.proofs.lemmas.Bool.{cases_lt, lt-ltb, le-ltb}
use Rattle.std.proofs.lemmas.Option.{same_Some}
use Rattle.std.proofs.lemmas.List.{take_all}
use Rattle.std.proofs.lemmas.List.Splits.{slice_split_first}
use Rattle.std.proofs.lemmas.Str.{IsUtf8-from_ascii}
use Rattle.std.proofs.lemmas.Str.Parse.{numerals_by_value, tells_all_ascii_digits, parse_digits}
use Rattle.ua_command.specs.Script.{Timed, onto, moment_in}

-- a text with no line end is one line
none_step : (b : Bool) (x : ℕ) (xs : List ℕ) (n : ℕ) (parts : List (List ℕ)) → length (x ∷ xs) ≤ cond (not b) (1 + n) 0 → (length xs ≤ n → parts ≡ xs ∷ []) → cond b ([] ∷ parts) (onto_first x parts) ≡ (x ∷ xs) ∷ []
none_step true x xs n parts h rest = absurd (omega arith)
none_step false x xs n parts h rest = ap (onto_first x) (rest (omega arith))

none_at : (p : ℕ → Bool) (xs : List ℕ) → length xs ≤ position_or_len p xs → slice_split p xs ≡ xs ∷ []
none_at p [] h = refl
none_at p (x ∷ xs) h = none_step (p x) x xs (position_or_len p xs) (slice_split p xs) h (none_at p xs)

none_of : (m n : ℕ) → cond (nat_lt m n) (Some m) None ≡ None → n ≤ m
none_of m n e = grind (arith, nat_tests)

some_of : (m n i : ℕ) → cond (nat_lt m n) (Some m) None ≡ Some i → (m < n) × (m ≡ i)
some_of m n i e = elim (cases_lt m n) [
  | inl h ↦ (h, same_Some _ _ (rw (lt-ltb m n h) at e))
  | inr h ↦ absurd (true≢false (ap is_some (sym (rw (le-ltb m n h) at e))))
]

pub cut_none : (p : ℕ → Bool) (xs : List ℕ) → position p xs ≡ None → slice_split p xs ≡ xs ∷ []
cut_none p xs e = none_at p xs (none_of (position_or_len p xs) (length xs) e)

-- and else it is cut there
pub cut_some : (p : ℕ → Bool) (xs : List ℕ) (i : ℕ) → position p xs ≡ Some i → slice_split p xs ≡ take i xs ∷ slice_split p (take (length xs - (i + 1)) (drop (i + 1) xs))
cut_some p xs i e =
    let at = some_of (position_or_len p xs) (length xs) i e in
    subst (λ j. slice_split p xs ≡ take j xs ∷ slice_split p (take (length xs - (j + 1)) (drop (j + 1) xs))) at.1
    (slice_split_first p xs 0 at.0 ∙ ap (λ rest. take (position_or_len p xs) xs ∷ slice_split p rest) (sym (take_all _ _ (rw length-drop (omega arith)))))

pub onto-none : (r : Result (List Timed) ℕ) → onto [] r ≡ r
onto-none (Ok more) = refl
onto-none (Err line) = refl

pub onto-more : (ps : List Timed) (p : Timed) (r : Result (List Timed) ℕ) → onto ps (onto (p ∷ []) r) ≡ onto (ps ++ p ∷ []) r
onto-more ps p (Ok more) = ap Ok (sym (append_assoc ps (p ∷ []) more))
onto-more ps p (Err line) = refl

same_digits : (ds : List ℕ) → list_all is_ascii_digit ds ≡ all_ascii_digits ds
same_digits ds = refl

ascii_digits : (ds : List ℕ) → all_ascii_digits ds ≡ true → (i : ℕ) → slice_index ds i < 128
ascii_digits [] h i = omega arith
ascii_digits (c ∷ cs) h zero = let d = tells_all_ascii_digits.parts c cs h in omega (arith, d.0)
ascii_digits (c ∷ cs) h (suc i) = let d = tells_all_ascii_digits.parts c cs h in ascii_digits cs d.1 i

-- decimal digits are a text
pub digits_text : (ds : List ℕ) → list_all is_ascii_digit ds ≡ true → IsUtf8 ds
digits_text ds h = IsUtf8-from_ascii ds (ascii_digits ds (sym (same_digits ds) ∙ h))

late : (b : Bool) (v : ℕ) (m : ℤ) → (v < 2 ^ 64 → ⊥) → None ≡ cond (b && nat_lt v (2 ^ 63)) (Some m) None
late false v m h = refl
late true v m h = elim (cases_lt v (2 ^ 64)) [
  | inl small ↦ absurd (h small)
  | inr large ↦ let no : nat_lt v (2 ^ 63) ≡ false = le-ltb v (2 ^ 63) (omega (arith, large)) in ap (λ b. cond b (Some m) None) (sym no)
]

-- and where they are no number of 64 bits, no moment
pub no_moment : {E : Type 0} (ds : List ℕ) (e : E) → list_all is_ascii_digit ds ≡ true → 0 < length ds → ParsesUnsigned 64 10 ds (Err e) → None ≡ moment_in ds
no_moment ds e h some parses =
    let own = numerals_by_value (λ xs. all_ascii_digits xs ≡ true) tells_all_ascii_digits in
    let far = parse_digits own 64 ds (Err e) parses (sym (same_digits ds) ∙ h) in
    late _ (digits_value 10 ds) _ (λ small. far (some, small))
