-- What a writer prints has no line feed: strings and keys escape it, and no number has one.
use Rattle.std.proofs.Common.{◌≡◌, ℕ, zero, suc, ◌+◌, ◌<◌, ◌≤◌, Bool, true, false, cond, not, ◌&&◌, ◌||◌, ◌==◌, List, [], ◌∷◌, ◌++◌, drop, Option, Some, None, option_and_then, inl, inr, refl, sym, ap, ◌∙◌, subst, arith}
use Rattle.std.proofs.lemmas.Bool.{false≢true, eq-eqb, eqb-true, leb-true, and_parts, cases_lt, cases_eq, or_cases}
use Rattle.std.proofs.lemmas.List.Elements.{All-nil, All-cons, All-append, All-contains}
use Rattle.std.specs.Prelude.{⊤, All, Contains}
use Rattle.std.specs.List.{prefix_len}
use Rattle.std.specs.Char.{is_ascii_digit}
use Rattle.json.specs.Token.{Token, begin_object, end_object, begin_array, end_array, key, string, number, boolean, null, bad}
use Rattle.json.specs.Word.{head, after_digits, after_minus, after_sign, after_whole, after_fraction, after_exponent, after_number}
use Rattle.json.specs.Print.{escape_byte, escape, quoted, token_text, separator, begins, ends, print_from, print, IsPrintableOrBad, ArePrintableOrBad}
use Rattle.json.proofs.Printed.Strings.{escape_byte_plain}

abbrev IsOther : ℕ → Type 0
IsOther x = x ≡ 10 → ⊥

abbrev Free : List ℕ → Type 0
Free = All IsOther

-- ---- strings

abbrev is_free : List ℕ → Bool
is_free [] = true
is_free (x ∷ xs) = not (x == 10) && is_free xs

free_is : (xs : List ℕ) → is_free xs ≡ true → Free xs
free_is [] e = All-nil IsOther
free_is (x ∷ xs) e =
    let p = and_parts _ _ e in
    All-cons IsOther x xs (λ same. false≢true (ap not (sym (eq-eqb x 10 same)) ∙ p.0)) (free_is xs p.1)

-- what stands for the bytes below n
abbrev free_below : ℕ → Bool
free_below zero = true
free_below (suc n) = is_free (escape_byte n) && free_below n

below_free : (n : ℕ) → free_below n ≡ true → (x : ℕ) → x < n → is_free (escape_byte x) ≡ true
below_free zero e x h = absurd (omega arith)
below_free (suc n) e x h =
    let p = and_parts _ _ e in
    elim (cases_eq x n) [ inl same ↦ rw same p.0 | inr other ↦ below_free n p.1 x (omega arith) ]

all_free : free_below 128 ≡ true
unfolding escape_byte
all_free = refl

free_byte : (x : ℕ) → Free (escape_byte x)
free_byte x = elim (cases_lt x 128) [
  | inl small ↦ free_is (escape_byte x) (below_free 128 all_free x small)
  | inr big ↦
      subst Free (sym (escape_byte_plain x (λ e. omega arith) (λ e. omega arith) (omega arith))) (All-cons IsOther x [] (λ e. omega arith) (All-nil IsOther))
]

free_escape : (xs : List ℕ) → Free (escape xs)
free_escape [] = All-nil IsOther
free_escape (x ∷ xs) = All-append IsOther (escape_byte x) (escape xs) (free_byte x) (free_escape xs)

free_quoted : (xs : List ℕ) → Free (quoted xs)
free_quoted xs = All-cons IsOther 34 (escape xs ++ 34 ∷ []) (λ e. omega arith) (All-append IsOther (escape xs) (34 ∷ []) (free_escape xs) (free_is (34 ∷ []) refl))

-- ---- numbers: where what a part of one leaves has none, what it took has none

abbrev Back : List ℕ → Option (List ℕ) → Type 0
Back t None = ⊤
Back t (Some r) = Free r → Free t

further : (t u : List ℕ) (o : Option (List ℕ)) → (Free u → Free t) → Back u o → Back t o
further t u None f h = tt
further t u (Some r) f h = λ free. f (h free)

then : (t : List ℕ) (f : List ℕ → Option (List ℕ)) → ((u : List ℕ) → Back u (f u)) → (o : Option (List ℕ)) → Back t o → Back t (option_and_then f o)
then t f g None h = tt
then t f g (Some r) h = further t r (f r) h (g r)

either : (t : List ℕ) (b : Bool) (x y : Option (List ℕ)) → (b ≡ true → Back t x) → Back t y → Back t (cond b x y)
either t true x y p q = p refl
either t false x y p q = q

optional : (t : List ℕ) (b : Bool) → (b ≡ true → Free (drop 1 t) → Free t) → Free (cond b (drop 1 t) t) → Free t
optional t true p = p refl
optional t false p = λ free. free

one : (c : ℕ) (t : List ℕ) → IsOther c → (head t == c) ≡ true → Free (drop 1 t) → Free t
one c [] n e free = All-nil IsOther
one c (x ∷ xs) n e free = All-cons IsOther x xs (λ f. n (sym (eqb-true x c e) ∙ f)) free

one_of : (b c : ℕ) (t : List ℕ) → IsOther b → IsOther c → ((head t == b) || (head t == c)) ≡ true → Free (drop 1 t) → Free t
one_of b c t m n e = elim (or_cases _ _ e) [ inl f ↦ one b t m f | inr f ↦ one c t n f ]

digit : (x : ℕ) (xs : List ℕ) (b : Bool) (k : ℕ) → is_ascii_digit x ≡ b → (Free (drop k xs) → Free xs) → Free (drop (cond b (1 + k) 0) (x ∷ xs)) → Free (x ∷ xs)
digit x xs true k e rest = λ free. let big : 48 ≤ x = omega (arith, leb-true 48 x (and_parts _ _ e).0) in let next : 1 + k ≡ suc k = omega arith in All-cons IsOther x xs (λ same. omega (arith, big, same)) (rest (subst (λ n. Free (drop n (x ∷ xs))) next free))
digit x xs false k e rest = λ free. free

digits : (t : List ℕ) → Free (drop (prefix_len is_ascii_digit t) t) → Free t
digits [] = λ free. free
digits (x ∷ xs) = digit x xs (is_ascii_digit x) (prefix_len is_ascii_digit xs) refl (digits xs)

some_digits : (t : List ℕ) → Back t (after_digits t)
some_digits t = either t (prefix_len is_ascii_digit t == 0) None _ (λ e. tt) (digits t)

minus : (t : List ℕ) → Free (after_minus t) → Free t
minus t = optional t _ (one 45 t (λ e. omega arith))

sign : (t : List ℕ) → Free (after_sign t) → Free t
sign t = optional t _ (one_of 45 43 t (λ e. omega arith) (λ e. omega arith))

whole : (t : List ℕ) → Back t (after_whole t)
whole t = either t (head t == 48) _ _ (one 48 t (λ e. omega arith)) (some_digits t)

fraction : (t : List ℕ) → Back t (after_fraction t)
fraction t = either t (head t == 46) _ (Some t) (λ e. further t (drop 1 t) _ (one 46 t (λ e. omega arith) e) (some_digits (drop 1 t))) (λ free. free)

exponent : (t : List ℕ) → Back t (after_exponent t)
exponent t =
    let u = drop 1 t in
    either t ((head t == 101) || (head t == 69)) _ (Some t)
    (λ e. further t u _ (one_of 101 69 t (λ e. omega arith) (λ e. omega arith) e) (further u (after_sign u) _ (sign u) (some_digits (after_sign u)))) (λ free. free)

back_number : (t : List ℕ) → Back t (after_number t)
unfolding after_number
back_number t = then t after_exponent exponent _ (then t after_fraction fraction _ (further t (after_minus t) _ (minus t) (whole (after_minus t))))

free_number : (s : List ℕ) → after_number s ≡ Some [] → Free s
free_number s e = subst (Back s) e (back_number s) (All-nil IsOther)

-- ---- tokens

free_token : (t : Token) → IsPrintableOrBad t → Free (token_text t)
free_token begin_object h = free_is (123 ∷ []) refl
free_token end_object h = free_is (125 ∷ []) refl
free_token begin_array h = free_is (91 ∷ []) refl
free_token end_array h = free_is (93 ∷ []) refl
free_token (key s) h = All-append IsOther (quoted s) (58 ∷ []) (free_quoted s) (free_is (58 ∷ []) refl)
free_token (string s) h = free_quoted s
free_token (number s) h = free_number s h
free_token (boolean true) h = free_is (116 ∷ 114 ∷ 117 ∷ 101 ∷ []) refl
free_token (boolean false) h = free_is (102 ∷ 97 ∷ 108 ∷ 115 ∷ 101 ∷ []) refl
free_token null h = free_is (110 ∷ 117 ∷ 108 ∷ 108 ∷ []) refl
free_token bad h = All-nil IsOther

free_comma : (b : Bool) → Free (cond b (44 ∷ []) [])
free_comma true = free_is (44 ∷ []) refl
free_comma false = All-nil IsOther

free_print : (after_value : Bool) (ts : List Token) → ArePrintableOrBad ts → Free (print_from after_value ts)
unfolding print_from
free_print after_value [] h = All-nil IsOther
free_print after_value (t ∷ ts) h =
    All-append IsOther (separator after_value t) _ (free_comma (after_value && begins t))
    (All-append IsOther (token_text t) (print_from (ends t) ts) (free_token t h.0) (free_print (ends t) ts h.1))

pub no_line_feed : (ts : List Token) → ArePrintableOrBad ts → Contains (print ts) 10 → ⊥
no_line_feed ts h c = All-contains IsOther (print ts) 10 (free_print false ts h) c refl
