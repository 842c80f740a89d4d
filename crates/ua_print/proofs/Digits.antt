-- The digits of a number, the last two first.
use Rattle.std.proofs.Common.{◌≡◌, ℕ, ◌+◌, ◌-◌, ◌/◌, ◌%◌, ◌^◌, ◌<◌, ◌≤◌, List, [], ◌∷◌, ◌++◌, length, drop, set, ap, sym, ◌∙◌, arith, append_assoc, length-append}
use Rattle.std.proofs.lemmas.List.{drop-set}
use Rattle.std.proofs.lemmas.Fmt.{decimal_digit, decimal_step, length-decimal-le}
use Rattle.std.specs.Fmt.{decimal}

abbrev pair_text : ℕ → List ℕ
pair_text n = (48 + n / 10) ∷ (48 + n % 10) ∷ []

-- a number by its last two digits and those before them
decimal_rest : (n : ℕ) → 100 ≤ n → n < 2 ^ 64 → decimal n ≡ decimal (n / 100) ++ pair_text (n % 100)
decimal_rest n lo hi =
    let before : n / 10 / 10 ≡ n / 100 = omega arith in
    let tens : n / 10 % 10 ≡ n % 100 / 10 = omega arith in
    let ones : n % 10 ≡ n % 100 % 10 = omega arith in
    rw (decimal_step n (omega arith) hi, decimal_step (n / 10) (omega arith) (omega arith), append_assoc, before, tens, ← ones)

decimal_pair : (n : ℕ) → 10 ≤ n → n < 100 → decimal n ≡ pair_text n
decimal_pair n lo hi = rw (decimal_step n lo (omega arith), decimal_digit (n / 10) (omega arith))

pub length_digit : (n : ℕ) → n < 10 → length (decimal n) ≡ 1
length_digit n h = ap length (decimal_digit n h)

pub length_pair : (n : ℕ) → 10 ≤ n → n < 100 → length (decimal n) ≡ 2
length_pair n lo hi = ap length (decimal_pair n lo hi)

pub length_rest : (n : ℕ) → 100 ≤ n → n < 2 ^ 64 → length (decimal n) ≡ length (decimal (n / 100)) + 2
length_rest n lo hi = ap length (decimal_rest n lo hi) ∙ length-append _ _

pub length_most : (n : ℕ) → n < 2 ^ 64 → length (decimal n) ≤ 20
length_most n h = length-decimal-le 20 n (omega arith) (omega arith) h

back_two : (row : List ℕ) (at : ℕ) → 2 ≤ at → drop (at - 2 + 2) row ≡ drop at row
back_two row at some = let e : at - 2 + 2 ≡ at = omega arith in ap (λ k. drop k row) e

-- where more digits stand before them
pub digits_more : (row put rest : List ℕ) (at n : ℕ) → 100 ≤ n → n < 2 ^ 64 → 2 ≤ at → drop (at - 2) put ≡ (48 + n % 100 / 10) ∷ (48 + n % 100 % 10) ∷ drop (at - 2 + 2) row → decimal n ++ drop at row ≡ rest
    → decimal (n / 100) ++ drop (at - 2) put ≡ rest
digits_more row put rest at n lo hi some written told =
    ap (λ l. decimal (n / 100) ++ l) (written ∙ ap (λ l. pair_text (n % 100) ++ l) (back_two row at some)) ∙ sym (append_assoc (decimal (n / 100)) (pair_text (n % 100)) (drop at row))
    ∙ ap (λ l. l ++ drop at row) (sym (decimal_rest n lo hi)) ∙ told

-- where they are the first two
pub digits_two : (row put rest : List ℕ) (at n : ℕ) → 10 ≤ n → n < 100 → 2 ≤ at → drop (at - 2) put ≡ (48 + n / 10) ∷ (48 + n % 10) ∷ drop (at - 2 + 2) row → decimal n ++ drop at row ≡ rest → drop (at - 2) put ≡ rest
digits_two row put rest at n lo hi some written told = written ∙ ap (λ l. pair_text n ++ l) (back_two row at some) ∙ ap (λ l. l ++ drop at row) (sym (decimal_pair n lo hi)) ∙ told

-- where one is left
pub digits_one : (row rest : List ℕ) (at n : ℕ) → n < 10 → 1 ≤ at → at ≤ length row → decimal n ++ drop at row ≡ rest → drop (at - 1) (set row (at - 1) (48 + n)) ≡ rest
digits_one row rest at n small some within told =
    let e : at - 1 + 1 ≡ at = omega arith in
    drop-set row (at - 1) (48 + n) (omega arith) ∙ ap (λ k. (48 + n) ∷ drop k row) e ∙ ap (λ l. l ++ drop at row) (sym (decimal_digit n small)) ∙ told
