-- Blocks of bytes and of digits: what stands before the rest, and the rest.
use Rattle.std.proofs.Common.{add-zero, ◌≡◌, ℕ, zero, suc, ◌+◌, ◌*◌, ◌/◌, ◌%◌, ◌<◌, ◌≤◌, ◌==◌, Bool, true, ◌&&◌, cond, nat_lt, List, [], ◌∷◌, ◌++◌, length, take, drop, slice_index, Option, Some, None, unwrap_or, Result, Ok, Err, refl, sym, ap, ◌∙◌, arith, append_assoc, append-nil, slice_set, bit_or, inl, inr}
use Rattle.std.specs.Result.{result_unwrap_or}
use Rattle.std.proofs.lemmas.Bool.{and_parts, cases_lt, eqb-true, le-ltb, lt-ltb}
use Rattle.std.proofs.lemmas.List.{drop_all, take-append-drop}
use Rattle.hex.specs.Hex.{decode_pairs, digit_or_error, encode_lower, encode_with, hex_digit_value, lower_digits, pair_value, value_at, ◌>>=◌}
use Rattle.hex.specs.declared.error.FromHexError.{FromHexError}
use Rattle.hex.proofs.Pairs.{cons_byte, decode_pairs-ok_pair, decode_step, encode_with-drop, prepend, prepend-cons_byte}
use Rattle.ua_hex.specs.Digits.{value_or_128}

-- ---- digits that are written

-- the digits of some bytes and of others behind them
pub encode_append : (t xs ys : List ℕ) → encode_with t (xs ++ ys) ≡ encode_with t xs ++ encode_with t ys
unfolding encode_with
encode_append t [] ys = refl
encode_append t (x ∷ xs) ys = ap (λ (r : List ℕ). slice_index t (x / 16) ∷ slice_index t (x % 16) ∷ r) (encode_append t xs ys)

-- one byte before others
pub encode_cons : (x : ℕ) (xs : List ℕ) → encode_lower (x ∷ xs) ≡ slice_index lower_digits (x / 16) ∷ slice_index lower_digits (x % 16) ∷ encode_lower xs
unfolding encode_with
encode_cons x xs = refl

pub encode_nil : encode_lower [] ≡ []
unfolding encode_with
encode_nil = refl

-- the test of one place of the table, which computes
abbrev is_as_computed : ℕ → Bool
is_as_computed n = slice_index lower_digits n == cond (nat_lt n 10) (48 + n) (87 + n)

abbrev are_as_computed : ℕ → Bool
are_as_computed zero = true
are_as_computed (suc n) = is_as_computed n && are_as_computed n

computed_at : (n k : ℕ) → are_as_computed n ≡ true → k < n → is_as_computed k ≡ true
computed_at zero k h lt = absurd (omega arith)
computed_at (suc n) k h lt =
    let parts = and_parts (is_as_computed n) (are_as_computed n) h in
    elim (cases_lt k n) [
      | inl below ↦ computed_at n k parts.1 below
      | inr top ↦
          let e : k ≡ n = omega arith in
          rw e parts.0
    ]

-- a digit of the table, as it is computed
pub digit_computed : (n : ℕ) → n < 16 → slice_index lower_digits n ≡ cond (nat_lt n 10) (48 + n) (87 + n)
digit_computed n lt = eqb-true (slice_index lower_digits n) (cond (nat_lt n 10) (48 + n) (87 + n)) (computed_at 16 n refl lt)

-- ---- digits that are read

some_of : (o : Option ℕ) → unwrap_or o 128 < 16 → o ≡ Some (unwrap_or o 128)
some_of (Some v) h = refl
some_of None h = absurd (omega arith)

-- two values below 16 are those of digits
pub pair_of : (a b i : ℕ) → value_or_128 a < 16 → value_or_128 b < 16 → pair_value a b i ≡ Ok (value_or_128 a * 16 + value_or_128 b)
pair_of a b i ha hb =
    let ea : value_at a i ≡ Ok (value_or_128 a) = ap (digit_or_error a i) (some_of (hex_digit_value a) ha) in
    let eb : value_at b (i + 1) ≡ Ok (value_or_128 b) = ap (digit_or_error b (i + 1)) (some_of (hex_digit_value b) hb) in
    rw (ea, eb) refl

-- what an `Ok` behind `>>=` shows
bind_ok : {A B : Type 0} (r : Result A FromHexError) (f : A → Result B FromHexError) (y : B)
    → (r >>= f) ≡ Ok y → (x : A) × (r ≡ Ok x) × (f x ≡ Ok y)
bind_ok (Ok x) f y h = (x, refl, h)
bind_ok (Err e) f y h = cc h

-- a digit has its value wherever it stands
digit_anywhere : (o : Option ℕ) (c i j v : ℕ) → digit_or_error c i o ≡ Ok v → digit_or_error c j o ≡ Ok v
digit_anywhere (Some w) c i j v h = h
digit_anywhere None c i j v h = cc h

-- and so have two digits
pair_anywhere : (a b i j v : ℕ) → pair_value a b i ≡ Ok v → pair_value a b j ≡ Ok v
pair_anywhere a b i j v h =
    let high = bind_ok (value_at a i) _ v h in
    let low = bind_ok (value_at b (i + 1)) _ v high.2 in
    let ea : value_at a j ≡ Ok high.0 = digit_anywhere (hex_digit_value a) a i j high.0 high.1 in
    let eb : value_at b (j + 1) ≡ Ok low.0 = digit_anywhere (hex_digit_value b) b (i + 1) (j + 1) low.0 low.1 in
    rw (ea, eb) low.2

prepend-nil : (r : Result (List ℕ) FromHexError) → r ≡ prepend [] r
prepend-nil (Ok rest) = refl
prepend-nil (Err e) = refl

-- bytes before bytes before what is read
pub prepend-append : (xs ys : List ℕ) (r : Result (List ℕ) FromHexError) → prepend xs (prepend ys r) ≡ prepend (xs ++ ys) r
prepend-append xs ys (Ok rest) = ap Ok (sym (append_assoc xs ys rest))
prepend-append xs ys (Err e) = refl

cons-prepend : (v : ℕ) (xs : List ℕ) (r : Result (List ℕ) FromHexError) → cons_byte v (prepend xs r) ≡ prepend (v ∷ xs) r
cons-prepend v xs (Ok rest) = refl
cons-prepend v xs (Err e) = refl

ok_of : (xs ys : List ℕ) (r : Result (List ℕ) FromHexError) → r ≡ Ok xs → r ≡ Ok ys → xs ≡ ys
ok_of xs ys r hx hy = ap (λ (q : Result (List ℕ) FromHexError). result_unwrap_or q []) (sym hx ∙ hy)

-- A block that is read stands before the rest, wherever it begins.
pub decode_append : (i j : ℕ) (a b x : List ℕ) → decode_pairs i a ≡ Ok x
    → decode_pairs j (a ++ b) ≡ prepend x (decode_pairs (j + length a) b)
unfolding decode_pairs
decode_append i j [] b x h =
    let e : [] ≡ x = ok_of [] x (decode_pairs i []) refl h in
    rw (← e) (prepend-nil (decode_pairs j b) ∙ ap (λ (k : ℕ). prepend [] (decode_pairs k b)) (sym (add-zero j)))
decode_append i j (d ∷ []) b x h = cc h
decode_append i j (d ∷ l ∷ rest) b x h =
    let p = bind_ok (pair_value d l i) _ x h in
    let q = bind_ok (decode_pairs (i + 2) rest) _ x p.2 in
    let e : p.0 ∷ q.0 ≡ x = ok_of (p.0 ∷ q.0) x (Ok (p.0 ∷ q.0)) refl q.2 in
    let here = decode_pairs-ok_pair j d l p.0 (rest ++ b) (pair_anywhere d l i j p.0 p.1) in
    let ih = decode_append (i + 2) (j + 2) rest b q.0 q.1 in
    let place : j + 2 + length rest ≡ j + length (d ∷ l ∷ rest) = omega arith in
    here ∙ ap (cons_byte p.0) ih ∙ cons-prepend p.0 q.0 (decode_pairs (j + 2 + length rest) b)
    ∙ ap (λ (k : ℕ). prepend (p.0 ∷ q.0) (decode_pairs k b)) place ∙ ap (λ (ys : List ℕ). prepend ys (decode_pairs (j + length (d ∷ l ∷ rest)) b)) e

pub decode_nil : (i : ℕ) → decode_pairs i [] ≡ Ok []
unfolding decode_pairs
decode_nil i = refl

-- So far these bytes were read: what all digits give is these and then what the rest gives.
abbrev pub ReadTo : List ℕ → List ℕ → List ℕ → Type 0
ReadTo digits rest bytes = (i : ℕ) × (decode_pairs 0 digits ≡ prepend bytes (decode_pairs i rest))

pub read_none : (digits bytes : List ℕ) → bytes ≡ [] → ReadTo digits digits bytes
read_none digits bytes e = (0, rw e (prepend-nil (decode_pairs 0 digits)))

-- a block more
pub read_block : (digits rest bytes block after front : List ℕ) → rest ≡ block ++ after → decode_pairs 0 block ≡ Ok front
    → ReadTo digits rest bytes → ReadTo digits after (bytes ++ front)
read_block digits rest bytes block after front cut read so = (
  so.0 + length block,
  so.1 ∙ ap (λ (r : List ℕ). prepend bytes (decode_pairs so.0 r)) cut
      ∙ ap (prepend bytes) (decode_append 0 so.0 block after front read) ∙ prepend-append bytes front (decode_pairs (so.0 + length block) after),
)

-- a pair more
pub read_pair : (digits after bytes : List ℕ) (a b : ℕ) → value_or_128 a < 16 → value_or_128 b < 16
    → ReadTo digits (a ∷ b ∷ after) bytes → ReadTo digits after (bytes ++ (value_or_128 a * 16 + value_or_128 b) ∷ [])
read_pair digits after bytes a b ha hb so = (
  so.0 + 2,
  so.1 ∙ ap (prepend bytes) (decode_pairs-ok_pair so.0 a b _ after (pair_of a b so.0 ha hb))
      ∙ prepend-cons_byte bytes (value_or_128 a * 16 + value_or_128 b) (decode_pairs (so.0 + 2) after),
)

-- and nothing is left
pub read_all : (digits rest bytes : List ℕ) → rest ≡ [] → ReadTo digits rest bytes → decode_pairs 0 digits ≡ Ok bytes
read_all digits rest bytes e so =
    so.1 ∙ ap (λ (r : List ℕ). prepend bytes (decode_pairs so.0 r)) e ∙ ap (prepend bytes) (decode_nil so.0) ∙ ap Ok (append-nil bytes)

-- Two digits are what they are.
two_of : (p : List ℕ) → length p ≡ 2 → p ≡ slice_index p 0 ∷ slice_index p 1 ∷ []
two_of [] h = absurd (omega arith)
two_of (a ∷ []) h = absurd (omega arith)
two_of (a ∷ b ∷ []) h = refl
two_of (a ∷ b ∷ c ∷ rest) h = absurd (omega arith)

-- a front and what is behind it
pub cut_at : (n : ℕ) (rest front after : List ℕ) → front ≡ take n rest → after ≡ drop n rest → rest ≡ front ++ after
cut_at n rest front after ef ea = sym (rw (ef, ea) (take-append-drop n rest))

-- a pair more, where it is cut off the rest
pub read_cut_pair : (digits rest pair after bytes : List ℕ) (high low : ℕ) → rest ≡ pair ++ after → length pair ≡ 2
    → high ≡ value_or_128 (slice_index pair 0) → low ≡ value_or_128 (slice_index pair 1) → high < 16 → low < 16
    → ReadTo digits rest bytes → ReadTo digits after (bytes ++ (high * 16 + low) ∷ [])
read_cut_pair digits rest pair after bytes high low cut two eh el hh hl so =
    let whole : rest ≡ slice_index pair 0 ∷ slice_index pair 1 ∷ after = cut ∙ ap (λ (p : List ℕ). p ++ after) (two_of pair two) in
    let there : ReadTo digits (slice_index pair 0 ∷ slice_index pair 1 ∷ after) bytes = (so.0, so.1 ∙ ap (λ (r : List ℕ). prepend bytes (decode_pairs so.0 r)) whole) in
    let next = read_pair digits after bytes (slice_index pair 0) (slice_index pair 1) (rw (← eh) hh) (rw (← el) hl) there in
    rw (eh, el) next

-- a block more is written
pub written_block : (text rest block after all : List ℕ) → rest ≡ block ++ after → text ++ encode_lower rest ≡ all
    → (text ++ encode_lower block) ++ encode_lower after ≡ all
written_block text rest block after all cut so =
    append_assoc text (encode_lower block) (encode_lower after)
    ∙ ap (λ (r : List ℕ). text ++ r) (sym (ap encode_lower cut ∙ encode_append lower_digits block after)) ∙ so

-- a byte more
pub written_byte : (text xs all : List ℕ) (i high low : ℕ) → i < length xs
    → high ≡ slice_index lower_digits (slice_index xs i / 16) → low ≡ slice_index lower_digits (slice_index xs i % 16)
    → text ++ encode_lower (drop i xs) ≡ all → (text ++ (high ∷ low ∷ [])) ++ encode_lower (drop (i + 1) xs) ≡ all
written_byte text xs all i high low here eh el so =
    append_assoc text (high ∷ low ∷ []) (encode_lower (drop (i + 1) xs))
    ∙ ap (λ (r : List ℕ). text ++ r) (sym (rw (eh, el) (encode_with-drop lower_digits xs i here))) ∙ so

-- and nothing is left
pub written_all : (text xs all : List ℕ) (i : ℕ) → length xs ≤ i → text ++ encode_lower (drop i xs) ≡ all → text ≡ all
written_all text xs all i done so =
    sym (append-nil text) ∙ ap (λ (r : List ℕ). text ++ r) (sym (ap encode_lower (drop_all i xs done) ∙ encode_nil)) ∙ so

-- the pairs of a block: one more, where all values so far are below 16
pub value_step : (s out : List ℕ) (i high low : ℕ) → 2 * i + 1 < length s → i < length out
    → high ≡ value_or_128 (slice_index s (2 * i)) → low ≡ value_or_128 (slice_index s (2 * i + 1))
    → high < 16 → low < 16
    → decode_pairs 0 s ≡ prepend (take i out) (decode_pairs (2 * i) (drop (2 * i) s))
    → decode_pairs 0 s ≡ prepend (take (i + 1) (slice_set out i (high % 16 * 16 + low % 16))) (decode_pairs (2 * (i + 1)) (drop (2 * (i + 1)) s))
value_step s out i high low fits room eh el hh hl so =
    let same : high % 16 * 16 + low % 16 ≡ high * 16 + low = omega arith in
    let pair : pair_value (slice_index s (2 * i)) (slice_index s (2 * i + 1)) (2 * i) ≡ Ok (high % 16 * 16 + low % 16) =
    pair_of (slice_index s (2 * i)) (slice_index s (2 * i + 1)) (2 * i) (rw (← eh) hh) (rw (← el) hl)
    ∙ ap Ok (ap (λ (x : ℕ). x * 16 + value_or_128 (slice_index s (2 * i + 1))) (sym eh) ∙ ap (λ (y : ℕ). high * 16 + y) (sym el) ∙ sym same) in
    decode_step s out i _ fits room pair so

-- what is empty is the empty list
pub none_left : (xs : List ℕ) (b : Bool) → b ≡ (length xs == 0) → b ≡ true → xs ≡ []
none_left [] b e h = refl
none_left (x ∷ xs) b e h =
    let none : length (x ∷ xs) ≡ 0 = eqb-true (length (x ∷ xs)) 0 (sym e ∙ h) in
    absurd (omega arith)

-- The first n values are those of the digits, and none is greater than this.
pub record AreValues (digits values : List ℕ) (n greatest : ℕ) : Type 0 where
  pub same : (k : ℕ) → k < n → slice_index values k ≡ value_or_128 (slice_index digits k)
  pub most : (k : ℕ) → k < n → slice_index values k ≤ greatest

-- ---- the value of a digit, as it is computed

abbrev as_computed : ℕ → ℕ
as_computed c =
    cond (nat_lt ((c + 208) % 256) 10) ((c + 208) % 256)
    (cond (nat_lt ((bit_or c 32 + 159) % 256) 6) ((bit_or c 32 + 159) % 256 + 10) 128)

-- the test of the first n bytes, which computes
abbrev are_values : ℕ → Bool
are_values zero = true
are_values (suc n) = (as_computed n == value_or_128 n) && are_values n

value_at_place : (n k : ℕ) → are_values n ≡ true → k < n → as_computed k ≡ value_or_128 k
value_at_place zero k h lt = absurd (omega arith)
value_at_place (suc n) k h lt =
    let parts = and_parts (as_computed n == value_or_128 n) (are_values n) h in
    elim (cases_lt k n) [
      | inl below ↦ value_at_place n k parts.1 below
      | inr top ↦
          let e : k ≡ n = omega arith in
          rw e (eqb-true (as_computed n) (value_or_128 n) parts.0)
    ]

computed : (c : ℕ) → c < 256 → as_computed c ≡ value_or_128 c
computed c lt = value_at_place 256 c refl lt

pub number_value : (c : ℕ) → c < 256 → (c + 208) % 256 < 10 → (c + 208) % 256 ≡ value_or_128 c
number_value c lt number =
    let e : as_computed c ≡ (c + 208) % 256 = rw (lt-ltb ((c + 208) % 256) 10 number) refl in
    sym e ∙ computed c lt

pub letter_value : (c : ℕ) → c < 256 → 10 ≤ (c + 208) % 256 → (bit_or c 32 + 159) % 256 < 6 → (bit_or c 32 + 159) % 256 + 10 ≡ value_or_128 c
letter_value c lt number letter =
    let e : as_computed c ≡ (bit_or c 32 + 159) % 256 + 10 =
    rw (le-ltb ((c + 208) % 256) 10 number) (rw (lt-ltb ((bit_or c 32 + 159) % 256) 6 letter) refl) in
    sym e ∙ computed c lt

pub no_value : (c : ℕ) → c < 256 → 10 ≤ (c + 208) % 256 → 6 ≤ (bit_or c 32 + 159) % 256 → 128 ≡ value_or_128 c
no_value c lt number letter =
    let e : as_computed c ≡ 128 =
    rw (le-ltb ((c + 208) % 256) 10 number) (rw (le-ltb ((bit_or c 32 + 159) % 256) 6 letter) refl) in
    sym e ∙ computed c lt
