-- Where a line ends, and what is dropped of it.
use Rattle.std.proofs.Common.{◌≡◌, ℕ, zero, suc, ◌+◌, ◌-◌, ◌<◌, ◌≤◌, Bool, true, false, not, ◌==◌, List, [], ◌∷◌, ◌++◌, length, take, drop, filter, Some, None, refl, sym, ap, ◌∙◌, arith, append-nil, add-one, slice_index, inl, inr}
use Rattle.std.specs.List.{list_all, position}
use Rattle.std.proofs.lemmas.Bool.{and_parts, cases_lt, lt-ltb, le-ltb}
use Rattle.std.proofs.lemmas.List.{take-append-drop, take_more}
use Rattle.std.proofs.lemmas.List.Elements.{filter-append, filter_more}
use Rattle.std.proofs.lemmas.List.Sums.{position_or_len_is}
use Rattle.ua_command.specs.Script.{is_kept}
use Rattle.ua_command.specs.Search.{AreKept}

-- ---- where a line ends

-- no line end stands before a place
abbrev pub NoneBefore : List ℕ → ℕ → Type 0
NoneBefore text to = (k : ℕ) → k < to → (slice_index text k == 10) ≡ false

pub none_yet : (text : List ℕ) → NoneBefore text 0
none_yet text k lt = absurd (omega arith)

pub none_more : (text : List ℕ) (from to : ℕ) → NoneBefore text from → ((k : ℕ) → from ≤ k → k < to → (slice_index text k == 10) ≡ false) → NoneBefore text to
none_more text from to before here k lt = elim (cases_lt k from) [
  | inl below ↦ before k below
  | inr above ↦ here k above lt
]

pub none_here : (text : List ℕ) (at : ℕ) → NoneBefore text at → (slice_index text at == 10) ≡ false → NoneBefore text (at + 1)
none_here text at before is k lt = elim (cases_lt k at) [
  | inl below ↦ before k below
  | inr above ↦ let e : at ≡ k = omega arith in rw e at is
]

-- it is the first
pub ends_at : (text : List ℕ) (n : ℕ) → NoneBefore text n → n < length text → (slice_index text n == 10) ≡ true → Some n ≡ position (λ c. c == 10) text
ends_at text n before lt is =
    rw (position_or_len_is (λ c. c == 10) text n 0 (omega arith) before (λ _. is)) (rw (lt-ltb n (length text) lt) refl)

pub is_end : (b : ℕ) → b ≡ 10 → (b == 10) ≡ true
is_end b e = rw e refl

-- there is none
pub ends_nowhere : (text : List ℕ) (n : ℕ) → NoneBefore text n → length text ≤ n → None ≡ position (λ c. c == 10) text
ends_nowhere text n before le =
    let whole = position_or_len_is (λ c. c == 10) text (length text) 0 (omega arith) (λ k lt. before k (omega arith)) (λ lt. absurd (omega arith)) in
    rw whole (rw (le-ltb (length text) (length text) (omega arith)) refl)

-- ---- what is kept

pub kept_more : (line : List ℕ) (from mid to : ℕ) → AreKept line from mid → AreKept line mid to → AreKept line from to
kept_more line from mid to front back k ge lt = elim (cases_lt k mid) [
  | inl below ↦ front k ge below
  | inr above ↦ back k above lt
]

pub kept_here : (line : List ℕ) (at : ℕ) → AreKept line 0 at → is_kept (slice_index line at) ≡ true → AreKept line 0 (at + 1)
kept_here line at front is k ge lt = elim (cases_lt k at) [
  | inl below ↦ front k ge below
  | inr above ↦ let e : at ≡ k = omega arith in rw e at is
]

all_kept : (line : List ℕ) (n : ℕ) → n ≤ length line → ((k : ℕ) → k < n → is_kept (slice_index line k) ≡ true) → filter is_kept (take n line) ≡ take n line
all_kept line zero le h = refl
all_kept line (suc n) le h =
    let here : n < length line = omega arith in
    let before = all_kept line n (omega arith) (λ k lt. h k (omega arith)) in
    let passes : is_kept (slice_index line n) ≡ true = h n (omega arith) in
    let more : filter is_kept (take (n + 1) line) ≡ take n line ++ slice_index line n ∷ [] =
    filter_more is_kept line n 0 here ∙ rw before (rw passes refl) in
    rw (← add-one) (more ∙ sym (take_more line n 0 here))

-- bytes of which each is kept are kept
pub kept_before : (line : List ℕ) (n : ℕ) → n ≤ length line → AreKept line 0 n → filter is_kept (take n line) ≡ take n line
kept_before line n le h = all_kept line n le (λ k lt. h k (omega arith) lt)

-- so is the rest of a line, where its last 32 bytes are
pub kept_rest : (line : List ℕ) (at : ℕ) → at ≤ length line → length line - at < 32 → 32 ≤ length line → AreKept line 0 at
    → AreKept line (length line - 32) (length line - 32 + 32) → filter is_kept (take (length line) line) ≡ take (length line) line
kept_rest line at within short long front back =
    kept_before line (length line) (omega arith) (kept_more line 0 at (length line) front (λ k ge lt. back k (omega arith) (omega arith)))

-- and of what all passes nothing
pub none_kept : (p : ℕ → Bool) (xs : List ℕ) → list_all p xs ≡ true → filter (λ c. not (p c)) xs ≡ []
none_kept p [] h = refl
none_kept p (x ∷ xs) h =
    let parts = and_parts (p x) (list_all p xs) h in
    rw parts.0 (none_kept p xs parts.1)

-- where all of the front fails and all of the rest passes
pub kept_front : (p : ℕ → Bool) (xs front rest : List ℕ) (n : ℕ) → front ≡ take n xs → rest ≡ drop n xs
    → filter (λ c. not (p c)) (take n xs) ≡ take n xs → list_all p rest ≡ true → filter (λ c. not (p c)) xs ≡ front
kept_front p xs front rest n ef er kept dropped =
    ap (filter (λ c. not (p c))) (sym (take-append-drop n xs)) ∙ filter-append (λ c. not (p c)) (take n xs) (drop n xs)
    ∙ rw (kept, none_kept p (drop n xs) (rw er at dropped)) (append-nil (take n xs) ∙ sym ef)
