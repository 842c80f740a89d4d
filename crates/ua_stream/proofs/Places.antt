-- The byte at a place, over lists of parts.
use Rattle.std.proofs.Common.{◌≡◌, ℕ, ◌+◌, ◌-◌, ◌<◌, ◌≤◌, true, false, List, [], ◌∷◌, ◌++◌, length, take, drop, min, get_or, ◌^◌, Option, Some, None, refl, sym, ap, subst, ◌∙◌, arith, inl, inr, suc}
use Rattle.std.specs.Prelude.{nat_lt, slice_get, IsSome}
use Rattle.std.specs.Option.{option_or}
use Rattle.std.proofs.lemmas.Bool.{le-ltb, lt-ltb, cases_lt}
use Rattle.std.proofs.lemmas.List.{take-append-drop, length-take, length-drop, length-append, append_assoc, append-nil, nil_from_length, get_or-take, get_or-drop, get_or_append_left, get_or-append-add}
use Rattle.std.proofs.lemmas.Option.{slice_get_past, slice_get-get_or}
use Rattle.std.proofs.Math.Seq.{drop-cons, take-suc}
use Rattle.ua_stream.specs.Piece.{Piece, part_of, end_of, byte_in, byte_at}
use Rattle.ua_stream.specs.Run.{IsRun, Gives, IsAdded, IsStream}

-- ---- one part

pub byte_in_before : (p : Piece) (k : ℕ) → k < p.at → byte_in p k ≡ None
unfolding byte_in
byte_in_before p k h = let e : nat_lt k p.at ≡ true = lt-ltb k p.at h in rw e refl

pub byte_in_from : (p : Piece) (k : ℕ) → p.at ≤ k → byte_in p k ≡ slice_get p.bytes (k - p.at)
unfolding byte_in
byte_in_from p k h = let e : nat_lt k p.at ≡ false = le-ltb k p.at h in rw e refl

pub byte_in_behind : (p : Piece) (k : ℕ) → end_of p ≤ k → byte_in p k ≡ None
byte_in_behind p k h = byte_in_from p k (omega arith) ∙ slice_get_past p.bytes (k - p.at) (omega arith)

-- ---- lists

option_or_none : (o : Option ℕ) → option_or o None ≡ o
option_or_none None = refl
option_or_none (Some x) = refl

option_or_assoc : (a b c : Option ℕ) → option_or (option_or a b) c ≡ option_or a (option_or b c)
option_or_assoc None b c = refl
option_or_assoc (Some x) b c = refl

pub byte_at-append : (xs ys : List Piece) (k : ℕ) → byte_at (xs ++ ys) k ≡ option_or (byte_at xs k) (byte_at ys k)
unfolding byte_at
byte_at-append [] ys k = refl
byte_at-append (x ∷ xs) ys k = ap (option_or (byte_in x k)) (byte_at-append xs ys k) ∙ sym (option_or_assoc (byte_in x k) (byte_at xs k) (byte_at ys k))

pub byte_at-cons : (p : Piece) (xs : List Piece) (k : ℕ) → byte_at (p ∷ xs) k ≡ option_or (byte_in p k) (byte_at xs k)
unfolding byte_at
byte_at-cons p xs k = refl

pub byte_at-none : (k : ℕ) → byte_at [] k ≡ None
unfolding byte_at
byte_at-none k = refl

-- one part more
pub byte_at-snoc : (xs : List Piece) (p : Piece) (k : ℕ) → byte_at (xs ++ p ∷ []) k ≡ option_or (byte_at xs k) (byte_in p k)
byte_at-snoc xs p k = byte_at-append xs (p ∷ []) k ∙ ap (option_or (byte_at xs k)) (byte_at-cons p [] k ∙ ap (option_or (byte_in p k)) (byte_at-none k) ∙ option_or_none (byte_in p k))

-- the first i + 1 of a list
front_more : (xs : List Piece) (i : ℕ) (p : Piece) → i < length xs → p ≡ get_or xs i p → take (i + 1) xs ≡ take i xs ++ p ∷ []
front_more xs i p h e = grind (arith, take-suc)

-- no byte in a range among the first i, and none in the next part: none among the first i + 1
pub none_more : (xs : List Piece) (i : ℕ) (p : Piece) (k : ℕ) → i < length xs → p ≡ get_or xs i p → byte_at (take i xs) k ≡ None → byte_in p k ≡ None → byte_at (take (i + 1) xs) k ≡ None
none_more xs i p k h e before here =
    ap (λ l. byte_at l k) (front_more xs i p h e) ∙ byte_at-snoc (take i xs) p k ∙ (λ j. option_or (before j) (here j))

-- a list at an index
split_at_index : (xs : List Piece) (i : ℕ) (p : Piece) → i < length xs → p ≡ get_or xs i p → xs ≡ take i xs ++ p ∷ drop (i + 1) xs
split_at_index xs i p h e =
    let n : suc i ≡ i + 1 = omega arith in
    sym (take-append-drop i xs) ∙ ap (λ l. take i xs ++ l) (drop-cons xs i p h ∙ ap (λ q. q ∷ drop (suc i) xs) (sym e) ∙ ap (λ m. p ∷ drop m xs) n)

-- where none of the first i has a byte, and the next part has, it is that one's
pub found_at : (xs : List Piece) (i : ℕ) (p : Piece) (k x : ℕ) → i < length xs → p ≡ get_or xs i p → byte_at (take i xs) k ≡ None → byte_in p k ≡ Some x → byte_at xs k ≡ Some x
found_at xs i p k x h e before here =
    ap (λ l. byte_at l k) (split_at_index xs i p h e) ∙ byte_at-append (take i xs) (p ∷ drop (i + 1) xs) k ∙ ap (λ o. option_or o (byte_at (p ∷ drop (i + 1) xs) k)) before ∙ byte_at-cons p (drop (i + 1) xs) k ∙ ap (λ o. option_or o (byte_at (drop (i + 1) xs) k)) here

-- ---- a run

-- a list from one index on, up to another
pub slice_get-range : (xs : List ℕ) (from n k : ℕ) → k < n → from + n ≤ length xs → slice_get (take n (drop from xs)) k ≡ Some (get_or xs (from + k) 0)
slice_get-range xs from n k h le =
    let long : k < length (take n (drop from xs)) = omega (arith, length-take n (drop from xs), length-drop from xs) in
    slice_get-get_or (take n (drop from xs)) k 0 long ∙ ap (λ x. Some x) (get_or-take n (drop from xs) k 0 h ∙ get_or-drop from xs k 0)

-- the byte of a part within it
byte_in_within : (p : Piece) (k : ℕ) → p.at ≤ k → k < end_of p → byte_in p k ≡ Some (get_or p.bytes (k - p.at) 0)
byte_in_within p k le lt = byte_in_from p k le ∙ slice_get-get_or p.bytes (k - p.at) 0 (omega arith)

pub run_is : (xs : List Piece) (i next until to : ℕ) (p : Piece) → i < length xs → p ≡ get_or xs i p
    → ((k : ℕ) → next ≤ k → k < until → byte_at (take i xs) k ≡ None)
    → p.at ≤ next → next < end_of p → next < until → end_of p ≤ 2 ^ 62 → to ≡ min (end_of p) until
    → IsRun xs next (take (to - p.at - (next - p.at)) (drop (next - p.at) p.bytes))
run_is xs i next until to p h e before from there later most is =
    let n : to - p.at - (next - p.at) ≡ to - next = omega arith in
    let le : (next - p.at) + (to - next) ≤ length p.bytes = omega arith in
    let long : length (take (to - next) (drop (next - p.at) p.bytes)) ≡ to - next = omega (arith, length-take (to - next) (drop (next - p.at) p.bytes), length-drop (next - p.at) p.bytes) in
    rw n (record {
      some = omega arith;
      within = omega arith;
      each = λ k lt.
          let lt' : k < to - next = omega arith in
          let place : (next + k) - p.at ≡ (next - p.at) + k = omega arith in
          let x : ℕ = get_or p.bytes ((next - p.at) + k) 0 in
          let here : byte_in p (next + k) ≡ Some x = byte_in_within p (next + k) (omega arith) (omega arith) ∙ ap (λ m. Some (get_or p.bytes m 0)) place in
          found_at xs i p (next + k) x h e (before (next + k) (omega arith) (omega arith)) here ∙ sym (slice_get-range p.bytes (next - p.at) (to - next) k lt' le);
    })

-- ---- a part that is passed over

pub passed_behind : (xs : List Piece) (i next until : ℕ) (p : Piece) → i < length xs → p ≡ get_or xs i p
    → ((k : ℕ) → next ≤ k → k < until → byte_at (take i xs) k ≡ None) → end_of p ≤ next
    → (k : ℕ) → next ≤ k → k < until → byte_at (take (i + 1) xs) k ≡ None
passed_behind xs i next until p h e before le k from lt = none_more xs i p k h e (before k from lt) (byte_in_behind p k (omega arith))

pub passed_later : (xs : List Piece) (i next until : ℕ) (p : Piece) → i < length xs → p ≡ get_or xs i p
    → ((k : ℕ) → next ≤ k → k < until → byte_at (take i xs) k ≡ None)
    → (k : ℕ) → next ≤ k → k < min until p.at → byte_at (take (i + 1) xs) k ≡ None
passed_later xs i next until p h e before k from lt = none_more xs i p k h e (before k from (omega arith)) (byte_in_before p k (omega arith))

-- ---- one run behind another

slice_get-left : (xs ys : List ℕ) (k : ℕ) → k < length xs → slice_get (xs ++ ys) k ≡ slice_get xs k
slice_get-left xs ys k h =
    slice_get-get_or (xs ++ ys) k 0 (omega (arith, length-append xs ys)) ∙ ap (λ x. Some x) (get_or_append_left xs ys 0 k h) ∙ sym (slice_get-get_or xs k 0 h)

slice_get-right : (xs ys : List ℕ) (k : ℕ) → k < length ys → slice_get (xs ++ ys) (length xs + k) ≡ slice_get ys k
slice_get-right xs ys k h =
    slice_get-get_or (xs ++ ys) (length xs + k) 0 (omega (arith, length-append xs ys)) ∙ ap (λ x. Some x) (get_or-append-add xs ys k 0) ∙ sym (slice_get-get_or ys k 0 h)

pub gives_none : (parts : List Piece) (from : ℕ) (old : List ℕ) → Gives parts from from old old
gives_none parts from old = record { more = []; all = sym (append-nil old); long = omega arith; each = λ k lt. absurd (omega (arith, lt)) }

pub gives_more : (parts : List Piece) (from to : ℕ) (old new run : List ℕ) → Gives parts from to old new → IsRun parts to run → Gives parts from (to + length run) old (new ++ run)
gives_more parts from to old new run g r =
    let long : from + length g.more ≡ to = g.long in
    record {
      more = g.more ++ run;
      all = ap (λ l. l ++ run) g.all ∙ append_assoc old g.more run;
      long = omega (arith, length-append g.more run);
      each = λ k lt. elim (cases_lt k (length g.more)) [
        | inl here ↦ g.each k here ∙ sym (slice_get-left g.more run k here)
        | inr behind ↦
            let j : ℕ = k - length g.more in
            let in_run : j < length run = omega (arith, length-append g.more run, lt) in
            let place : from + k ≡ to + j = omega arith in
            let index : length g.more + j ≡ k = omega arith in
            ap (byte_at parts) place ∙ r.each j in_run ∙ sym (slice_get-right g.more run j in_run) ∙ ap (slice_get (g.more ++ run)) index
      ];
    }

-- ---- a part that has all bytes of a range

or_some : (a b : Option ℕ) → IsSome a → IsSome (option_or a b)
or_some None b h = cc
or_some (Some x) b h = refl

or_some_right : (a b : Option ℕ) → IsSome b → IsSome (option_or a b)
or_some_right None b h = h
or_some_right (Some x) b h = refl

pub some_at : (xs : List Piece) (i : ℕ) (p : Piece) (k : ℕ) → i < length xs → p ≡ get_or xs i p → p.at ≤ k → k < end_of p → IsSome (byte_at xs k)
some_at xs i p k h e from to =
    let here : IsSome (byte_in p k) = subst IsSome (sym (byte_in_within p k from to)) refl in
    let both : IsSome (byte_at (p ∷ drop (i + 1) xs) k) = subst IsSome (sym (byte_at-cons p (drop (i + 1) xs) k)) (or_some (byte_in p k) (byte_at (drop (i + 1) xs) k) here) in
    let all : IsSome (byte_at (take i xs ++ p ∷ drop (i + 1) xs) k) = subst IsSome (sym (byte_at-append (take i xs) (p ∷ drop (i + 1) xs) k)) (or_some_right (byte_at (take i xs) k) (byte_at (p ∷ drop (i + 1) xs) k) both) in
    subst (λ l. IsSome (byte_at l k)) (sym (split_at_index xs i p h e)) all

-- what is there already is not changed by more
pub some_stays : (a b : Option ℕ) → IsSome a → a ≡ option_or a b
some_stays None b h = cc
some_stays (Some x) b h = refl

-- a part whose bytes all are there
pub known_all : (xs : List Piece) (p : Piece) → ((k : ℕ) → p.at ≤ k → k < end_of p → IsSome (byte_at xs k)) → (k : ℕ) → byte_at xs k ≡ option_or (byte_at xs k) (byte_in p k)
known_all xs p h k = elim (cases_lt k p.at) [
  | inl before ↦ sym (ap (option_or (byte_at xs k)) (byte_in_before p k before) ∙ option_or_none (byte_at xs k))
  | inr from ↦ elim (cases_lt k (end_of p)) [
    | inl within ↦ some_stays (byte_at xs k) (byte_in p k) (h k from within)
    | inr behind ↦ sym (ap (option_or (byte_at xs k)) (byte_in_behind p k behind) ∙ option_or_none (byte_at xs k))
  ]
]

-- ---- a part that is let go of

pub removed : (xs : List Piece) (i : ℕ) (p : Piece) (k : ℕ) → i < length xs → p ≡ get_or xs i p → end_of p ≤ k → byte_at (take i xs ++ drop (suc i) xs) k ≡ byte_at xs k
removed xs i p k h e le =
    let n : suc i ≡ i + 1 = omega arith in
    let rest : List Piece = drop (i + 1) xs in
    ap (λ m. byte_at (take i xs ++ drop m xs) k) n ∙ byte_at-append (take i xs) rest k ∙ ap (λ o. option_or (byte_at (take i xs) k) (option_or o (byte_at rest k))) (sym (byte_in_behind p k le))
    ∙ ap (option_or (byte_at (take i xs) k)) (sym (byte_at-cons p rest k)) ∙ sym (byte_at-append (take i xs) (p ∷ rest) k) ∙ ap (λ l. byte_at l k) (sym (split_at_index xs i p h e))

-- ---- a part that is added

pub added_first : (next : ℕ) (bytes old : List ℕ) → IsAdded [] next (part_of next bytes) (next + length bytes) old (old ++ bytes) []
added_first next bytes old =
    let s : Piece = part_of next bytes in
    let one : (k : ℕ) → byte_at (s ∷ []) k ≡ byte_in s k = λ k. byte_at-cons s [] k ∙ ap (option_or (byte_in s k)) (byte_at-none k) ∙ option_or_none (byte_in s k) in
    record {
      given = record {
        more = bytes;
        all = refl;
        long = refl;
        each = λ k lt.
            let place : (next + k) - next ≡ k = omega arith in
            one (next + k) ∙ byte_in_from s (next + k) (omega arith) ∙ ap (slice_get bytes) place;
      };
      gap = one (next + length bytes) ∙ byte_in_behind s (next + length bytes) (omega arith);
      rest = λ k le. byte_at-none k ∙ sym (one k ∙ byte_in_behind s k le);
    }

pub added_behind : (parts : List Piece) (next at : ℕ) (bytes old new : List ℕ) → length parts ≡ 0 → at ≡ next → new ≡ old ++ bytes → IsAdded parts next (part_of at bytes) (next + length bytes) old new parts
added_behind parts next at bytes old new none e n =
    let p : parts ≡ [] = nil_from_length parts none in
    rw (p, e, n) (added_first next bytes old)

pub added_kept : (parts kept left : List Piece) (next to : ℕ) (s : Piece) (old new : List ℕ)
    → ((k : ℕ) → byte_at kept k ≡ option_or (byte_at parts k) (byte_in s k))
    → Gives kept next to old new → byte_at kept to ≡ None → ((k : ℕ) → to ≤ k → byte_at left k ≡ byte_at kept k)
    → IsAdded parts next s to old new left
added_kept parts kept left next to s old new is g none rest =
    let same : (k : ℕ) → byte_at (parts ++ s ∷ []) k ≡ byte_at kept k = λ k. byte_at-snoc parts s k ∙ sym (is k) in
    record {
      given = record { more = g.more; all = g.all; long = g.long; each = λ k lt. same (next + k) ∙ g.each k lt };
      gap = same to ∙ none;
      rest = λ k le. rest k le ∙ sym (same k);
    }

-- ---- a stream

-- what has no bytes adds none
byte_in_empty : (s : Piece) (k : ℕ) → length s.bytes ≡ 0 → byte_in s k ≡ None
byte_in_empty s k h = elim (cases_lt k s.at) [
  | inl before ↦ byte_in_before s k before
  | inr from ↦ byte_in_behind s k (omega arith)
]

pub stream_empty : (past parts : List Piece) (bytes : List ℕ) (next : ℕ) (s : Piece) → length s.bytes ≡ 0 → IsStream past bytes next parts → IsStream (past ++ s ∷ []) bytes next parts
stream_empty past parts bytes next s none h =
    let same : (k : ℕ) → byte_at (past ++ s ∷ []) k ≡ byte_at past k = λ k. byte_at-snoc past s k ∙ ap (option_or (byte_at past k)) (byte_in_empty s k none) ∙ option_or_none (byte_at past k) in
    record { long = h.long; each = λ k lt. same k ∙ h.each k lt; gap = same next ∙ h.gap; rest = λ k le. h.rest k le ∙ sym (same k) }

pub stream_added : (past parts left : List Piece) (taken old new : List ℕ) (next to : ℕ) (s : Piece)
    → IsStream past (taken ++ old) next parts → IsAdded parts next s to old new left → IsStream (past ++ s ∷ []) (taken ++ new) to left
stream_added past parts left taken old new next to s h a =
    let more : List ℕ = a.given.more in
    let whole : taken ++ new ≡ (taken ++ old) ++ more = ap (λ l. taken ++ l) a.given.all ∙ sym (append_assoc taken old more) in
    let later : (k : ℕ) → next ≤ k → byte_at (past ++ s ∷ []) k ≡ byte_at (parts ++ s ∷ []) k =
    λ k le. byte_at-snoc past s k ∙ ap (λ o. option_or o (byte_in s k)) (sym (h.rest k le)) ∙ sym (byte_at-snoc parts s k) in
    let long : next + length more ≡ to = a.given.long in
    let was : length (taken ++ old) ≡ next = h.long in
    subst (λ bytes. IsStream (past ++ s ∷ []) bytes to left) (sym whole) (record {
      long = omega (arith, length-append (taken ++ old) more);
      each = λ k lt. elim (cases_lt k next) [
        | inl before ↦
            let there : k < length (taken ++ old) = omega arith in
            byte_at-snoc past s k ∙ ap (λ o. option_or o (byte_in s k)) (h.each k there) ∙ some_first (taken ++ old) k there (byte_in s k) ∙ sym (slice_get-left (taken ++ old) more k there)
        | inr from ↦
            let j : ℕ = k - next in
            let in_more : j < length more = omega (arith, length-append (taken ++ old) more, lt) in
            let place : next + j ≡ k = omega arith in
            let index : length (taken ++ old) + j ≡ k = omega arith in
            later k from ∙ ap (byte_at (parts ++ s ∷ [])) (sym place) ∙ a.given.each j in_more ∙ sym (slice_get-right (taken ++ old) more j in_more) ∙ ap (slice_get ((taken ++ old) ++ more)) index
      ];
      gap = later to (omega arith) ∙ a.gap;
      rest = λ k le. a.rest k le ∙ sym (later k (omega arith));
    })
  where
    some_first : (xs : List ℕ) (k : ℕ) → k < length xs → (o : Option ℕ) → option_or (slice_get xs k) o ≡ slice_get xs k
    some_first xs k lt o =
        let e : slice_get xs k ≡ Some (get_or xs k 0) = slice_get-get_or xs k 0 lt in
        ap (λ x. option_or x o) e ∙ sym e
