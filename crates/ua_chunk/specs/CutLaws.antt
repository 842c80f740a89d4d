-- What is true of every cut, and of the one whose parts have k bytes.
use Rattle.std.proofs.Common.{◌≡◌, ℕ, zero, suc, ◌+◌, ◌-◌, ◌*◌, ◌/◌, ◌<◌, ◌≤◌, cond, List, [], ◌∷◌, ◌++◌, map, length, take, drop, refl, sym, ap, subst, ◌∙◌, arith, take-append-drop, inl, inr, add-one}
use Rattle.std.specs.Prelude.{◌==◌}
use Rattle.std.specs.List.{range_with_len}
use Rattle.std.proofs.lemmas.Bool.{cases_lt, ne_eqb}
use Rattle.std.proofs.lemmas.List.{append-nil, length-append, length-drop, length-take-le, take_all, drop-drop, take_at, drop_at}
use Rattle.std.proofs.lemmas.List.FromFn.{length-map-range_with_len}
use Rattle.std.proofs.Math.Nat.{add-div_right, div-eq_of_lt}
use Rattle.std.proofs.Math.Dec.{eqb-suc-suc}
use Rattle.ua_chunk.specs.Cut.{Part, joined, CutOf, HaveSize, AreFilled, part_count, part_flag, part_at, fill}

-- ---- how many parts

pub part_count_some : (len k : ℕ) → 1 ≤ k → 1 ≤ len → part_count len k ≡ (len - 1) / k + 1
part_count_some len k p q =
    let e : len + k - 1 ≡ (len - 1) + k = omega arith in
    let d : (len + k - 1) / k ≡ (len - 1) / k + 1 = ap (λ n. n / k) e ∙ add-div_right (len - 1) p in
    omega (arith, d)

pub part_count_last : (len k : ℕ) → 1 ≤ k → len ≤ k → part_count len k ≡ 1
part_count_last zero k p le =
    let d : (0 + k - 1) / k ≡ 0 = div-eq_of_lt (omega arith) in
    omega (arith, d)
part_count_last (suc n) k p le =
    let d : (suc n - 1) / k ≡ 0 = div-eq_of_lt (omega arith) in
    omega (arith, d, part_count_some (suc n) k p (omega arith))

pub part_count_more : (len k : ℕ) → 1 ≤ k → k < len → part_count len k ≡ suc (part_count (len - k) k)
part_count_more len k p lt =
    let e : len - 1 ≡ (len - k - 1) + k = omega arith in
    let d : (len - 1) / k ≡ (len - k - 1) / k + 1 = ap (λ n. n / k) e ∙ add-div_right (len - k - 1) p in
    omega (arith, d, part_count_some len k p (omega arith), part_count_some (len - k) k p (omega arith))

-- ---- its first part and the others

map_shift : {X : Type 0} (f g : ℕ → X) → ((i : ℕ) → f (i + 1) ≡ g i) → (a n : ℕ) → map f (range_with_len (a + 1) n) ≡ map g (range_with_len a n)
map_shift f g same a zero = refl
map_shift f g same a (suc n) = let e = same a in let r = map_shift f g same (a + 1) n in cc

abbrev as_part : ℕ → ℕ → List ℕ → Part
as_part id flag bytes = record { id = id; flag = flag; bytes = bytes }

pub fill_last : (id k : ℕ) (body : List ℕ) → 1 ≤ k → length body ≤ k → fill id body k ≡ record { id = id; flag = 70; bytes = body } ∷ []
unfolding fill
fill_last id k body p le =
    let count = part_count_last (length body) k p le in
    let none : 0 * k ≡ 0 = omega arith in
    let all : take k (drop (0 * k) body) ≡ body = ap (λ n. take k (drop n body)) none ∙ take_all k body le in
    ap (λ n. map (part_at id body k) (range_with_len 0 n)) count
    ∙ (λ i. as_part id (part_flag (count i) 0) (all i) ∷ [])

flag_shift : (count i : ℕ) → part_flag (suc count) (i + 1) ≡ part_flag count i
flag_shift count i = ap (λ b. cond b 70 67) (ap (λ n. n == suc count) (add-one (i + 1)) ∙ eqb-suc-suc (i + 1) count)

first_flag : (count : ℕ) → 1 ≤ count → part_flag (suc count) 0 ≡ 67
first_flag count h = ap (λ b. cond b 70 67) (ne_eqb (0 + 1) (suc count) (λ e. omega (arith, e, h)))

pub fill_more : (id k : ℕ) (body : List ℕ) → 1 ≤ k → k < length body → fill id body k ≡ record { id = id; flag = 67; bytes = take k body } ∷ fill id (drop k body) k
unfolding fill
fill_more id k body p lt =
    let rest = drop k body in
    let len : length rest ≡ length body - k = length-drop k body in
    let n = part_count (length rest) k in
    let count : part_count (length body) k ≡ suc n = part_count_more (length body) k p lt ∙ ap (λ l. suc (part_count l k)) (sym len) in
    let none : 0 * k ≡ 0 = omega arith in
    let flag : part_flag (part_count (length body) k) 0 ≡ 67 = ap (λ c. part_flag c 0) count ∙ first_flag n (omega arith) in
    let bytes : take k (drop (0 * k) body) ≡ take k body = ap (λ m. take k (drop m body)) none in
    let first : part_at id body k 0 ≡ as_part id 67 (take k body) = λ i. as_part id (flag i) (bytes i) in
    let later : (i : ℕ) → part_at id body k (i + 1) ≡ part_at id rest k i = λ i.
    let far : (i + 1) * k ≡ k + i * k = omega arith in
    let flags : part_flag (part_count (length body) k) (i + 1) ≡ part_flag n i = ap (λ c. part_flag c (i + 1)) count ∙ flag_shift n i in
    let parts : take k (drop ((i + 1) * k) body) ≡ take k (drop (i * k) rest) = ap (λ m. take k (drop m body)) far ∙ ap (take k) (sym (drop-drop (i * k) k body)) in
    λ j. as_part id (flags j) (parts j) in
    ap (λ m. map (part_at id body k) (range_with_len 0 m)) count
    ∙ ap (λ (ps : List Part). part_at id body k 0 ∷ ps) (map_shift (part_at id body k) (part_at id rest k) later 0 n)
    ∙ ap (λ (q : Part). q ∷ map (part_at id rest k) (range_with_len 0 n)) first

pub length-fill : (id k : ℕ) (body : List ℕ) → length (fill id body k) ≡ part_count (length body) k
unfolding fill
length-fill id k body = length-map-range_with_len (part_at id body k) 0 (part_count (length body) k)

-- ---- it is a cut with parts of that size

-- a cut behind one more part
cut_more : (id : ℕ) (bytes body : List ℕ) (parts : List Part) → CutOf id body parts → CutOf id (bytes ++ body) (as_part id 67 bytes ∷ parts)
cut_more id bytes body [] cut = absurd cut.flagged
cut_more id bytes body (p ∷ parts) cut = record {
  whole = ap (λ (l : List ℕ). bytes ++ l) cut.whole;
  same = (refl, cut.same);
  flagged = (refl, cut.flagged);
}

cut_last : (id : ℕ) (body : List ℕ) → CutOf id body (as_part id 70 body ∷ [])
cut_last id body = record { whole = append-nil body; same = (refl, tt); flagged = refl }

-- parts of some size behind one more part
size_more : (k id : ℕ) (bytes : List ℕ) (parts : List Part) → length bytes ≡ k → 1 ≤ length parts → HaveSize k parts → HaveSize k (as_part id 67 bytes ∷ parts)
size_more k id bytes [] e some h = absurd (omega (arith, some))
size_more k id bytes (p ∷ parts) e some h = (e, h)

record IsFill (id k : ℕ) (body : List ℕ) (parts : List Part) : Type 0 where
  cut : CutOf id body parts
  size : 1 ≤ length body → HaveSize k parts
  count : 1 ≤ length parts

fill_is : (fuel id k : ℕ) (body : List ℕ) → 1 ≤ k → length body ≤ fuel → IsFill id k body (fill id body k)
fill_is zero id k body p short =
    subst (IsFill id k body) (sym (fill_last id k body p (omega arith)))
    (record { cut = cut_last id body; size = λ some. absurd (omega (arith, some, short)); count = omega arith })
fill_is (suc fuel) id k body p short = elim (cases_lt k (length body)) [
  | inl lt ↦
      let rest = fill_is fuel id k (drop k body) p (omega (arith, length-drop k body)) in
      subst (IsFill id k body) (sym (fill_more id k body p lt)) (record {
        cut = subst (λ (l : List ℕ). CutOf id l (as_part id 67 (take k body) ∷ fill id (drop k body) k)) (take-append-drop k body) (cut_more id (take k body) (drop k body) (fill id (drop k body) k) rest.cut);
        size = λ some. size_more k id (take k body) (fill id (drop k body) k) (length-take-le k body (omega arith)) rest.count (rest.size (omega (arith, length-drop k body, lt)));
        count = omega arith;
      })
  | inr le ↦
      subst (IsFill id k body) (sym (fill_last id k body p le)) (record { cut = cut_last id body; size = λ some. (some, le); count = omega arith })
]

pub fill_is_cut : (id k : ℕ) (body : List ℕ) → 1 ≤ k → CutOf id body (fill id body k)
fill_is_cut id k body p = (fill_is (length body) id k body p (omega arith)).cut

none_filled : (id k : ℕ) (body : List ℕ) → 1 ≤ k → length body ≡ 0 → AreFilled k (fill id body k)
none_filled id k body p e = subst (AreFilled k) (sym (fill_last id k body p (omega (arith, e)))) (inr (ap (λ n. n ∷ []) e))

pub fill_is_filled : (id k : ℕ) (body : List ℕ) → 1 ≤ k → AreFilled k (fill id body k)
fill_is_filled id k body p = elim (cases_lt 0 (length body)) [
  | inl some ↦ inl ((fill_is (length body) id k body p (omega arith)).size (omega arith))
  | inr none ↦ none_filled id k body p (omega arith)
]

-- ---- and the only one

one_of : (id k : ℕ) (body : List ℕ) (p : Part) → 1 ≤ k → p.id ≡ id → p.flag ≡ 70 → p.bytes ≡ body → length p.bytes ≤ k → p ∷ [] ≡ fill id body k
one_of id k body p pos same flag whole short =
    (λ i. as_part (same i) (flag i) (whole i) ∷ []) ∙ sym (fill_last id k body pos (omega (arith, ap length whole)))

-- parts of some size hold some bytes
some_bytes : (k : ℕ) (p : Part) (parts : List Part) → 1 ≤ k → HaveSize k (p ∷ parts) → 1 ≤ length (joined (p ∷ parts))
some_bytes k p [] pos h = omega (arith, h.0, length-append p.bytes [])
some_bytes k p (q ∷ parts) pos h = omega (arith, h.0, length-append p.bytes (joined (q ∷ parts)))

sized_is_fill : (id k : ℕ) (body : List ℕ) (parts : List Part) → 1 ≤ k → CutOf id body parts → HaveSize k parts → parts ≡ fill id body k
sized_is_fill id k body [] pos cut size = absurd cut.flagged
sized_is_fill id k body (p ∷ []) pos cut size = one_of id k body p pos cut.same.0 cut.flagged (sym (append-nil p.bytes) ∙ cut.whole) size.1
sized_is_fill id k body (p ∷ q ∷ parts) pos cut size =
    let others = joined (q ∷ parts) in
    let whole : p.bytes ++ others ≡ body = cut.whole in
    let some : 1 ≤ length others = some_bytes k q parts pos size.1 in
    let lt : k < length body = omega (arith, ap length whole, length-append p.bytes others, size.0, some) in
    let front : p.bytes ≡ take k body = sym (take_at p.bytes others k size.0) ∙ ap (take k) whole in
    let rest : others ≡ drop k body = sym (drop_at p.bytes others k size.0) ∙ ap (drop k) whole in
    let later = sized_is_fill id k (drop k body) (q ∷ parts) pos (record { whole = rest; same = cut.same.1; flagged = cut.flagged.1 }) size.1 in
    (λ i. as_part (cut.same.0 i) (cut.flagged.0 i) (front i) ∷ later i) ∙ sym (fill_more id k body pos lt)

empty_is_fill : (id k : ℕ) (body : List ℕ) (parts : List Part) → 1 ≤ k → CutOf id body parts → map (λ (p : Part). length p.bytes) parts ≡ 0 ∷ [] → parts ≡ fill id body k
empty_is_fill id k body [] pos cut e = absurd cut.flagged
empty_is_fill id k body (p ∷ []) pos cut e =
    let none : length p.bytes ≡ 0 = cc in
    one_of id k body p pos cut.same.0 cut.flagged (sym (append-nil p.bytes) ∙ cut.whole) (omega (arith, none))
empty_is_fill id k body (p ∷ q ∷ parts) pos cut e = absurd cc

pub filled_is_fill : (id k : ℕ) (body : List ℕ) (parts : List Part) → 1 ≤ k → CutOf id body parts → AreFilled k parts → parts ≡ fill id body k
filled_is_fill id k body parts pos cut (inl size) = sized_is_fill id k body parts pos cut size
filled_is_fill id k body parts pos cut (inr e) = empty_is_fill id k body parts pos cut e

-- The filled cut is a cut with parts of that size, of so many parts, and no other is.
pub record IsOneCut (id k : ℕ) (body : List ℕ) : Type 0 where
  pub cut : CutOf id body (fill id body k)
  pub size : AreFilled k (fill id body k)
  pub count : length (fill id body k) ≡ part_count (length body) k
  pub only : (parts : List Part) → CutOf id body parts → AreFilled k parts → parts ≡ fill id body k

abbrev pub FillIsTheCut : Type 0
FillIsTheCut = (id k : ℕ) (body : List ℕ) → 1 ≤ k → IsOneCut id k body

pub fill_is_the_cut : FillIsTheCut
fill_is_the_cut id k body p = record {
  cut = fill_is_cut id k body p;
  size = fill_is_filled id k body p;
  count = length-fill id k body;
  only = λ parts cut filled. filled_is_fill id k body parts p cut filled;
}
