-- Numbers of so many bytes, many at a time.
use Rattle.std.proofs.Common.{◌≡◌, ◌≤◌, ◌<◌, ◌-◌, ◌*◌, ◌/◌, ℕ, zero, suc, true, false, List, ◌∷◌, [], ◌++◌, length, take, drop, get_or, map, Option, Some, None, ltb, refl, sym, ap, ◌∙◌, arith, append_assoc, append-nil, length-append, inl, inr}
use Rattle.std.specs.List.{flat_map}
use Rattle.std.specs.Simd.{first_chunks}
use Rattle.std.proofs.lemmas.Bool.{cases_lt, lt-ltb, le-ltb}
use Rattle.std.proofs.lemmas.List.{length-drop, length-take, take-append-drop, take-append-le, drop-append-le, take_all, nil_from_length}
use Rattle.std.proofs.lemmas.List.Concat.{flat_map-cons}
use Rattle.std.proofs.Math.Nat.{mul-div_cancel}
use Rattle.ua_value.specs.Format.{Format, AppendsPart}
use Rattle.ua_value.specs.Array.{items_at}
use Rattle.ua_value.specs.Fixed.{IsFixed}
use Rattle.ua_value.proofs.Items.{here}

-- ---- reading

-- the values of k times n bytes
whole : {V : Type 0} (f : Format V) (n : ℕ) (value : List ℕ → V) → IsFixed f n value → (k : ℕ) (front rest : List ℕ) → length front ≡ k * n
    → items_at f.grammar k (front ++ rest) ≡ Some (map value (first_chunks n k front), rest)
unfolding items_at
whole {V} f n value law zero front rest l = ap (λ (xs : List ℕ). let r : Option (List V × List ℕ) = Some ([], xs ++ rest) in r) (let none : front ≡ [] = nil_from_length front (omega (arith, l)) in none)
whole {V} f n value law (suc k) front rest l =
    let long : n ≤ length front = omega (arith, l) in
    let here : ltb (length (front ++ rest)) n ≡ false = le-ltb _ _ (omega (arith, long, length-append front rest)) in
    let others = whole f n value law k (drop n front) rest (omega (arith, l, length-drop n front)) in
    rw (law.front (front ++ rest), here, take-append-le n front rest long, drop-append-le n front rest long, others) refl

pub read_all : {V : Type 0} (f : Format V) (n : ℕ) (value : List ℕ → V) → IsFixed f n value → (k : ℕ) (input front rest : List ℕ) (chunks : List (List ℕ)) (items : List V) (i : ℕ) → k * n ≤ length input
    → front ≡ take (k * n) input → rest ≡ drop (k * n) input → chunks ≡ first_chunks n (length front / n) front → length chunks ≤ i → items ≡ map value (take i chunks) → items_at f.grammar k input ≡ Some (items, rest)
read_all {V} f n value law k input front rest chunks items i long before after cut over read =
    let l : length front ≡ k * n = omega (arith, ap length before, length-take (k * n) input, long) in
    let count : length front / n ≡ k = ap (λ (j : ℕ). j / n) l ∙ mul-div_cancel k law.some in
    let parts : input ≡ front ++ rest = sym (take-append-drop (k * n) input) ∙ ap (λ (xs : List ℕ). xs ++ drop (k * n) input) (sym before) ∙ ap (λ (xs : List ℕ). front ++ xs) (sym after) in
    let all : items ≡ map value (first_chunks n k front) = read ∙ ap (map value) (take_all i chunks over ∙ cut ∙ ap (λ (j : ℕ). first_chunks n j front) count) in
    ap (items_at f.grammar k) parts ∙ whole f n value law k front rest l ∙ ap (λ (xs : List V). let r : Option (List V × List ℕ) = Some (xs, rest) in r) (sym all)

-- fewer bytes are not so many values
pub too_short : {V : Type 0} (f : Format V) (n : ℕ) (value : List ℕ → V) → IsFixed f n value → (k : ℕ) (bytes : List ℕ) → length bytes < k * n → items_at f.grammar k bytes ≡ None
unfolding items_at
too_short f n value law zero bytes few = absurd (omega (arith, few))
too_short f n value law (suc k) bytes few =
    elim (cases_lt (length bytes) n) [
      | inl lt ↦ let none : ltb (length bytes) n ≡ true = lt-ltb _ _ lt in rw (law.front bytes, none) refl
      | inr le ↦
          let some : ltb (length bytes) n ≡ false = le-ltb _ _ le in
          rw (law.front bytes, some, too_short f n value law k (drop n bytes) (omega (arith, few, length-drop n bytes))) refl
    ]

-- ---- writing

-- what was written of the whole, and what is left
pub record Wrote (old now whole left : List ℕ) : Type 0 where
  pub part : List ℕ
  pub appended : now ≡ old ++ part
  pub parts : whole ≡ part ++ left

pub nothing_yet : (old whole : List ℕ) → Wrote old old whole whole
nothing_yet old whole = record { part = []; appended = sym (append-nil old); parts = refl }

pub wrote_more : (old now whole left bytes new after : List ℕ) → Wrote old now whole left → left ≡ bytes ++ after → new ≡ now ++ bytes → Wrote old new whole after
wrote_more old now whole left bytes new after w split put = record {
  part = w.part ++ bytes;
  appended = put ∙ ap (λ (l : List ℕ). l ++ bytes) w.appended ∙ append_assoc old w.part bytes;
  parts = w.parts ∙ ap (λ (l : List ℕ). w.part ++ l) split ∙ sym (append_assoc w.part bytes after);
}

-- a growth was refused
pub wrote_part : (old now whole left new : List ℕ) → Wrote old now whole left → new ≡ now → AppendsPart old new whole
wrote_part old now whole left new w same = record { part = w.part; missing = left; appended = same ∙ w.appended; begins = w.parts }

-- a part of what was left
pub wrote_some : (old now whole left new : List ℕ) → Wrote old now whole left → AppendsPart now new left → AppendsPart old new whole
wrote_some old now whole left new w p = record {
  part = w.part ++ p.part;
  missing = p.missing;
  appended = p.appended ∙ ap (λ (l : List ℕ). l ++ p.part) w.appended ∙ append_assoc old w.part p.part;
  begins = w.parts ∙ ap (λ (l : List ℕ). w.part ++ l) p.begins ∙ sym (append_assoc w.part p.part p.missing);
}

-- all of what was left
pub wrote_all : (old now whole left new : List ℕ) → Wrote old now whole left → new ≡ now ++ left → new ≡ old ++ whole
wrote_all old now whole left new w put = put ∙ ap (λ (l : List ℕ). l ++ left) w.appended ∙ append_assoc old w.part left ∙ ap (λ (l : List ℕ). old ++ l) (sym w.parts)

eight : {V : Type 0} (canon : V → List ℕ) (a b c d e f g h : V) (after : List V)
    → flat_map canon (a ∷ b ∷ c ∷ d ∷ e ∷ f ∷ g ∷ h ∷ after)
    ≡ flat_map (λ (x : List ℕ). x) (canon a ∷ canon b ∷ canon c ∷ canon d ∷ canon e ∷ canon f ∷ canon g ∷ canon h ∷ []) ++ flat_map canon after
eight canon a b c d e f g h after = simp (flat_map-cons, append_assoc)

-- the first eight values, and those after them
pub first_eight : {V : Type 0} (canon : V → List ℕ) (vs : List V) (a b c d e f g h : V) → 8 ≤ length vs
    → a ≡ get_or vs 0 a → b ≡ get_or vs 1 b → c ≡ get_or vs 2 c → d ≡ get_or vs 3 d → e ≡ get_or vs 4 e → f ≡ get_or vs 5 f → g ≡ get_or vs 6 g → h ≡ get_or vs 7 h
    → flat_map canon vs ≡ flat_map (λ (x : List ℕ). x) (canon a ∷ canon b ∷ canon c ∷ canon d ∷ canon e ∷ canon f ∷ canon g ∷ canon h ∷ []) ++ flat_map canon (take (length vs - 8) (drop 8 vs))
first_eight {V} canon vs a b c d e f g h long at0 at1 at2 at3 at4 at5 at6 at7 =
    let from7 = here vs 7 h (omega (arith, long)) at7 in
    let from6 = here vs 6 g (omega (arith, long)) at6 ∙ ap (λ xs. g ∷ xs) from7 in
    let from5 = here vs 5 f (omega (arith, long)) at5 ∙ ap (λ xs. f ∷ xs) from6 in
    let from4 = here vs 4 e (omega (arith, long)) at4 ∙ ap (λ xs. e ∷ xs) from5 in
    let from3 = here vs 3 d (omega (arith, long)) at3 ∙ ap (λ xs. d ∷ xs) from4 in
    let from2 = here vs 2 c (omega (arith, long)) at2 ∙ ap (λ xs. c ∷ xs) from3 in
    let from1 = here vs 1 b (omega (arith, long)) at1 ∙ ap (λ xs. b ∷ xs) from2 in
    let from0 = here vs 0 a (omega (arith, long)) at0 ∙ ap (λ xs. a ∷ xs) from1 in
    let last : drop 8 vs ≡ take (length vs - 8) (drop 8 vs) = sym (take_all (length vs - 8) (drop 8 vs) (omega (arith, length-drop 8 vs))) in
    ap (flat_map canon) from0 ∙ eight canon a b c d e f g h (drop 8 vs) ∙ ap (λ (xs : List V). flat_map (λ (x : List ℕ). x) (canon a ∷ canon b ∷ canon c ∷ canon d ∷ canon e ∷ canon f ∷ canon g ∷ canon h ∷ []) ++ flat_map canon xs) last
