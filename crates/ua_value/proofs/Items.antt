-- Going over the items of an array.
use Rattle.std.proofs.Common.{◌≡◌, ◌≤◌, ◌<◌, ◌+◌, ◌-◌, ℕ, suc, List, ◌∷◌, [], ◌++◌, length, take, drop, get_or, Option, Some, None, refl, sym, ap, ◌∙◌, arith, append_assoc, length-append, add-one, drop-cons}
use Rattle.std.specs.List.{flat_map}
use Rattle.std.proofs.lemmas.List.{take-append-drop, append-nil}
use Rattle.std.proofs.lemmas.List.Concat.{flat_map-cons, flat_map-append}
use Rattle.ua_value.specs.declared.fault.ReadFault.{ReadFault}
use Rattle.ua_value.specs.declared.fault.ReadFault.TheVariants.{Refused, NoMemory}
use Rattle.ua_value.specs.Format.{◌>>=◌, IsBytes, Grammar, Format, IsLawful, Fails, AppendsPart, input_limit}
use Rattle.ua_value.specs.Array.{items_at}
use Rattle.ua_value.specs.ArrayLaws.{items_take, shortest_items}

-- item i of a list, and those after it
pub here : {V : Type 0} (vs : List V) (i : ℕ) (v : V) → i < length vs → v ≡ get_or vs i v → drop i vs ≡ v ∷ drop (i + 1) vs
here vs i v lt e = rw add-one (drop-cons vs i v lt ∙ ap (λ x. x ∷ drop (suc i) vs) (sym e))

pub flat_here : {V : Type 0} (f : V → List ℕ) (vs : List V) (i : ℕ) (v : V) → i < length vs → v ≡ get_or vs i v → flat_map f (drop i vs) ≡ f v ++ flat_map f (drop (i + 1) vs)
flat_here f vs i v lt e = ap (flat_map f) (here vs i v lt e) ∙ flat_map-cons f v (drop (i + 1) vs)

-- a beginning of one item, behind the items before it
pub appends_part : {V : Type 0} (f : V → List ℕ) (vs : List V) (i : ℕ) (v : V) (old between new : List ℕ) → i < length vs → v ≡ get_or vs i v
    → between ≡ old ++ flat_map f (take i vs) → AppendsPart between new (f v) → AppendsPart old new (flat_map f vs)
appends_part f vs i v old between new lt e so_far p = record {
  part = flat_map f (take i vs) ++ p.part;
  missing = p.missing ++ flat_map f (drop (i + 1) vs);
  appended = p.appended ∙ ap (λ (l : List ℕ). l ++ p.part) so_far ∙ append_assoc old (flat_map f (take i vs)) p.part;
  begins = ap (flat_map f) (sym (take-append-drop i vs)) ∙ flat_map-append f (take i vs) (drop i vs) ∙ ap (λ (l : List ℕ). flat_map f (take i vs) ++ l) (flat_here f vs i v lt e ∙ ap (λ (l : List ℕ). l ++ flat_map f (drop (i + 1) vs)) p.begins)
      ∙ simp append_assoc;
}

-- ---- reading one item after another

-- what was read before, and what is still read
abbrev pub with_front : {V : Type 0} → List V → Option (List V × List ℕ) → Option (List V × List ℕ)
with_front front read = read >>= λ vs. Some (front ++ vs.0, vs.1)

same : {V : Type 0} (read : Option (List V × List ℕ)) → with_front [] read ≡ read
same None = refl
same (Some x) = refl

regroup : {V : Type 0} (front : List V) (v : V) (read : Option (List V × List ℕ)) → with_front front (read >>= λ vs. Some (v ∷ vs.0, vs.1)) ≡ with_front (front ++ v ∷ []) read
regroup {V} front v (Some vs) = ap (λ (xs : List V). let r : Option (List V × List ℕ) = Some (xs, vs.1) in r) (simp append_assoc)
regroup front v None = refl

pub goes_on : {V : Type 0} (g : Grammar V) (front : List V) (count i : ℕ) (bytes : List ℕ) (v : V) (after : List ℕ) (total : Option (List V × List ℕ)) → i < count → g.front bytes ≡ Some (v, after)
    → with_front front (items_at g (count - i) bytes) ≡ total → with_front (front ++ v ∷ []) (items_at g (count - (i + 1)) after) ≡ total
unfolding items_at
goes_on g front count i bytes v after total lt h so_far =
    let k : count - i ≡ suc (count - (i + 1)) = omega arith in
    let one : with_front front (items_at g (count - i) bytes) ≡ with_front (front ++ v ∷ []) (items_at g (count - (i + 1)) after) = rw (k, h) (regroup front v (items_at g (count - (i + 1)) after)) in
    sym one ∙ so_far

pub ends : {V : Type 0} (g : Grammar V) (e : ReadFault) (front : List V) (count i : ℕ) (bytes : List ℕ) (total : Option (List V × List ℕ)) → i < count → Fails e (g.front bytes)
    → with_front front (items_at g (count - i) bytes) ≡ total → Fails e total
unfolding items_at
ends g NoMemory front count i bytes total lt h so_far = tt
ends g Refused front count i bytes total lt h so_far =
    let k : count - i ≡ suc (count - (i + 1)) = omega arith in
    let one : with_front front (items_at g (count - i) bytes) ≡ None = rw (k, h) refl in
    sym so_far ∙ one

pub is_done : {V : Type 0} (g : Grammar V) (front : List V) (count i : ℕ) (bytes : List ℕ) (total : Option (List V × List ℕ)) → count ≤ i → with_front front (items_at g (count - i) bytes) ≡ total → total ≡ Some (front, bytes)
unfolding items_at
is_done {V} g front count i bytes total le so_far =
    let k : count - i ≡ 0 = omega arith in
    let one : with_front front (items_at g (count - i) bytes) ≡ Some (front, bytes) = rw k (ap (λ (xs : List V). let r : Option (List V × List ℕ) = Some (xs, bytes) in r) (append-nil front)) in
    sym so_far ∙ one

pub starts : {V : Type 0} (g : Grammar V) (count : ℕ) (bytes : List ℕ) → with_front [] (items_at g (count - 0) bytes) ≡ items_at g count bytes
starts g count bytes = let e : count - 0 ≡ count = omega arith in rw e (same (items_at g count bytes))

-- the items that were read are written in no more bytes
pub within : {V : Type 0} (f : Format V) → IsLawful f → (count : ℕ) (bytes : List ℕ) (vs : List V) (rest : List ℕ) → length bytes ≤ input_limit → IsBytes bytes → items_at f.grammar count bytes ≡ Some (vs, rest)
    → (length vs ≡ count) × (length (flat_map f.canon vs) ≤ input_limit)
within f law count bytes vs rest short fits e =
    let t = items_take f.grammar law.reads count bytes vs rest fits e in
    (t.counted, omega (arith, shortest_items f law vs t.text t.spelled, ap length t.parts, length-append t.text rest))
