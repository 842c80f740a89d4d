-- What is found of a list, item by item.
use Rattle.std.proofs.Common.{◌≡◌, ◌≤◌, ◌<◌, ℕ, Bool, true, false, cond, List, [], ◌∷◌, ◌++◌, length, map, take, drop, get_or, refl, sym, ap, ◌∙◌, subst, arith, length-append}
use Rattle.std.specs.List.{flat_map, filter}
use Rattle.std.proofs.lemmas.List.{take-append-drop}
use Rattle.std.proofs.lemmas.List.Concat.{flat_map-cons, flat_map-append}
use Rattle.ua_value.specs.Format.{AppendsPart}
use Rattle.ua_value.proofs.Items.{appends_part}

-- the bytes of an item that is found, and none of another
abbrev piece : {V W : Type 0} → (W → List ℕ) → (V → W) → (V → Bool) → V → List ℕ
piece f g p v = cond (p v) (f (g v)) []

one_more : {V W : Type 0} (f : W → List ℕ) (g : V → W) (b : Bool) (v : V) (rest : List V) → flat_map f (map g (cond b (v ∷ rest) rest)) ≡ cond b (f (g v)) [] ++ flat_map f (map g rest)
one_more f g true v rest = flat_map-cons f (g v) (map g rest)
one_more f g false v rest = refl

pieces : {V W : Type 0} (f : W → List ℕ) (g : V → W) (p : V → Bool) (vs : List V) → flat_map f (map g (filter p vs)) ≡ flat_map (piece f g p) vs
pieces f g p [] = refl
pieces f g p (v ∷ vs) = one_more f g (p v) v (filter p vs) ∙ ap (λ (l : List ℕ). piece f g p v ++ l) (pieces f g p vs) ∙ sym (flat_map-cons (piece f g p) v vs)

split : {V : Type 0} (q : V → List ℕ) (vs : List V) (i : ℕ) → flat_map q vs ≡ flat_map q (take i vs) ++ flat_map q (drop i vs)
split q vs i = ap (flat_map q) (sym (take-append-drop i vs)) ∙ flat_map-append q (take i vs) (drop i vs)

-- the bytes of what is found of the first items are no more than all
pub beginning_size : {V W : Type 0} (f : W → List ℕ) (g : V → W) (p : V → Bool) (vs : List V) (i : ℕ) → length (flat_map f (map g (filter p (take i vs)))) ≤ length (flat_map f (map g (filter p vs)))
beginning_size f g p vs i =
    let q = piece f g p in
    omega (arith, ap length (pieces f g p (take i vs)), ap length (pieces f g p vs), ap length (split q vs i), length-append (flat_map q (take i vs)) (flat_map q (drop i vs)))

-- a beginning of one item that is found, behind those that were found before it
pub part_of_found : {V W : Type 0} (f : W → List ℕ) (g : V → W) (p : V → Bool) (vs : List V) (i : ℕ) (v : V) (old between new : List ℕ) → i < length vs → v ≡ get_or vs i v → p v ≡ true
    → between ≡ old ++ flat_map f (map g (filter p (take i vs))) → AppendsPart between new (f (g v)) → AppendsPart old new (flat_map f (map g (filter p vs)))
part_of_found f g p vs i v old between new lt e asked so_far part =
    let one : piece f g p v ≡ f (g v) = rw asked refl in
    let whole = appends_part (piece f g p) vs i v old between new lt e (so_far ∙ ap (λ (l : List ℕ). old ++ l) (pieces f g p (take i vs))) (subst (λ (l : List ℕ). AppendsPart between new l) (sym one) part) in
    subst (λ (l : List ℕ). AppendsPart old new l) (sym (pieces f g p vs)) whole
