use Rattle.std.proofs.Common.{◌≡◌, ◌≤◌, ℕ, zero, suc, false, ltb, eqb, List, ◌∷◌, [], ◌++◌, length, Option, Some, None, refl, sym, ap, subst, ◌∙◌, arith, append_assoc, length-append, inl, inr, lit<}
use Rattle.std.specs.List.{flat_map, AllByRecursion}
use Rattle.std.specs.Int.{w32, to_le_bytes}
use Rattle.std.proofs.lemmas.Bool.{ltb-false, le-ltb, eqb-true, ne_eqb}
use Rattle.std.proofs.lemmas.List.Concat.{flat_map-cons}
use Rattle.ua_value.specs.Format.{◌>>=◌, IsBytes, Grammar, Format, Takes, IsGrammar, IsLawful, input_limit}
use Rattle.ua_value.specs.Lists.{IsBytes-rest, bind_some, chosen, passed, same_pair}
use Rattle.ua_value.specs.Number.{unsigned}
use Rattle.ua_value.specs.SequenceLaws.{takes_as}
use Rattle.ua_value.specs.Text.{null, longest}
use Rattle.ua_value.specs.TextLaws.{count_takes, count_again}
use Rattle.ua_value.specs.Array.{SpellsItems, items_at, SpellsArray, counted_items_at, array_at, canon_array, IsArray, array}

-- the items that were taken from the front
pub record TakesItems {V : Type 0} (g : Grammar V) (count : ℕ) (bytes : List ℕ) (vs : List V) (rest : List ℕ) : Type 0 where
  pub text : List ℕ
  pub parts : bytes ≡ text ++ rest
  pub spelled : SpellsItems g vs text
  pub counted : length vs ≡ count

takes_items_as : {V : Type 0} (g : Grammar V) (count : ℕ) (bytes text : List ℕ) (vs ws : List V) (rest more : List ℕ) → let s : Option (List V × List ℕ) = Some (vs, rest) in let t : Option (List V × List ℕ) = Some (ws, more) in s ≡ t
    → bytes ≡ text ++ rest → SpellsItems g vs text → length vs ≡ count → TakesItems g count bytes ws more
takes_items_as {V} g count bytes text vs ws rest more e parts s l =
    let p = same_pair vs ws rest more e in
    record { text = text; parts = parts ∙ ap (λ (l : List ℕ). text ++ l) p.1; spelled = subst (λ (x : List V). SpellsItems g x text) p.0 s; counted = ap length (sym p.0) ∙ l }

pub items_take : {V : Type 0} (g : Grammar V) → IsGrammar g → (count : ℕ) (bytes : List ℕ) (vs : List V) (rest : List ℕ) → IsBytes bytes → items_at g count bytes ≡ Some (vs, rest) → TakesItems g count bytes vs rest
unfolding items_at
items_take g law zero bytes vs rest fits e = takes_items_as g 0 bytes [] [] vs bytes rest e refl refl refl
items_take g law (suc n) bytes vs rest fits e =
    let one = bind_some (g.front bytes) (λ v. items_at g n v.1 >>= λ xs. Some (v.0 ∷ xs.0, xs.1)) (vs, rest) e in
    let two = bind_some (items_at g n one.0.1) (λ xs. Some (one.0.0 ∷ xs.0, xs.1)) (vs, rest) one.2 in
    let s = law.takes bytes one.0.0 one.0.1 fits one.1 in
    let t = items_take g law n one.0.1 two.0.0 two.0.1 (IsBytes-rest bytes s.text one.0.1 fits s.parts) two.1 in
    takes_items_as g (suc n) bytes (s.text ++ t.text) (one.0.0 ∷ two.0.0) vs two.0.1 rest two.2
    (s.parts ∙ ap (λ (l : List ℕ). s.text ++ l) t.parts ∙ sym (append_assoc s.text t.text two.0.1))
    (s.text, t.text, s.spelled, t.spelled, refl) (ap suc t.counted)

pub items_again : {V : Type 0} (g : Grammar V) → IsGrammar g → (vs : List V) (a rest : List ℕ) → SpellsItems g vs a → items_at g (length vs) (a ++ rest) ≡ Some (vs, rest)
unfolding items_at
items_again {V} g law [] a rest s = ap (λ (l : List ℕ). let r : Option (List V × List ℕ) = Some ([], l ++ rest) in r) s
items_again {V} g law (v ∷ vs) a rest s =
    let cut : a ++ rest ≡ s.0 ++ (s.1 ++ rest) = ap (λ (l : List ℕ). l ++ rest) s.4 ∙ append_assoc s.0 s.1 rest in
    ap (λ (l : List ℕ). items_at g (suc (length vs)) l) cut ∙ rw (law.again v s.0 (s.1 ++ rest) s.2, items_again g law vs s.1 rest s.3) refl

pub shortest_items : {V : Type 0} (f : Format V) → IsLawful f → (vs : List V) (a : List ℕ) → SpellsItems f.grammar vs a → length (flat_map f.canon vs) ≤ length a
shortest_items f law [] a s = omega arith
shortest_items f law (v ∷ vs) a s =
    rw flat_map-cons (omega (arith, length-append (f.canon v) (flat_map f.canon vs), length-append s.0 s.1, ap length s.4, law.shortest v s.0 s.2, shortest_items f law vs s.1 s.3))

-- each item takes a byte
pub count_items : {V : Type 0} (f : Format V) → IsLawful f → (vs : List V) (a : List ℕ) → SpellsItems f.grammar vs a → length vs ≤ length a
count_items f law [] a s = omega arith
count_items f law (v ∷ vs) a s = omega (arith, length-append s.0 s.1, ap length s.4, law.nonempty v s.0 s.2, count_items f law vs s.1 s.3)

canonical_items : {V : Type 0} (f : Format V) → IsLawful f → (vs : List V) → AllByRecursion f.IsValue vs → SpellsItems f.grammar vs (flat_map f.canon vs)
canonical_items f law [] h = refl
canonical_items f law (v ∷ vs) h = (f.canon v, flat_map f.canon vs, law.canonical v h.0, canonical_items f law vs h.1, flat_map-cons f.canon v vs)

pub items_values : {V : Type 0} (f : Format V) → IsLawful f → (vs : List V) (a : List ℕ) → SpellsItems f.grammar vs a → length a ≤ input_limit → AllByRecursion f.IsValue vs
items_values f law [] a s h = tt
items_values f law (v ∷ vs) a s h =
    (law.a_value v s.0 s.2 (omega (arith, length-append s.0 s.1, ap length s.4)), items_values f law vs s.1 s.3 (omega (arith, length-append s.0 s.1, ap length s.4)))

array_takes : {V : Type 0} (f : Format V) → IsLawful f → (bytes : List ℕ) (v : Option (List V)) (rest : List ℕ) → IsBytes bytes → array_at f.grammar bytes ≡ Some (v, rest) → Takes (array f).grammar bytes v rest
unfolding array
array_takes {V} f law bytes v rest fits e =
    let one = bind_some ((unsigned w32).grammar.front bytes) (λ n. counted_items_at f.grammar n.0 n.1) (v, rest) e in
    let n = one.0.0 in
    let after = one.0.1 in
    let c = count_takes bytes n after fits one.1 in
    elim (chosen (eqb n 0xffff_ffff) _ _ (Some (v, rest)) one.2) [
      | inl h ↦ takes_as (array f).grammar bytes null None v after rest h.1 (c.1 ∙ ap (λ (k : ℕ). to_le_bytes w32 k ++ after) (eqb-true _ _ h.0)) refl
      | inr h ↦
          let g = passed (ltb longest n) _ (v, rest) h.1 in
          let k = passed (ltb (length after) n) _ (v, rest) g.1 in
          let items = bind_some (items_at f.grammar n after) (λ vs. Some (Some vs.0, vs.1)) (v, rest) k.1 in
          let t = items_take f.grammar law.reads n after items.0.0 items.0.1 (IsBytes-rest bytes (to_le_bytes w32 n) after fits c.1) items.1 in
          takes_as (array f).grammar bytes (to_le_bytes w32 n ++ t.text) (Some items.0.0) v items.0.1 rest items.2
          (c.1 ∙ ap (λ (l : List ℕ). to_le_bytes w32 n ++ l) t.parts ∙ sym (append_assoc (to_le_bytes w32 n) t.text items.0.1))
          (omega (arith, ltb-false _ _ g.0, t.counted), t.text, t.spelled, ap (λ (k : ℕ). to_le_bytes w32 k ++ t.text) (sym t.counted))
    ]

array_again : {V : Type 0} (f : Format V) → IsLawful f → (v : Option (List V)) (a rest : List ℕ) → SpellsArray f.grammar v a → array_at f.grammar (a ++ rest) ≡ Some (v, rest)
array_again {V} f law None a rest s = ap (λ (l : List ℕ). array_at f.grammar (l ++ rest)) s ∙ rw (count_again 4294967295 rest (lit< tt)) refl
array_again {V} f law (Some vs) a rest s =
    let other : eqb (length vs) 0xffff_ffff ≡ false = ne_eqb _ _ (λ e. omega (arith, e, s.0)) in
    let short : ltb longest (length vs) ≡ false = le-ltb _ _ s.0 in
    let long : ltb (length (s.1 ++ rest)) (length vs) ≡ false = le-ltb _ _ (omega (arith, length-append s.1 rest, count_items f law vs s.1 s.2)) in
    ap (λ (l : List ℕ). array_at f.grammar (l ++ rest)) s.3 ∙ ap (array_at f.grammar) (append_assoc (to_le_bytes w32 (length vs)) s.1 rest)
    ∙ rw (count_again (length vs) (s.1 ++ rest) (omega (arith, s.0)), other, short, long, items_again f.grammar law.reads vs s.1 rest s.2) refl

nonempty_array : {V : Type 0} (f : Format V) (v : Option (List V)) (a : List ℕ) → SpellsArray f.grammar v a → 1 ≤ length a
nonempty_array f None a s = omega (arith, ap length s)
nonempty_array f (Some vs) a s = omega (arith, ap length s.3)

canonical_array : {V : Type 0} (f : Format V) → IsLawful f → (v : Option (List V)) → IsArray f v → SpellsArray f.grammar v (canon_array f v)
canonical_array f law None h = refl
canonical_array f law (Some vs) h = (h.0, flat_map f.canon vs, canonical_items f law vs h.2, refl)

shortest_array : {V : Type 0} (f : Format V) → IsLawful f → (v : Option (List V)) (a : List ℕ) → SpellsArray f.grammar v a → length (canon_array f v) ≤ length a
shortest_array f law None a s = omega (arith, ap length s)
shortest_array f law (Some vs) a s = omega (arith, ap length s.3, shortest_items f law vs s.1 s.2)

array_value : {V : Type 0} (f : Format V) → IsLawful f → (v : Option (List V)) (a : List ℕ) → SpellsArray f.grammar v a → length a ≤ input_limit → IsArray f v
array_value f law None a s h = tt
array_value f law (Some vs) a s h =
    let short : length s.1 ≤ input_limit = omega (arith, ap length s.3) in
    (s.0, omega (arith, shortest_items f law vs s.1 s.2), items_values f law vs s.1 s.2 short)

pub lawful_array : {V : Type 0} (f : Format V) → IsLawful f → IsLawful (array f)
unfolding array
lawful_array f law = record {
  reads = record { takes = array_takes f law; again = array_again f law };
  nonempty = nonempty_array f;
  canonical = canonical_array f law;
  shortest = shortest_array f law;
  a_value = array_value f law;
}
