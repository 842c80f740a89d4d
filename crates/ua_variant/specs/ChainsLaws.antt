-- The laws of grammars made of others.
use Rattle.std.proofs.Common.{◌≡◌, ◌≤◌, ◌<◌, ◌+◌, ℕ, Bool, false, cond, ltb, eqb, List, [], ◌∷◌, ◌++◌, length, Option, Some, None, refl, sym, ap, ◌∙◌, arith, append_assoc, length-append, inl, inr, lit<}
use Rattle.std.specs.Int.{w32, to_le_bytes}
use Rattle.std.proofs.lemmas.Bool.{ltb-false, le-ltb, eqb-true, ne_eqb}
use Rattle.ua_value.specs.Format.{◌>>=◌, IsBytes, Grammar, Takes, IsGrammar}
use Rattle.ua_value.specs.Lists.{IsBytes-rest, bind_some, chosen, passed, guarded}
use Rattle.ua_value.specs.Number.{unsigned}
use Rattle.ua_value.specs.SequenceLaws.{takes_as}
use Rattle.ua_value.specs.Text as text
use Rattle.ua_value.specs.Text.{longest}
use Rattle.ua_value.specs.TextLaws.{count_takes, count_again}
use Rattle.ua_value.specs.Array.{SpellsItems, SpellsArray, items_at, counted_items_at, array_at}
use Rattle.ua_value.specs.ArrayLaws.{items_take, items_again}
use Rattle.ua_variant.specs.Chains.{after, passing, list}

pub after_reads : {V W : Type 0} (f : Grammar V) (g : V → Grammar W) → IsGrammar f → ((v : V) → IsGrammar (g v)) → IsGrammar (after f g)
after_reads {V} {W} f g law also = record {
  takes = λ bytes v rest fits e.
      let one = bind_some (f.front bytes) (λ x. (g x.0).front x.1 >>= λ y. Some ((x.0, y.0), y.1)) (v, rest) e in
      let two = bind_some ((g one.0.0).front one.0.1) (λ y. Some ((one.0.0, y.0), y.1)) (v, rest) one.2 in
      let s = law.takes bytes one.0.0 one.0.1 fits one.1 in
      let t = (also one.0.0).takes one.0.1 two.0.0 two.0.1 (IsBytes-rest bytes s.text one.0.1 fits s.parts) two.1 in
      takes_as (after f g) bytes (s.text ++ t.text) (one.0.0, two.0.0) v two.0.1 rest two.2
      (s.parts ∙ ap (λ (l : List ℕ). s.text ++ l) t.parts ∙ sym (append_assoc s.text t.text two.0.1))
      (s.text, t.text, s.spelled, t.spelled, refl);
  again = λ v a rest s.
      let cut : a ++ rest ≡ s.0 ++ (s.1 ++ rest) = ap (λ (l : List ℕ). l ++ rest) s.4 ∙ append_assoc s.0 s.1 rest in
      ap (λ (l : List ℕ). f.front l >>= λ x. ((g x.0).front x.1 >>= λ y. let r : Option ((V × W) × List ℕ) = Some ((x.0, y.0), y.1) in r)) cut ∙ rw (law.again v.0 s.0 (s.1 ++ rest) s.2, (also v.0).again v.1 s.1 rest s.3) refl;
}

pub passing_reads : {V : Type 0} (test : V → Bool) (g : Grammar V) → IsGrammar g → IsGrammar (passing test g)
passing_reads {V} test g law = record {
  takes = λ bytes v rest fits e.
      let one = bind_some (g.front bytes) (λ x. cond (test x.0) (Some x) None) (v, rest) e in
      let two = guarded (test one.0.0) (Some one.0) (v, rest) one.2 in
      let s = law.takes bytes one.0.0 one.0.1 fits one.1 in
      takes_as (passing test g) bytes s.text one.0.0 v one.0.1 rest two.1 s.parts (two.0, s.spelled);
  again = λ v a rest s. rw (law.again v a rest s.1, s.0) refl;
}

-- ---- lists

count_items : {V : Type 0} (g : Grammar V) → ((v : V) (a : List ℕ) → g.spells v a → 1 ≤ length a) → (vs : List V) (a : List ℕ) → SpellsItems g vs a → length vs ≤ length a
count_items g some [] a s = omega arith
count_items g some (v ∷ vs) a s = omega (arith, length-append s.0 s.1, ap length s.4, some v s.0 s.2, count_items g some vs s.1 s.3)

list_takes : {V : Type 0} (g : Grammar V) → IsGrammar g → (bytes : List ℕ) (v : Option (List V)) (rest : List ℕ) → IsBytes bytes → array_at g bytes ≡ Some (v, rest) → Takes (list g) bytes v rest
list_takes {V} g law bytes v rest fits e =
    let one = bind_some ((unsigned w32).grammar.front bytes) (λ n. counted_items_at g n.0 n.1) (v, rest) e in
    let n = one.0.0 in
    let behind = one.0.1 in
    let c = count_takes bytes n behind fits one.1 in
    elim (chosen (eqb n 0xffff_ffff) _ _ (Some (v, rest)) one.2) [
      | inl h ↦ takes_as (list g) bytes text.null None v behind rest h.1 (c.1 ∙ ap (λ (k : ℕ). to_le_bytes w32 k ++ behind) (eqb-true _ _ h.0)) refl
      | inr h ↦
          let s = passed (ltb longest n) _ (v, rest) h.1 in
          let k = passed (ltb (length behind) n) _ (v, rest) s.1 in
          let items = bind_some (items_at g n behind) (λ vs. Some (Some vs.0, vs.1)) (v, rest) k.1 in
          let t = items_take g law n behind items.0.0 items.0.1 (IsBytes-rest bytes (to_le_bytes w32 n) behind fits c.1) items.1 in
          takes_as (list g) bytes (to_le_bytes w32 n ++ t.text) (Some items.0.0) v items.0.1 rest items.2
          (c.1 ∙ ap (λ (l : List ℕ). to_le_bytes w32 n ++ l) t.parts ∙ sym (append_assoc (to_le_bytes w32 n) t.text items.0.1))
          (omega (arith, ltb-false _ _ s.0, t.counted), t.text, t.spelled, ap (λ (k : ℕ). to_le_bytes w32 k ++ t.text) (sym t.counted))
    ]

list_again : {V : Type 0} (g : Grammar V) → IsGrammar g → ((v : V) (a : List ℕ) → g.spells v a → 1 ≤ length a) → (v : Option (List V)) (a rest : List ℕ) → SpellsArray g v a → array_at g (a ++ rest) ≡ Some (v, rest)
list_again {V} g law some None a rest s = ap (λ (l : List ℕ). array_at g (l ++ rest)) s ∙ rw (count_again 4294967295 rest (lit< tt)) refl
list_again {V} g law some (Some vs) a rest s =
    let other : eqb (length vs) 0xffff_ffff ≡ false = ne_eqb _ _ (λ e. omega (arith, e, s.0)) in
    let short : ltb longest (length vs) ≡ false = le-ltb _ _ s.0 in
    let long : ltb (length (s.1 ++ rest)) (length vs) ≡ false = le-ltb _ _ (omega (arith, length-append s.1 rest, count_items g some vs s.1 s.2)) in
    ap (λ (l : List ℕ). array_at g (l ++ rest)) s.3 ∙ ap (array_at g) (append_assoc (to_le_bytes w32 (length vs)) s.1 rest)
    ∙ rw (count_again (length vs) (s.1 ++ rest) (omega (arith, s.0)), other, short, long, items_again g law vs s.1 rest s.2) refl

pub list_reads : {V : Type 0} (g : Grammar V) → IsGrammar g → ((v : V) (a : List ℕ) → g.spells v a → 1 ≤ length a) → IsGrammar (list g)
list_reads g law some = record { takes = list_takes g law; again = list_again g law some }
