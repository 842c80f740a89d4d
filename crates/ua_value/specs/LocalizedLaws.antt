use Rattle.std.proofs.Common.{◌≤◌, ◌+◌, ℕ, Bool, true, false, ltb, List, [], ◌∷◌, ◌++◌, length, Option, Some, None, refl, sym, ap, arith, length-append, subst, lit<}
use Rattle.ua_value.specs.declared.localized.LocalizedText.{LocalizedText}
use Rattle.ua_value.specs.Format.{IsGrammar, IsLawful, input_limit}
use Rattle.ua_value.specs.Text.{string, bytes_of}
use Rattle.ua_value.specs.TextLaws.{lawful_string}
use Rattle.ua_value.specs.Sequence.{both, made, never, either, part, headed}
use Rattle.ua_value.specs.SequenceLaws.{both_reads, made_reads, never_reads, either_reads, part_reads, headed_reads}
use Rattle.ua_value.specs.Localized.{has, localized_of, localized_behind, is_there, canon_part, flag, localized_text}

pub localized_reads : IsGrammar (headed localized_behind)
localized_reads = headed_reads localized_behind (λ mask. either_reads (ltb mask 4) _ _ (made_reads localized_of _ (both_reads _ _ (part_reads (has mask 1) None string.grammar lawful_string.reads) (part_reads (has mask 2) None string.grammar lawful_string.reads))) never_reads)

pub shortest_part : (p : Bool) (v : Option (List ℕ)) (a : List ℕ) → (part p None string.grammar).spells v a → length (canon_part v) ≤ length a
shortest_part p None a s = omega arith
shortest_part false (Some v) a s = absurd cc
shortest_part true (Some v) a s = lawful_string.shortest (Some v) a s

pub part_value : (p : Bool) (v : Option (List ℕ)) (a : List ℕ) → (part p None string.grammar).spells v a → length a ≤ input_limit → string.IsValue v
unfolding bytes_of
part_value p None a s h = tt
part_value false (Some v) a s h = absurd cc
part_value true (Some v) a s h = s.0

canonical_localized : (l t : Option (List ℕ)) → string.IsValue l → string.IsValue t → (headed localized_behind).spells (record { locale = l; text = t }) ((flag (is_there l) 1 + flag (is_there t) 2) ∷ (canon_part l ++ canon_part t))
canonical_localized None None h k = (0, [], lit< tt, ((None, None), ([], [], (refl, refl), (refl, refl), refl), refl), refl)
canonical_localized (Some l) None h k = (1, canon_part (Some l) ++ [], lit< tt, ((Some l, None), (canon_part (Some l), [], lawful_string.canonical (Some l) h, (refl, refl), refl), refl), refl)
canonical_localized None (Some t) h k = (2, canon_part (Some t), lit< tt, ((None, Some t), ([], canon_part (Some t), (refl, refl), lawful_string.canonical (Some t) k, refl), refl), refl)
canonical_localized (Some l) (Some t) h k = (3, canon_part (Some l) ++ canon_part (Some t), lit< tt, ((Some l, Some t), (canon_part (Some l), canon_part (Some t), lawful_string.canonical (Some l) h, lawful_string.canonical (Some t) k, refl), refl), refl)

-- the parts behind a mask
shorter_behind : (b : Bool) (mask : ℕ) (v : LocalizedText) (x : List ℕ) → (either b (made localized_of (both (part (has mask 1) None string.grammar) (part (has mask 2) None string.grammar))) never).spells v x → length (canon_part v.locale ++ canon_part v.text) ≤ length x
shorter_behind false mask v x s = absurd s
shorter_behind true mask v x s =
    let P : LocalizedText → Type 0 = λ w. length (canon_part w.locale ++ canon_part w.text) ≤ length x in
    subst P (sym s.2) (omega (arith, ap length s.1.4, shortest_part (has mask 1) s.0.0 s.1.0 s.1.2, shortest_part (has mask 2) s.0.1 s.1.1 s.1.3, length-append s.1.0 s.1.1, length-append (canon_part s.0.0) (canon_part s.0.1)))

value_behind : (b : Bool) (mask : ℕ) (v : LocalizedText) (x : List ℕ) → length x ≤ input_limit → (either b (made localized_of (both (part (has mask 1) None string.grammar) (part (has mask 2) None string.grammar))) never).spells v x → string.IsValue v.locale × string.IsValue v.text
value_behind false mask v x h s = absurd s
value_behind true mask v x h s =
    let P : LocalizedText → Type 0 = λ w. string.IsValue w.locale × string.IsValue w.text in
    subst P (sym s.2) (part_value (has mask 1) s.0.0 s.1.0 s.1.2 (omega (arith, ap length s.1.4, length-append s.1.0 s.1.1)), part_value (has mask 2) s.0.1 s.1.1 s.1.3 (omega (arith, ap length s.1.4, length-append s.1.0 s.1.1)))

pub lawful_localized : IsLawful localized_text
unfolding localized_text
lawful_localized = record {
  reads = localized_reads;
  nonempty = λ v a s. omega (arith, ap length s.4);
  canonical = λ v h. canonical_localized v.locale v.text h.0 h.1;
  shortest = λ v a s. omega (arith, ap length s.4, shorter_behind (ltb s.0 4) s.0 v s.1 s.3);
  a_value = λ v a s h. value_behind (ltb s.0 4) s.0 v s.1 (omega (arith, ap length s.4)) s.3;
}
