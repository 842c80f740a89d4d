-- The elements of an array in memory.
use Rattle.std.proofs.Common.{◌≡◌, ℕ, ℤ, true, zero, suc, ◌<◌, ◌≤◌, List, [], ◌∷◌, ◌++◌, map, length, get_or, Option, Some, None, refl, sym, ap, subst, ◌∙◌, append_assoc, arith, is_some}
use Rattle.std.specs.Prelude.{IfSome}
use Rattle.std.specs.List.{flat_map}
use Rattle.std.proofs.lemmas.List.Concat.{flat_map-cons}
use Rattle.ua_value.specs.Format.{AppendsPart}
use Rattle.ua_kind.specs.declared.kind.Kind as code_kind
use Rattle.ua_variant.specs.declared.variant.Element as code
use Rattle.ua_variant.specs.declared.variant.Elements as code_elements
use Rattle.ua_variant.specs.declared.variant.Body.{Body}
use Rattle.ua_variant.specs.declared.variant.Body.TheVariants as bodies
use Rattle.ua_variant.specs.Kinds.{Kind}
use Rattle.ua_variant.specs.Values.{Element, Variant, depth, element_depth, items_depth, list_depth, items_of, count, array_with, AllOf}
use Rattle.ua_variant.specs.Spelling.{canon, element_canon, shape_canon, head_of, IsVariant, IsSound}
use Rattle.ua_variant.specs.Lists.{canon_of_items, canon_of_list, IsShortList}
use Rattle.ua_variant.specs.View.{element, items_in, body_of, kind_of}
use Rattle.ua_variant.specs.Falls.{depth_of_array}

item_within : (es : List code.Element) (k : ℕ) (d : code.Element) → k < length es → element_depth (element (get_or es k d)) ≤ items_depth (items_of (map element es))
item_within [] k d h = absurd (omega arith)
item_within (e ∷ es) zero d h = omega arith
item_within (e ∷ es) (suc k) d h = omega (arith, item_within es k d (omega arith))

-- an element is no deeper than the list
pub this_within : (es : List code.Element) (k : ℕ) (e : code.Element) → k < length es → e ≡ get_or es k e → element_depth (element e) ≤ items_depth (items_of (map element es))
this_within es k e h is = omega (arith, item_within es k e h, ap (λ x. element_depth (element x)) is)

-- the canonical spelling of an element in memory
abbrev pub spelled : code.Element → List ℕ
spelled e = element_canon (element e)

pub canon_flat : (es : List code.Element) → canon_of_items (map element es) ≡ flat_map spelled es
canon_flat [] = refl
canon_flat (e ∷ es) = ap (λ b. spelled e ++ b) (canon_flat es) ∙ sym (flat_map-cons spelled e es)

-- ---- one behind another

pub first_part : (old new whole others : List ℕ) → AppendsPart old new whole → AppendsPart old new (whole ++ others)
first_part old new whole others p = record { part = p.part; missing = p.missing ++ others; appended = p.appended; begins = ap (λ (l : List ℕ). l ++ others) p.begins ∙ append_assoc p.part p.missing others }

pub later_part : (old between new first others : List ℕ) → between ≡ old ++ first → AppendsPart between new others → AppendsPart old new (first ++ others)
later_part old between new first others e p = record { part = first ++ p.part; missing = p.missing; appended = p.appended ∙ ap (λ (l : List ℕ). l ++ p.part) e ∙ append_assoc old first p.part; begins = ap (λ (l : List ℕ). first ++ l) p.begins ∙ sym (append_assoc first p.part p.missing) }

-- ---- an array

count_items : (es : List Element) → count (items_of es) ≡ length es
count_items [] = refl
count_items (e ∷ es) = ap suc (count_items es)

short_list : (k : Kind) (o : Option (List Element)) (ds : Option (List ℤ)) → IsSound (array_with k o ds) → IsShortList o
short_list k None ds h = tt
short_list k (Some es) ds h = (omega (arith, h.0, count_items es), h.1)

pub short : (b : Body) (k : code_kind.Kind) (es : code_elements.Elements) (ds : Option (List ℤ)) → b ≡ bodies.Array k es ds → IsVariant (body_of b) → IsShortList (items_in es.list)
short b k es ds e h = short_list (kind_of k) (items_in es.list) ds (subst (λ (x : Body). IsVariant (body_of x)) e h).sound

same_list : (k : Kind) (o : Option (List Element)) (ds : Option (List ℤ)) → IsSound (array_with k o ds) → IfSome o (λ es. AllOf k (items_of es))
same_list k None ds h = tt
same_list k (Some es) ds h = h.2

pub alike : (b : Body) (k : code_kind.Kind) (es : code_elements.Elements) (ds : Option (List ℤ)) → b ≡ bodies.Array k es ds → IsVariant (body_of b) → IfSome (items_in es.list) (λ l. AllOf (kind_of k) (items_of l))
alike b k es ds e h = same_list (kind_of k) (items_in es.list) ds (subst (λ (x : Body). IsVariant (body_of x)) e h).sound

list_canon : (k : Kind) (o : Option (List Element)) (ds : Option (List ℤ)) → canon (array_with k o ds) ≡ head_of k (is_some ds) true ∷ (canon_of_list o ++ shape_canon ds)
list_canon k None ds = refl
list_canon k (Some es) ds = rw (count_items es, append_assoc) refl

pub array_canon : (b : Body) (k : code_kind.Kind) (es : code_elements.Elements) (ds : Option (List ℤ)) → b ≡ bodies.Array k es ds → canon (body_of b) ≡ (head_of (kind_of k) (is_some ds) true ∷ []) ++ (canon_of_list (items_in es.list) ++ shape_canon ds)
array_canon b k es ds e = ap (λ (x : Body). canon (body_of x)) e ∙ list_canon (kind_of k) (items_in es.list) ds

pub array_depth : (b : Body) (k : code_kind.Kind) (es : code_elements.Elements) (ds : Option (List ℤ)) → b ≡ bodies.Array k es ds → depth (body_of b) ≡ suc (list_depth (items_in es.list))
array_depth b k es ds e = ap (λ (x : Body). depth (body_of x)) e ∙ depth_of_array (kind_of k) (items_in es.list) ds

-- ---- an array is put in three steps

module _ (b : Body) (k : code_kind.Kind) (es : code_elements.Elements) (ds : Option (List ℤ)) (is : b ≡ bodies.Array k es ds) (v : Variant) (view : body_of b ≡ v) (m : ℕ) (head : m ≡ head_of (kind_of k) (is_some ds) true) where
  whole : canon v ≡ (head_of (kind_of k) (is_some ds) true ∷ []) ++ (canon_of_list (items_in es.list) ++ shape_canon ds)
  whole = ap canon (sym view) ∙ array_canon b k es ds is

  first_put : (old between : List ℕ) → between ≡ old ++ m ∷ [] → between ≡ old ++ (head_of (kind_of k) (is_some ds) true ∷ [])
  first_put old between e = e ∙ ap (λ (n : ℕ). old ++ n ∷ []) head

  pub cut_in_list : (old between new : List ℕ) → between ≡ old ++ m ∷ [] → AppendsPart between new (canon_of_list (items_in es.list)) → AppendsPart old new (canon v)
  cut_in_list old between new e p =
      subst (λ (l : List ℕ). AppendsPart old new l) (sym whole)
      (later_part old between new (head_of (kind_of k) (is_some ds) true ∷ []) (canon_of_list (items_in es.list) ++ shape_canon ds) (first_put old between e) (first_part between new (canon_of_list (items_in es.list)) (shape_canon ds) p))

  pub cut_in_shape : (old between after new : List ℕ) → between ≡ old ++ m ∷ [] → after ≡ between ++ canon_of_list (items_in es.list) → AppendsPart after new (shape_canon ds) → AppendsPart old new (canon v)
  cut_in_shape old between after new e f p =
      subst (λ (l : List ℕ). AppendsPart old new l) (sym whole)
      (later_part old between new (head_of (kind_of k) (is_some ds) true ∷ []) (canon_of_list (items_in es.list) ++ shape_canon ds) (first_put old between e) (later_part between after new (canon_of_list (items_in es.list)) (shape_canon ds) f p))

  pub all_put : (old between after new : List ℕ) → between ≡ old ++ m ∷ [] → after ≡ between ++ canon_of_list (items_in es.list) → new ≡ after ++ shape_canon ds → new ≡ old ++ canon v
  all_put old between after new e f h =
      let one : List ℕ = head_of (kind_of k) (is_some ds) true ∷ [] in
      let two : List ℕ = canon_of_list (items_in es.list) in
      let three : List ℕ = shape_canon ds in
      let regrouped : ((old ++ one) ++ two) ++ three ≡ old ++ (one ++ (two ++ three)) = simp append_assoc in
      h ∙ ap (λ (l : List ℕ). l ++ three) (f ∙ ap (λ (l : List ℕ). l ++ two) (first_put old between e)) ∙ regrouped ∙ ap (λ (l : List ℕ). old ++ l) (sym whole)
