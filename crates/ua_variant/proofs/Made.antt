-- What the constructors make is a value.
use Rattle.std.proofs.Common.{◌≡◌, ◌≤◌, ◌<◌, ◌*◌, ℕ, ℤ, suc, List, [], ◌∷◌, Bool, true, false, length, Option, Some, None, refl, ap, subst, ◌∙◌, arith}
use Rattle.std.specs.Prelude.{◌&&◌, ◌==◌, IfSome}
use Rattle.std.proofs.lemmas.Bool.{and_parts, eqb-true}
use Rattle.ua_value.specs.Format.{input_limit}
use Rattle.ua_value.specs.Text.{longest}
use Rattle.ua_value.specs.Lists.{same_some}
use Rattle.ua_value.specs.Number.{signed}
use Rattle.ua_value.specs.NumberLaws.{wide_32}
use Rattle.std.specs.Int.{w32, cast_unsigned}
use Rattle.std.specs.List.{flat_map}
use Rattle.std.proofs.lemmas.List.{length-append}
use Rattle.std.proofs.lemmas.List.Concat.{flat_map-cons}
use Rattle.ua_variant.specs.Kinds.{Plain, Kind, plain, data_kind, variant_kind, info_kind, kind_number}
use Rattle.ua_variant.specs.Codes.{kind_inj}
use Rattle.ua_variant.specs.Values.{Element, leaf, variant, data_value, info, kind, depth, element_depth, items_depth, list_depth, items_of, count, AllOf, array_with, count_of, deepest}
use Rattle.ua_variant.specs.Spelling.{lengths, IsShape, AreSound, IsVariant}
use Rattle.ua_variant.specs.Lists.{IsShortList}
use Rattle.ua_variant.specs.Making.{are_of, are_all_of, has_shape}

all_of : (k : Kind) (es : List Element) → are_of k es ≡ true → AllOf k (items_of es)
all_of k [] h = tt
all_of k (e ∷ es) h =
    let b = and_parts (kind_number (kind e) == kind_number k) (are_of k es) h in
    (kind_inj (kind e) k (eqb-true _ _ b.0), all_of k es b.1)

count_items : (es : List Element) → count (items_of es) ≡ length es
count_items [] = refl
count_items (e ∷ es) = ap suc (count_items es)

shape_is : (n : ℕ) (ds : Option (List ℤ)) → has_shape n ds ≡ true → lengths.IsValue ds → IsShape ds n
shape_is n None h v = tt
shape_is n (Some ds) h v = (h, v)

pub array_value : (k : Kind) (o : Option (List Element)) (ds : Option (List ℤ)) → IsShortList o → are_all_of k o ≡ true → has_shape (count_of o) ds ≡ true → IfSome o (λ es. AreSound (items_of es)) → lengths.IsValue ds → list_depth o < deepest
    → IsVariant (array_with k o ds)
array_value k None ds short same shape sound v deep = record { sound = shape_is 0 ds shape v; depth = omega arith }
array_value k (Some es) ds short same shape sound v deep =
    let c = count_items es in
    record { sound = (omega (arith, short.0, c), short.1, all_of k es same, sound, rw c (shape_is (length es) ds shape v)); depth = omega arith }

-- ---- an array of plain values has no depth but its own

plain_one : (p : Plain) (e : Element) → kind e ≡ plain p → element_depth e ≡ 0
plain_one p (leaf q v) h = refl
plain_one p (variant v) h = absurd cc
plain_one p (data_value d) h = absurd cc
plain_one p (info i) h = absurd cc

plain_items : (p : Plain) (es : List Element) → AllOf (plain p) (items_of es) → items_depth (items_of es) ≡ 0
plain_items p [] h = refl
plain_items p (e ∷ es) h = rw (plain_one p e h.0, plain_items p es h.1) refl

pub plain_depth : (k : Kind) (o : Option (List Element)) (ds : Option (List ℤ)) → kind_number k ≤ 22 → IsVariant (array_with k o ds) → depth (array_with k o ds) ≡ 1
plain_depth (plain p) None ds few v = refl
plain_depth (plain p) (Some es) ds few v = ap suc (plain_items p es v.sound.2)
plain_depth data_kind o ds few v = absurd (omega arith)
plain_depth variant_kind o ds few v = absurd (omega arith)
plain_depth info_kind o ds few v = absurd (omega arith)

-- ---- dimensions in four bytes each

length_flat : (ds : List ℤ) → length (flat_map (signed w32).canon ds) ≡ 4 * length ds
unfolding signed
length_flat [] = refl
length_flat (d ∷ ds) = ap length (flat_map-cons (signed w32).canon d ds) ∙ length-append ((signed w32).canon d) (flat_map (signed w32).canon ds) ∙ omega (arith, length_flat ds, wide_32.len (cast_unsigned w32 d))

pub few_bytes : (ds : List ℤ) → length ds ≤ longest → length (flat_map (signed w32).canon ds) ≤ input_limit
few_bytes ds h = omega (arith, length_flat ds)

pub in_some : {A : Type 0} (P : A → Type 0) (o : Option A) (v : A) → o ≡ Some v → IfSome o P → P v
in_some P (Some w) v e h = subst P (same_some w v e) h
in_some P None v e h = absurd cc
