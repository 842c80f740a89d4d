-- Values of as many bytes each.
use Rattle.std.proofs.Common.{◌≡◌, ◌<◌, ◌+◌, ◌*◌, ◌∙◌, ℕ, List, [], ◌∷◌, length, map, Option, Some, None, true, false, refl, sym, ap, subst, arith, length-append}
use Rattle.std.specs.Prelude.{IfSome}
use Rattle.std.proofs.lemmas.List.{length-map}
use Rattle.std.specs.Int.{w32, to_le_bytes}
use Rattle.std.specs.Global.{Vec}
use Rattle.ua_value.specs.Number.{signed, unsigned, boolean as truth}
use Rattle.ua_value.specs.Bits.{float_bits, double_bits}
use Rattle.ua_value.specs.Date.{date_time as moment}
use Rattle.ua_value.specs.Status.{status_code as status}
use Rattle.ua_variant.specs.Kinds.{Plain, boolean, sbyte, byte, int16, uint16, int32, uint32, int64, uint64, float, double, string, date_time, guid, byte_string, xml_element, node_id, expanded_node_id, status_code, qualified_name, localized_text, extension_object, Kind, Payload, format_of, plain_width, width}
use Rattle.ua_variant.specs.Values.{Element, leaf, variant, data_value, info, kind, AllOf, items_of}
use Rattle.ua_variant.specs.Spelling.{element_canon, items_canon}
use Rattle.ua_variant.specs.Lists.{canon_of_items, canon_of_list}
use Rattle.ua_variant.specs.declared.variant.Element as code
use Rattle.ua_variant.specs.View.{element, items_in}

leaf_width : (p : Plain) (v : Payload p) → 0 < plain_width p → length ((format_of p).canon v) ≡ plain_width p
unfolding signed unsigned truth float_bits double_bits moment status
leaf_width boolean true h = refl
leaf_width boolean false h = refl
leaf_width sbyte v h = refl
leaf_width byte v h = refl
leaf_width int16 v h = refl
leaf_width uint16 v h = refl
leaf_width int32 v h = refl
leaf_width uint32 v h = refl
leaf_width int64 v h = refl
leaf_width uint64 v h = refl
leaf_width float v h = refl
leaf_width double v h = refl
leaf_width string v h = absurd (omega (arith, h))
leaf_width date_time v h = refl
leaf_width guid v h = absurd (omega (arith, h))
leaf_width byte_string v h = absurd (omega (arith, h))
leaf_width xml_element v h = absurd (omega (arith, h))
leaf_width node_id v h = absurd (omega (arith, h))
leaf_width expanded_node_id v h = absurd (omega (arith, h))
leaf_width status_code v h = refl
leaf_width qualified_name v h = absurd (omega (arith, h))
leaf_width localized_text v h = absurd (omega (arith, h))
leaf_width extension_object v h = absurd (omega (arith, h))

own_width : (e : Element) → 0 < width (kind e) → length (element_canon e) ≡ width (kind e)
own_width (leaf p v) h = leaf_width p v h
own_width (variant v) h = absurd (omega (arith, h))
own_width (data_value d) h = absurd (omega (arith, h))
own_width (info i) h = absurd (omega (arith, h))

element_width : (k : Kind) (e : Element) → kind e ≡ k → 0 < width k → length (element_canon e) ≡ width k
element_width k e same h = subst (λ (j : Kind). 0 < width j → length (element_canon e) ≡ width j) same (own_width e) h

pub all_width : (k : Kind) (es : List Element) → 0 < width k → AllOf k (items_of es) → length (canon_of_items es) ≡ width k * length es
all_width k [] h all = omega arith
all_width k (e ∷ es) h all =
    let one = element_width k e all.0 h in
    let others = all_width k es h all.1 in
    let parts = length-append (element_canon e) (items_canon (items_of es)) in
    let more : width k * length (e ∷ es) ≡ width k + width k * length es = omega arith in
    parts ∙ rw (one, others) (sym more)

abbrev list_or : Option (List Element) → List Element → List Element
list_or None other = other
list_or (Some l) other = l

-- the length of a list whose elements have as many bytes each
list_width : (k : Kind) (w n : ℕ) (o : Option (List Element)) (es : List Element) → o ≡ Some es → IfSome o (λ l. AllOf k (items_of l)) → w ≡ width k → 0 < w → n ≡ length es → 4 + w * n ≡ length (canon_of_list o)
list_width k w n None es is all same some count = absurd cc
list_width k w n (Some l) es is all same some count =
    let listed : l ≡ es = ap (λ (x : Option (List Element)). list_or x l) is in
    let items : length (canon_of_items l) ≡ width k * length l = all_width k l (omega (arith, some, same)) all in
    let number : n ≡ length l = count ∙ ap length (sym listed) in
    let whole : w * n ≡ width k * length l = rw (same, number) refl in
    omega (arith, whole, items, length-append (to_le_bytes w32 (length l)) (canon_of_items l))

pub list_of : (k : Kind) (w n : ℕ) (o : Option (Vec code.Element)) (es : Vec code.Element) → o ≡ Some es → IfSome (items_in o) (λ l. AllOf k (items_of l)) → w ≡ width k → 0 < w → n ≡ length es.items → 4 + w * n ≡ length (canon_of_list (items_in o))
list_of k w n o es is all same some count =
    list_width k w n (items_in o) (map element es.items) (ap items_in is) all same some (count ∙ sym (length-map es.items element))
