-- Codes of the values, by which a proof tells two apart.
use Rattle.std.specs.Prelude.{◌≡◌, ◌⊎◌, ℕ, ℤ, List, Option, Some, refl}
use Rattle.std.proofs.Common.{sym, ap, subst, ◌∙◌, inl, inr}
use Rattle.std.specs.Coded.{Coded, code_by, coded×, coded_ℕ, coded_ℤ, coded_bool, coded⊎, coded_list, coded_option}
use base.Stored.{coded_unit, Gv, gnil, gnum, gcons, num}
use Rattle.ua_value.specs.Codes.{text_coded, float_coded, double_coded, date_coded, status_coded, guid_coded, node_coded, expanded_coded, name_coded, localized_coded}
use Rattle.ua_value.specs.declared.node.NodeId.{NodeId}
use Rattle.ua_variant.specs.declared.extension.ExtensionBody.{ExtensionBody}
use Rattle.ua_variant.specs.declared.extension.ExtensionBody.TheVariants as bodies
use Rattle.ua_variant.specs.declared.extension.ExtensionObject.{ExtensionObject}
use Rattle.ua_variant.specs.declared.stamps.Stamps.{Stamps}
use Rattle.ua_variant.specs.Kinds as kinds
use Rattle.ua_variant.specs.Kinds.{Plain, Kind, Payload, kind_number, kind_named, numbered, plain}
use Rattle.ua_variant.specs.DiagnosticCode as diagnostic_code
use Rattle.ua_variant.specs.Stamps.{Row, row_of, of_row}
use Rattle.ua_variant.specs.Values.{Variant, null, one, null_array, many, Element, leaf, variant, data_value, info, Items, no_items, item, DataValue, without, with_value}

abbrev Bodies : Type 0
Bodies = Unit {0} ⊎ (Option (List ℕ) ⊎ Option (List ℕ))

abbrev of_body : ExtensionBody → Bodies
of_body bodies.None = inl tt
of_body (bodies.Bytes v) = inr (inl v)
of_body (bodies.Xml v) = inr (inr v)

abbrev body_of : Bodies → ExtensionBody
body_of (inl u) = bodies.None
body_of (inr (inl v)) = bodies.Bytes v
body_of (inr (inr v)) = bodies.Xml v

body_back : (b : ExtensionBody) → body_of (of_body b) ≡ b
body_back bodies.None = refl
body_back (bodies.Bytes v) = refl
body_back (bodies.Xml v) = refl

abbrev extension_coded : Coded ExtensionObject
extension_coded = code_by (NodeId × Bodies) (coded× node_coded (coded⊎ coded_unit (coded⊎ text_coded text_coded))) (λ e. (e.type_id, of_body e.body)) (λ p. record { type_id = p.0; body = body_of p.1 })
    (λ e. let made : Bodies → ExtensionObject = λ b. record { type_id = e.type_id; body = body_of b } in ap (λ (b : ExtensionBody). let r : ExtensionObject = record { type_id = e.type_id; body = b } in r) (body_back e.body))

pub coded_of : (p : Plain) → Coded (Payload p)
coded_of kinds.boolean = coded_bool
coded_of kinds.sbyte = coded_ℤ
coded_of kinds.byte = coded_ℕ
coded_of kinds.int16 = coded_ℤ
coded_of kinds.uint16 = coded_ℕ
coded_of kinds.int32 = coded_ℤ
coded_of kinds.uint32 = coded_ℕ
coded_of kinds.int64 = coded_ℤ
coded_of kinds.uint64 = coded_ℕ
coded_of kinds.float = float_coded
coded_of kinds.double = double_coded
coded_of kinds.string = text_coded
coded_of kinds.date_time = date_coded
coded_of kinds.guid = guid_coded
coded_of kinds.byte_string = text_coded
coded_of kinds.xml_element = text_coded
coded_of kinds.node_id = node_coded
coded_of kinds.expanded_node_id = expanded_coded
coded_of kinds.status_code = status_coded
coded_of kinds.qualified_name = name_coded
coded_of kinds.localized_text = localized_coded
coded_of kinds.extension_object = extension_coded

abbrev pub lengths_coded : Coded (Option (List ℤ))
lengths_coded = coded_option (coded_list coded_ℤ)

abbrev pub stamps_coded : Coded Stamps
stamps_coded = code_by Row (coded× (coded_option status_coded) (coded× (coded_option date_coded) (coded× (coded_option coded_ℕ) (coded× (coded_option date_coded) (coded_option coded_ℕ))))) row_of of_row (λ _. refl)

some_kind : (j k : Kind) → let s : Option Kind = Some j in let t : Option Kind = Some k in s ≡ t → j ≡ k
some_kind j k e = cc

-- no two kinds have one number
pub kind_inj : (j k : Kind) → kind_number j ≡ kind_number k → j ≡ k
kind_inj j k e = some_kind j k (sym (numbered j).named ∙ ap kind_named e ∙ (numbered k).named)

plain_inj : (p q : Plain) → kind_number (plain p) ≡ kind_number (plain q) → p ≡ q
plain_inj p q e = let k : plain p ≡ plain q = kind_inj (plain p) (plain q) e in cc

abbrev mutual
  pub code : Variant → Gv
  code null = gnil
  code (one e) = gcons (gnum 1) (element_code e)
  code (null_array k ds) = gcons (gnum 3) (gcons (gnum (kind_number k)) (lengths_coded.code ds))
  code (many k es ds) = gcons (gnum 2) (gcons (gnum (kind_number k)) (gcons (items_code es) (lengths_coded.code ds)))

  pub element_code : Element → Gv
  element_code (leaf p v) = gcons (gnum 0) (gcons (gnum (kind_number (plain p))) ((coded_of p).code v))
  element_code (variant v) = gcons (gnum 1) (code v)
  element_code (data_value d) = gcons (gnum 2) (data_code d)
  element_code (info i) = gcons (gnum 3) (diagnostic_code.code i)

  pub items_code : Items → Gv
  items_code no_items = gnil
  items_code (item e es) = gcons (element_code e) (items_code es)

  pub data_code : DataValue → Gv
  data_code (without s) = gcons gnil (stamps_coded.code s)
  data_code (with_value v s) = gcons (gcons gnil (code v)) (stamps_coded.code s)

abbrev fst : Gv → Gv
fst gnil = gnil
fst (gnum n) = gnil
fst (gcons a b) = a

abbrev snd : Gv → Gv
snd gnil = gnil
snd (gnum n) = gnil
snd (gcons a b) = b

leaf_inj : (p q : Plain) → p ≡ q → (a : Payload p) (b : Payload q) → (coded_of p).code a ≡ (coded_of q).code b → leaf p a ≡ leaf q b
leaf_inj p q e a =
    subst (λ (r : Plain). (b : Payload r) → (coded_of p).code a ≡ (coded_of r).code b → leaf p a ≡ leaf r b) e (λ b h. ap (leaf p) ((coded_of p).inj a b h))

mutual
  pub inj : (x y : Variant) → code x ≡ code y → x ≡ y
  inj null null e = refl
  inj (one a) (one b) e = ap one (inj_element a b (ap snd e))
  inj (null_array j cs) (null_array k ds) e =
      let kinds = kind_inj j k (ap (λ g. num (fst (snd g))) e) in
      let dims = lengths_coded.inj cs ds (ap (λ g. snd (snd g)) e) in
      cc
  inj (many j as_ cs) (many k bs ds) e =
      let kinds = kind_inj j k (ap (λ g. num (fst (snd g))) e) in
      let items = inj_items as_ bs (ap (λ g. fst (snd (snd g))) e) in
      let dims = lengths_coded.inj cs ds (ap (λ g. snd (snd (snd g))) e) in
      cc
  inj _ _ e = cc

  pub inj_element : (x y : Element) → element_code x ≡ element_code y → x ≡ y
  inj_element (leaf p a) (leaf q b) e = leaf_inj p q (plain_inj p q (ap (λ g. num (fst (snd g))) e)) a b (ap (λ g. snd (snd g)) e)
  inj_element (variant a) (variant b) e = ap variant (inj a b (ap snd e))
  inj_element (data_value a) (data_value b) e = ap data_value (inj_data a b (ap snd e))
  inj_element (info a) (info b) e = ap info (diagnostic_code.inj a b (ap snd e))
  inj_element _ _ e = cc

  pub inj_items : (x y : Items) → items_code x ≡ items_code y → x ≡ y
  inj_items no_items no_items e = refl
  inj_items (item a as_) (item b bs) e =
      let heads = inj_element a b (ap fst e) in
      let tails = inj_items as_ bs (ap snd e) in
      cc
  inj_items _ _ e = cc

  pub inj_data : (x y : DataValue) → data_code x ≡ data_code y → x ≡ y
  inj_data (without a) (without b) e = ap without (stamps_coded.inj a b (ap snd e))
  inj_data (with_value v a) (with_value w b) e =
      let rest = stamps_coded.inj a b (ap snd e) in
      let values = inj v w (ap (λ g. snd (fst g)) e) in
      cc
  inj_data _ _ e = cc

abbrev pub variant_coded : Coded Variant
variant_coded = record { code = code; inj = inj }

abbrev pub data_coded : Coded DataValue
data_coded = record { code = data_code; inj = inj_data }
