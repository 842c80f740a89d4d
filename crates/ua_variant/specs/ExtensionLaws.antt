-- The laws of an ExtensionObject.
use Rattle.std.proofs.Common.{◌≤◌, ℕ, suc, List, [], length, Bool, true, false, Option, refl, sym, ap, subst, arith, lit<}
use Rattle.std.specs.Prelude.{◌==◌}
use Rattle.ua_value.specs.Format.{IsGrammar, IsLawful, input_limit}
use Rattle.ua_value.specs.Text.{xml_element, byte_string}
use Rattle.ua_value.specs.TextLaws.{lawful_xml_element, lawful_byte_string}
use Rattle.ua_value.specs.NodeLaws.{lawful_node}
use Rattle.ua_value.specs.Sequence.{made, never, absent, either, headed}
use Rattle.ua_value.specs.SequenceLaws.{made_reads, never_reads, absent_reads, either_reads, headed_reads, lawful_pair, lawful_by}
use Rattle.ua_variant.specs.declared.extension.ExtensionBody.{ExtensionBody}
use Rattle.ua_variant.specs.declared.extension.ExtensionBody.TheVariants as bodies
use Rattle.ua_variant.specs.Extension.{bytes_body, xml_body, body_behind, canon_body, IsExtensionBody, extension_body, extension_object}

body_reads : (k : ℕ) → IsGrammar (body_behind k)
body_reads k =
    either_reads (k == 0) _ _ (absent_reads bodies.None)
    (either_reads (k == 1) _ _ (made_reads bytes_body _ lawful_byte_string.reads)
    (either_reads (k == 2) _ _ (made_reads xml_body _ lawful_xml_element.reads) never_reads))

-- what holds of each body with its bytes, holds of each form
in_each_form : (P : ExtensionBody → List ℕ → Type 0)
    → P bodies.None []
    → ((v : Option (List ℕ)) (x : List ℕ) → byte_string.grammar.spells v x → P (bytes_body v) x)
    → ((v : Option (List ℕ)) (x : List ℕ) → xml_element.grammar.spells v x → P (xml_body v) x)
    → (a b c : Bool) (v : ExtensionBody) (x : List ℕ)
    → (either a (absent bodies.None) (either b (made bytes_body byte_string.grammar) (either c (made xml_body xml_element.grammar) never))).spells v x → P v x
in_each_form P none bytes xml true b c v x s = subst (λ (w : ExtensionBody). P w x) (sym s.0) (subst (λ (l : List ℕ). P bodies.None l) (sym s.1) none)
in_each_form P none bytes xml false true c v x s = subst (λ (w : ExtensionBody). P w x) (sym s.2) (bytes s.0 x s.1)
in_each_form P none bytes xml false false true v x s = subst (λ (w : ExtensionBody). P w x) (sym s.2) (xml s.0 x s.1)
in_each_form P none bytes xml false false false v x s = absurd s

shorter_behind : (k : ℕ) (v : ExtensionBody) (x : List ℕ) → (body_behind k).spells v x → length (canon_body v) ≤ suc (length x)
shorter_behind k v x s = in_each_form (λ w x. length (canon_body w) ≤ suc (length x)) (omega arith)
    (λ v x s. omega (arith, lawful_byte_string.shortest v x s)) (λ v x s. omega (arith, lawful_xml_element.shortest v x s)) (k == 0) (k == 1) (k == 2) v x s

value_behind : (k : ℕ) (v : ExtensionBody) (x : List ℕ) → (body_behind k).spells v x → length x ≤ input_limit → IsExtensionBody v
value_behind k v x s = in_each_form (λ w x. length x ≤ input_limit → IsExtensionBody w) (λ h. tt)
    lawful_byte_string.a_value lawful_xml_element.a_value (k == 0) (k == 1) (k == 2) v x s

canonical_body : (v : ExtensionBody) → IsExtensionBody v → (headed body_behind).spells v (canon_body v)
canonical_body bodies.None h = (0, [], lit< tt, (refl, refl), refl)
canonical_body (bodies.Bytes v) h = (1, byte_string.canon v, lit< tt, (v, lawful_byte_string.canonical v h, refl), refl)
canonical_body (bodies.Xml v) h = (2, xml_element.canon v, lit< tt, (v, lawful_xml_element.canonical v h, refl), refl)

pub lawful_extension_body : IsLawful extension_body
unfolding extension_body
lawful_extension_body = record {
  reads = headed_reads body_behind body_reads;
  nonempty = λ v a s. omega (arith, ap length s.4);
  canonical = canonical_body;
  shortest = λ v a s. omega (arith, ap length s.4, shorter_behind s.0 v s.1 s.3);
  a_value = λ v a s h. value_behind s.0 v s.1 s.3 (omega (arith, ap length s.4));
}

pub lawful_extension_object : IsLawful extension_object
unfolding extension_object
lawful_extension_object = lawful_by _ _ _ (λ e. refl) (λ p. refl) (lawful_pair _ _ lawful_node lawful_extension_body)
