-- Codes of the values, for types that are made of them.
use Rattle.std.specs.Prelude.{◌≡◌, ◌⊎◌, ℕ, ℤ, Bool, List, Option, refl}
use Rattle.std.proofs.Common.{inl, inr}
use Rattle.std.specs.Coded.{Coded, code_by, coded×, coded⊎, coded_ℕ, coded_ℤ, coded_bool, coded_list, coded_option}
use Rattle.ua_value.specs.declared.bits.FloatBits.{FloatBits}
use Rattle.ua_value.specs.declared.bits.DoubleBits.{DoubleBits}
use Rattle.ua_value.specs.declared.date.DateTime.{DateTime}
use Rattle.ua_value.specs.declared.status.StatusCode.{StatusCode}
use Rattle.ua_value.specs.declared.guid.Guid.{Guid}
use Rattle.ua_value.specs.declared.node.NodeId.{NodeId}
use Rattle.ua_value.specs.declared.node.Identifier.{Identifier}
use Rattle.ua_value.specs.declared.node.Identifier.TheVariants as identifiers
use Rattle.ua_value.specs.declared.expanded.ExpandedNodeId.{ExpandedNodeId}
use Rattle.ua_value.specs.declared.localized.LocalizedText.{LocalizedText}
use Rattle.ua_value.specs.declared.names.QualifiedName.{QualifiedName}

abbrev pub boolean_coded : Coded Bool
boolean_coded = coded_bool

-- of the unsigned integers
abbrev pub number_coded : Coded ℕ
number_coded = coded_ℕ

-- of the signed integers
abbrev pub integer_coded : Coded ℤ
integer_coded = coded_ℤ

abbrev pub float_coded : Coded FloatBits
float_coded = code_by ℕ coded_ℕ (λ f. f.0) (λ n. record { 0 = n }) (λ _. refl)

abbrev pub double_coded : Coded DoubleBits
double_coded = code_by ℕ coded_ℕ (λ f. f.0) (λ n. record { 0 = n }) (λ _. refl)

abbrev pub date_coded : Coded DateTime
date_coded = code_by ℤ coded_ℤ (λ d. d.0) (λ z. record { 0 = z }) (λ _. refl)

abbrev pub status_coded : Coded StatusCode
status_coded = code_by ℕ coded_ℕ (λ s. s.0) (λ n. record { 0 = n }) (λ _. refl)

-- of texts, byte strings and XML elements
abbrev pub text_coded : Coded (Option (List ℕ))
text_coded = coded_option (coded_list coded_ℕ)

abbrev pub guid_coded : Coded Guid
guid_coded = code_by (ℕ × (ℕ × (ℕ × List ℕ))) (coded× coded_ℕ (coded× coded_ℕ (coded× coded_ℕ (coded_list coded_ℕ)))) (λ g. (g.data1, (g.data2, (g.data3, g.data4)))) (λ p. record { data1 = p.0; data2 = p.1.0; data3 = p.1.1.0; data4 = p.1.1.1 }) (λ _. refl)

abbrev pub Forms : Type 0
Forms = ℕ ⊎ (Option (List ℕ) ⊎ (Guid ⊎ Option (List ℕ)))

abbrev pub form_of : Identifier → Forms
form_of (identifiers.Numeric n) = inl n
form_of (identifiers.String t) = inr (inl t)
form_of (identifiers.Guid g) = inr (inr (inl g))
form_of (identifiers.Opaque t) = inr (inr (inr t))

abbrev pub of_form : Forms → Identifier
of_form (inl n) = identifiers.Numeric n
of_form (inr (inl t)) = identifiers.String t
of_form (inr (inr (inl g))) = identifiers.Guid g
of_form (inr (inr (inr t))) = identifiers.Opaque t

pub form_back : (i : Identifier) → of_form (form_of i) ≡ i
form_back (identifiers.Numeric n) = refl
form_back (identifiers.String t) = refl
form_back (identifiers.Guid g) = refl
form_back (identifiers.Opaque t) = refl

abbrev pub identifier_coded : Coded Identifier
identifier_coded = code_by Forms (coded⊎ coded_ℕ (coded⊎ text_coded (coded⊎ guid_coded text_coded))) form_of of_form form_back

abbrev pub node_coded : Coded NodeId
node_coded = code_by (ℕ × Identifier) (coded× coded_ℕ identifier_coded) (λ n. (n.namespace_index, n.identifier)) (λ p. record { namespace_index = p.0; identifier = p.1 }) (λ _. refl)

abbrev pub expanded_coded : Coded ExpandedNodeId
expanded_coded = code_by (NodeId × (Option (List ℕ) × ℕ)) (coded× node_coded (coded× text_coded coded_ℕ)) (λ n. (n.node_id, (n.namespace_uri, n.server_index))) (λ p. record { node_id = p.0; namespace_uri = p.1.0; server_index = p.1.1 }) (λ _. refl)

abbrev pub name_coded : Coded QualifiedName
name_coded = code_by (ℕ × Option (List ℕ)) (coded× coded_ℕ text_coded) (λ q. (q.namespace_index, q.name)) (λ p. record { namespace_index = p.0; name = p.1 }) (λ _. refl)

abbrev pub localized_coded : Coded LocalizedText
localized_coded = code_by (Option (List ℕ) × Option (List ℕ)) (coded× text_coded text_coded) (λ q. (q.locale, q.text)) (λ p. record { locale = p.0; text = p.1 }) (λ _. refl)
