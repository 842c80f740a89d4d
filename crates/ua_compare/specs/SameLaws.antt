-- Descriptions that are the same in each field are equal.
use Rattle.std.specs.Prelude.{◌≡◌, ℕ, ℤ, Bool, true, false, ◌&&◌, List, [], ◌∷◌, Option, Some, None, bytes_eq, refl}
use Rattle.std.proofs.Common.{ap}
use Rattle.std.specs.Option.{option_eq}
use Rattle.std.specs.Ordering.{int_eq}
use Rattle.std.specs.Cmp.Lexicographic.{pointwise}
use Rattle.std.proofs.lemmas.Bool.{false≢true}
use Rattle.std.proofs.lemmas.Bool.Decides.{Decides-eqb, Decides-int_eq}
use Rattle.std.proofs.lemmas.Slice.Eq.{bytes_eq-Decides}
use Rattle.ua_value.specs.declared.localized.LocalizedText.{LocalizedText}
use Rattle.ua_service.specs.declared.application.ApplicationDescription.{ApplicationDescription}
use Rattle.ua_service.specs.declared.endpoint.EndpointDescription.{EndpointDescription}
use Rattle.ua_service.specs.declared.endpoint.UserTokenPolicy.{UserTokenPolicy}
use Rattle.ua_compare.specs.Same.{same_text, same_texts, same_name, same_bytes, same_application, same_token, same_tokens, same_endpoint}

both : (a b : Bool) → (a && b) ≡ true → (a ≡ true) × (b ≡ true)
both true b is = (refl, is)
both false b is = absurd (false≢true is)

option_decides : {A : Type 0} (same : A → A → Bool) → ((a b : A) → same a b ≡ true → a ≡ b) → (a b : Option A) → option_eq same a b ≡ true → a ≡ b
option_decides same decides None None is = refl
option_decides same decides None (Some b) is = absurd (false≢true is)
option_decides same decides (Some a) None is = absurd (false≢true is)
option_decides same decides (Some a) (Some b) is = ap (λ x. Some x) (decides a b is)

list_decides : {A : Type 0} (same : A → A → Bool) → ((a b : A) → same a b ≡ true → a ≡ b) → (a b : List A) → pointwise same a b ≡ true → a ≡ b
list_decides same decides [] [] is = refl
list_decides same decides [] (b ∷ bs) is = absurd (false≢true is)
list_decides same decides (a ∷ more) [] is = absurd (false≢true is)
list_decides same decides (a ∷ more) (b ∷ bs) is =
    let parts = both (same a b) (pointwise same more bs) is in
    let heads : a ≡ b = decides a b parts.0 in
    let tails : more ≡ bs = list_decides same decides more bs parts.1 in
    cc

text_decides : (a b : Option (List ℕ)) → same_text a b ≡ true → a ≡ b
text_decides = option_decides bytes_eq (λ a b. (bytes_eq-Decides a b).0)

-- a value is made of its fields
abbrev name_of : Option (List ℕ) → Option (List ℕ) → LocalizedText
name_of l t = record { locale = l; text = t }

pub name_decides : (a b : LocalizedText) → same_name a b ≡ true → a ≡ b
name_decides a b is =
    let parts = both (same_text a.locale b.locale) (same_text a.text b.text) is in
    let locale : a.locale ≡ b.locale = text_decides a.locale b.locale parts.0 in
    let text : a.text ≡ b.text = text_decides a.text b.text parts.1 in
    let e : name_of a.locale a.text ≡ name_of b.locale b.text = cc in
    e

texts_decides : (a b : Option (List (Option (List ℕ)))) → same_texts a b ≡ true → a ≡ b
texts_decides = option_decides (pointwise same_text) (list_decides same_text text_decides)

abbrev application_of : Option (List ℕ) → Option (List ℕ) → LocalizedText → ℤ → Option (List ℕ) → Option (List ℕ) → Option (List (Option (List ℕ))) → ApplicationDescription
application_of uri product name kind gateway profile urls = record { application_uri = uri; product_uri = product; application_name = name; application_type = kind; gateway_server_uri = gateway; discovery_profile_uri = profile; discovery_urls = urls }

pub application_decides : (a b : ApplicationDescription) → same_application a b ≡ true → a ≡ b
application_decides a b is =
    let from_uri = both (same_text a.application_uri b.application_uri) _ is in
    let from_product = both (same_text a.product_uri b.product_uri) _ from_uri.1 in
    let from_name = both (same_name a.application_name b.application_name) _ from_product.1 in
    let from_type = both (int_eq a.application_type b.application_type) _ from_name.1 in
    let from_gateway = both (same_text a.gateway_server_uri b.gateway_server_uri) _ from_type.1 in
    let from_profile = both (same_text a.discovery_profile_uri b.discovery_profile_uri) _ from_gateway.1 in
    let uri : a.application_uri ≡ b.application_uri = text_decides _ _ from_uri.0 in
    let product : a.product_uri ≡ b.product_uri = text_decides _ _ from_product.0 in
    let name : a.application_name ≡ b.application_name = name_decides _ _ from_name.0 in
    let kind : a.application_type ≡ b.application_type = (Decides-int_eq a.application_type b.application_type).0 from_type.0 in
    let gateway : a.gateway_server_uri ≡ b.gateway_server_uri = text_decides _ _ from_gateway.0 in
    let profile : a.discovery_profile_uri ≡ b.discovery_profile_uri = text_decides _ _ from_profile.0 in
    let urls : a.discovery_urls ≡ b.discovery_urls = texts_decides _ _ from_profile.1 in
    let e : application_of a.application_uri a.product_uri a.application_name a.application_type a.gateway_server_uri a.discovery_profile_uri a.discovery_urls ≡ application_of b.application_uri b.product_uri b.application_name b.application_type b.gateway_server_uri b.discovery_profile_uri b.discovery_urls = cc in
    e

abbrev token_of : Option (List ℕ) → ℤ → Option (List ℕ) → Option (List ℕ) → Option (List ℕ) → UserTokenPolicy
token_of id kind issued issuer policy = record { policy_id = id; token_type = kind; issued_token_type = issued; issuer_endpoint_url = issuer; security_policy_uri = policy }

pub token_decides : (a b : UserTokenPolicy) → same_token a b ≡ true → a ≡ b
token_decides a b is =
    let from_id = both (same_text a.policy_id b.policy_id) _ is in
    let from_type = both (int_eq a.token_type b.token_type) _ from_id.1 in
    let from_issued = both (same_text a.issued_token_type b.issued_token_type) _ from_type.1 in
    let from_issuer = both (same_text a.issuer_endpoint_url b.issuer_endpoint_url) _ from_issued.1 in
    let id : a.policy_id ≡ b.policy_id = text_decides _ _ from_id.0 in
    let kind : a.token_type ≡ b.token_type = (Decides-int_eq a.token_type b.token_type).0 from_type.0 in
    let issued : a.issued_token_type ≡ b.issued_token_type = text_decides _ _ from_issued.0 in
    let issuer : a.issuer_endpoint_url ≡ b.issuer_endpoint_url = text_decides _ _ from_issuer.0 in
    let policy : a.security_policy_uri ≡ b.security_policy_uri = text_decides _ _ from_issuer.1 in
    let e : token_of a.policy_id a.token_type a.issued_token_type a.issuer_endpoint_url a.security_policy_uri ≡ token_of b.policy_id b.token_type b.issued_token_type b.issuer_endpoint_url b.security_policy_uri = cc in
    e

tokens_decides : (a b : Option (List UserTokenPolicy)) → same_tokens a b ≡ true → a ≡ b
tokens_decides = option_decides (pointwise same_token) (list_decides same_token token_decides)

abbrev endpoint_of : Option (List ℕ) → ApplicationDescription → Option (List ℕ) → ℤ → Option (List ℕ) → Option (List UserTokenPolicy) → Option (List ℕ) → ℕ → EndpointDescription
endpoint_of url server certificate mode policy tokens transport level = record { endpoint_url = url; server = server; server_certificate = certificate; security_mode = mode; security_policy_uri = policy; user_identity_tokens = tokens; transport_profile_uri = transport; security_level = level }

pub endpoint_decides : (a b : EndpointDescription) → same_endpoint a b ≡ true → a ≡ b
endpoint_decides a b is =
    let from_url = both (same_text a.endpoint_url b.endpoint_url) _ is in
    let from_server = both (same_application a.server b.server) _ from_url.1 in
    let from_certificate = both (same_bytes a.server_certificate b.server_certificate) _ from_server.1 in
    let from_mode = both (int_eq a.security_mode b.security_mode) _ from_certificate.1 in
    let from_policy = both (same_text a.security_policy_uri b.security_policy_uri) _ from_mode.1 in
    let from_tokens = both (same_tokens a.user_identity_tokens b.user_identity_tokens) _ from_policy.1 in
    let from_transport = both (same_text a.transport_profile_uri b.transport_profile_uri) _ from_tokens.1 in
    let url : a.endpoint_url ≡ b.endpoint_url = text_decides _ _ from_url.0 in
    let server : a.server ≡ b.server = application_decides _ _ from_server.0 in
    let certificate : a.server_certificate ≡ b.server_certificate = text_decides _ _ from_certificate.0 in
    let mode : a.security_mode ≡ b.security_mode = (Decides-int_eq a.security_mode b.security_mode).0 from_mode.0 in
    let policy : a.security_policy_uri ≡ b.security_policy_uri = text_decides _ _ from_policy.0 in
    let tokens : a.user_identity_tokens ≡ b.user_identity_tokens = tokens_decides _ _ from_tokens.0 in
    let transport : a.transport_profile_uri ≡ b.transport_profile_uri = text_decides _ _ from_transport.0 in
    let level : a.security_level ≡ b.security_level = (Decides-eqb a.security_level b.security_level).0 from_transport.1 in
    let e : endpoint_of a.endpoint_url a.server a.server_certificate a.security_mode a.security_policy_uri a.user_identity_tokens a.transport_profile_uri a.security_level ≡ endpoint_of b.endpoint_url b.server b.server_certificate b.security_mode b.security_policy_uri b.user_identity_tokens b.transport_profile_uri b.security_level = cc in
    e
