-- When two descriptions are the same: in each of their fields (OPC 10000-4, 7.2, 7.14 and 7.42).
use Rattle.std.specs.Prelude.{ℕ, Bool, ◌&&◌, ◌==◌, List, Option, bytes_eq}
use Rattle.std.specs.Option.{option_eq}
use Rattle.std.specs.Ordering.{int_eq}
use Rattle.std.specs.Cmp.Lexicographic.{pointwise}
use Rattle.ua_value.specs.declared.localized.LocalizedText.{LocalizedText}
use Rattle.ua_service.specs.declared.application.ApplicationDescription.{ApplicationDescription}
use Rattle.ua_service.specs.declared.endpoint.EndpointDescription.{EndpointDescription}
use Rattle.ua_service.specs.declared.endpoint.UserTokenPolicy.{UserTokenPolicy}

-- null is the same as null alone
abbrev pub same_text : Option (List ℕ) → Option (List ℕ) → Bool
same_text = option_eq bytes_eq

-- the same texts in the same order; null is the same as null alone
abbrev pub same_texts : Option (List (Option (List ℕ))) → Option (List (Option (List ℕ))) → Bool
same_texts = option_eq (pointwise same_text)

abbrev pub same_name : LocalizedText → LocalizedText → Bool
same_name a b = same_text a.locale b.locale && same_text a.text b.text

-- in the fields behind the ApplicationType
abbrev pub same_back : ApplicationDescription → ApplicationDescription → Bool
same_back a b = same_text a.gateway_server_uri b.gateway_server_uri
    && (same_text a.discovery_profile_uri b.discovery_profile_uri
    && same_texts a.discovery_urls b.discovery_urls)

-- in each field but the ApplicationUri
abbrev pub same_but_uri : ApplicationDescription → ApplicationDescription → Bool
same_but_uri a b = same_text a.product_uri b.product_uri
    && (same_name a.application_name b.application_name
    && (int_eq a.application_type b.application_type
    && same_back a b))

abbrev pub same_application : ApplicationDescription → ApplicationDescription → Bool
same_application a b = same_text a.application_uri b.application_uri && same_but_uri a b

-- null is the same as null alone
abbrev pub same_bytes : Option (List ℕ) → Option (List ℕ) → Bool
same_bytes = option_eq bytes_eq

-- in each field but the PolicyId
abbrev pub same_but_id : UserTokenPolicy → UserTokenPolicy → Bool
same_but_id a b = int_eq a.token_type b.token_type
    && (same_text a.issued_token_type b.issued_token_type
    && (same_text a.issuer_endpoint_url b.issuer_endpoint_url
    && same_text a.security_policy_uri b.security_policy_uri))

abbrev pub same_token : UserTokenPolicy → UserTokenPolicy → Bool
same_token a b = same_text a.policy_id b.policy_id && same_but_id a b

-- the same tokens in the same order
abbrev pub same_tokens : Option (List UserTokenPolicy) → Option (List UserTokenPolicy) → Bool
same_tokens = option_eq (pointwise same_token)

-- the name of an endpoint: its url, how it is secured, and what it speaks
abbrev pub same_key : EndpointDescription → EndpointDescription → Bool
same_key a b = same_text a.endpoint_url b.endpoint_url
    && (int_eq a.security_mode b.security_mode
    && (same_text a.security_policy_uri b.security_policy_uri
    && same_text a.transport_profile_uri b.transport_profile_uri))

-- in each field that is no part of its name
abbrev pub same_but_key : EndpointDescription → EndpointDescription → Bool
same_but_key a b = same_application a.server b.server
    && (same_bytes a.server_certificate b.server_certificate
    && (same_tokens a.user_identity_tokens b.user_identity_tokens
    && (a.security_level == b.security_level)))

-- in each field, in the order of the standard
abbrev pub same_endpoint : EndpointDescription → EndpointDescription → Bool
same_endpoint a b = same_text a.endpoint_url b.endpoint_url
    && (same_application a.server b.server
    && (same_bytes a.server_certificate b.server_certificate
    && (int_eq a.security_mode b.security_mode
    && (same_text a.security_policy_uri b.security_policy_uri
    && (same_tokens a.user_identity_tokens b.user_identity_tokens
    && (same_text a.transport_profile_uri b.transport_profile_uri
    && (a.security_level == b.security_level)))))))
