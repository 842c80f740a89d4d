-- EndpointDescription and UserTokenPolicy, OPC 10000-4, 7.14 and 7.42.
use Rattle.std.specs.Prelude.{refl}
use Rattle.std.specs.Int.{w8, w32}
use Rattle.ua_service.specs.declared.endpoint.UserTokenPolicy.{UserTokenPolicy}
use Rattle.ua_service.specs.declared.endpoint.EndpointDescription.{EndpointDescription}
use Rattle.ua_value.specs.Format.{Format, IsLawful}
use Rattle.ua_value.specs.Number.{unsigned, signed}
use Rattle.ua_value.specs.NumberLaws.{lawful_unsigned, lawful_signed, wide_8, wide_32}
use Rattle.ua_value.specs.Text.{string, byte_string}
use Rattle.ua_value.specs.TextLaws.{lawful_string, lawful_byte_string}
use Rattle.ua_value.specs.Array.{array}
use Rattle.ua_value.specs.ArrayLaws.{lawful_array}
use Rattle.ua_value.specs.Sequence.{by, pair}
use Rattle.ua_value.specs.SequenceLaws.{lawful_by, lawful_pair}
use Rattle.ua_service.specs.Application.{application_description, lawful_application_description}

unfoldable pub user_token_policy : Format UserTokenPolicy
user_token_policy = by
    (λ v. (v.policy_id, (v.token_type, (v.issued_token_type, (v.issuer_endpoint_url, v.security_policy_uri)))))
    (λ p. record { policy_id = p.0; token_type = p.1.0; issued_token_type = p.1.1.0; issuer_endpoint_url = p.1.1.1.0; security_policy_uri = p.1.1.1.1 })
    (pair string (pair (signed w32) (pair string (pair string string))))

pub lawful_user_token_policy : IsLawful user_token_policy
unfolding user_token_policy
lawful_user_token_policy = lawful_by _ _ _ (λ v. refl) (λ p. refl)
    (lawful_pair _ _ lawful_string (lawful_pair _ _ (lawful_signed w32 wide_32) (lawful_pair _ _ lawful_string (lawful_pair _ _ lawful_string lawful_string))))

unfoldable pub endpoint_description : Format EndpointDescription
endpoint_description = by
    (λ v. (v.endpoint_url, (v.server, (v.server_certificate, (v.security_mode, (v.security_policy_uri, (v.user_identity_tokens, (v.transport_profile_uri, v.security_level))))))))
    (λ p. record { endpoint_url = p.0; server = p.1.0; server_certificate = p.1.1.0; security_mode = p.1.1.1.0; security_policy_uri = p.1.1.1.1.0; user_identity_tokens = p.1.1.1.1.1.0; transport_profile_uri = p.1.1.1.1.1.1.0; security_level = p.1.1.1.1.1.1.1 })
    (pair string (pair application_description (pair byte_string (pair (signed w32) (pair string (pair (array user_token_policy) (pair string (unsigned w8))))))))

pub lawful_endpoint_description : IsLawful endpoint_description
unfolding endpoint_description
lawful_endpoint_description = lawful_by _ _ _ (λ v. refl) (λ p. refl)
    (lawful_pair _ _ lawful_string (lawful_pair _ _ lawful_application_description (lawful_pair _ _ lawful_byte_string (lawful_pair _ _ (lawful_signed w32 wide_32) (lawful_pair _ _ lawful_string (lawful_pair _ _ (lawful_array _ lawful_user_token_policy) (lawful_pair _ _ lawful_string (lawful_unsigned w8 wide_8))))))))
