-- ApplicationDescription, OPC 10000-4, 7.2.
use Rattle.std.specs.Prelude.{refl}
use Rattle.std.specs.Int.{w32}
use Rattle.ua_service.specs.declared.application.ApplicationDescription.{ApplicationDescription}
use Rattle.ua_value.specs.Format.{Format, IsLawful}
use Rattle.ua_value.specs.Number.{signed}
use Rattle.ua_value.specs.NumberLaws.{lawful_signed, wide_32}
use Rattle.ua_value.specs.Text.{string}
use Rattle.ua_value.specs.TextLaws.{lawful_string}
use Rattle.ua_value.specs.Array.{array}
use Rattle.ua_value.specs.ArrayLaws.{lawful_array}
use Rattle.ua_value.specs.Localized.{localized_text}
use Rattle.ua_value.specs.LocalizedLaws.{lawful_localized}
use Rattle.ua_value.specs.Sequence.{by, pair}
use Rattle.ua_value.specs.SequenceLaws.{lawful_by, lawful_pair}

unfoldable pub application_description : Format ApplicationDescription
application_description = by
    (λ v. (v.application_uri, (v.product_uri, (v.application_name, (v.application_type, (v.gateway_server_uri, (v.discovery_profile_uri, v.discovery_urls)))))))
    (λ p. record { application_uri = p.0; product_uri = p.1.0; application_name = p.1.1.0; application_type = p.1.1.1.0; gateway_server_uri = p.1.1.1.1.0; discovery_profile_uri = p.1.1.1.1.1.0; discovery_urls = p.1.1.1.1.1.1 })
    (pair string (pair string (pair localized_text (pair (signed w32) (pair string (pair string (array string)))))))

pub lawful_application_description : IsLawful application_description
unfolding application_description
lawful_application_description = lawful_by _ _ _ (λ v. refl) (λ p. refl)
    (lawful_pair _ _ lawful_string (lawful_pair _ _ lawful_string (lawful_pair _ _ lawful_localized (lawful_pair _ _ (lawful_signed w32 wide_32) (lawful_pair _ _ lawful_string (lawful_pair _ _ lawful_string (lawful_array _ lawful_string)))))))
