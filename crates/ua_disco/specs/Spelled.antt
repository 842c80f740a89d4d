-- The bytes of descriptions that are the same in each answer, OPC 10000-4, 7.2 and 7.14.
use Rattle.std.specs.Prelude.{ℕ, List, ◌++◌}
use Rattle.std.specs.Int.{w8, w32}
use Rattle.ua_value.specs.Array.{array}
use Rattle.ua_value.specs.Number.{signed, unsigned}
use Rattle.ua_value.specs.Text.{string, byte_string}
use Rattle.ua_service.specs.Endpoint.{user_token_policy}
use Rattle.ua_disco.specs.declared.application.Application.{Application}
use Rattle.ua_disco.specs.declared.endpoint.Endpoint.{Endpoint}

-- what stands before the name of an application in its description
abbrev pub before_name : Application → List ℕ
before_name a = string.canon a.uri ++ string.canon a.product_uri

-- and behind it
abbrev pub behind_name : Application → List ℕ
behind_name a = (signed w32).canon a.kind ++ (string.canon a.gateway_uri ++ (string.canon a.profile_uri ++ (array string).canon a.discovery_urls))

-- what stands behind the server of an endpoint in its description
abbrev pub behind_server : Endpoint → List ℕ
behind_server e =
    byte_string.canon e.certificate
    ++ ((signed w32).canon e.mode
    ++ (string.canon e.policy ++ ((array user_token_policy).canon e.tokens ++ (string.canon e.transport ++ (unsigned w8).canon e.level))))
