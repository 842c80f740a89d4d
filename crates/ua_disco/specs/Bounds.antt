-- How large what settings say may be.
use Rattle.std.specs.Prelude.{◌≤◌, ◌<◌, ℕ, List, Option, Some, None, length}
use Rattle.std.specs.List.{AllByRecursion}
use Rattle.ua_value.specs.declared.localized.LocalizedText.{LocalizedText}
use Rattle.ua_service.specs.declared.endpoint.UserTokenPolicy.{UserTokenPolicy}
use Rattle.ua_frame.specs.declared.limits.Limits.{Limits}
use Rattle.ua_frame.specs.Sizes.{least_buffer, most_buffer}
use Rattle.ua_disco.specs.declared.application.Application.{Application}
use Rattle.ua_disco.specs.declared.endpoint.Endpoint.{Endpoint}
use Rattle.ua_disco.specs.Configuration.{Configuration}

-- a text of at most 4095 bytes, or none
abbrev pub IsShort : Option (List ℕ) → Type 0
IsShort None = Unit {0}
IsShort (Some text) = length text ≤ 4095

-- at most 65535 items of which P holds, or none
abbrev pub IsList : {V : Type 0} → (V → Type 0) → Option (List V) → Type 0
IsList P None = Unit {0}
IsList P (Some vs) = (length vs ≤ 65535) × AllByRecursion P vs

pub record IsName (n : LocalizedText) : Type 0 where
  pub locale : IsShort n.locale
  pub text : IsShort n.text

pub record IsApplication (a : Application) : Type 0 where
  pub uri : IsShort a.uri
  pub product_uri : IsShort a.product_uri
  pub named : 0 < length a.names
  pub names : AllByRecursion IsName a.names
  pub gateway_uri : IsShort a.gateway_uri
  pub profile_uri : IsShort a.profile_uri
  pub discovery_urls : IsList IsShort a.discovery_urls

pub record IsToken (t : UserTokenPolicy) : Type 0 where
  pub policy_id : IsShort t.policy_id
  pub issued_token_type : IsShort t.issued_token_type
  pub issuer_endpoint_url : IsShort t.issuer_endpoint_url
  pub security_policy_uri : IsShort t.security_policy_uri

-- a certificate has at most 65536 bytes
abbrev pub IsCertificate : Option (List ℕ) → Type 0
IsCertificate None = Unit {0}
IsCertificate (Some bytes) = length bytes ≤ 65536

pub record IsEndpoint (e : Endpoint) : Type 0 where
  pub url : IsShort e.url
  pub policy : IsShort e.policy
  pub certificate : IsCertificate e.certificate
  pub transport : IsShort e.transport
  pub tokens : IsList IsToken e.tokens

-- the limits of a server, in bytes and in chunks
pub record IsLimits (l : Limits) : Type 0 where
  pub receive_least : least_buffer ≤ l.receive
  pub receive_most : l.receive ≤ most_buffer
  pub send_least : least_buffer ≤ l.send
  pub send_most : l.send ≤ most_buffer
  pub message_least : 1 ≤ l.max_message
  pub message_most : l.max_message ≤ 16777216
  pub chunks_least : 1 ≤ l.max_chunks
  pub chunks_most : l.max_chunks ≤ 65535

pub record IsConfiguration (c : Configuration) : Type 0 where
  pub limits : IsLimits c.limits
  pub some : 0 < length c.applications
  pub number : length c.applications ≤ 65535
  pub applications : AllByRecursion IsApplication c.applications
  pub count : length c.endpoints ≤ 65535
  pub endpoints : AllByRecursion IsEndpoint c.endpoints
