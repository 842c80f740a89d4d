-- What each table of settings gives, key by key in the order of docs/FORMATS.md.
use Rattle.std.specs.Prelude.{ℕ, nat_eq, pos, List, [], ◌∷◌, Option, Some, None, Result, Ok, Err, codes, if◌then◌else◌}
use Rattle.std.specs.Str.{is_utf8}
use Rattle.toml.specs.Data.{Data, Members}
use Rattle.toml.specs.Parse.{parse_document}
use Rattle.ua_value.specs.declared.localized.LocalizedText.{LocalizedText}
use Rattle.ua_service.specs.declared.endpoint.UserTokenPolicy.{UserTokenPolicy}
use Rattle.ua_frame.specs.declared.limits.Limits.{Limits}
use Rattle.ua_frame.specs.Sizes.{least_buffer, most_buffer}
pub use Rattle.ua_frame.specs.Policy.{policy_none}
use Rattle.ua_disco.specs.declared.application.Application.{Application}
use Rattle.ua_disco.specs.declared.endpoint.Endpoint.{Endpoint}
use Rattle.ua_disco.specs.Configuration.{Configuration}
use Rattle.ua_disco.specs.Faults.{Fault, not_toml, bad_value, next}
use Rattle.ua_disco.specs.Reading.{text_value, certificate_value, list_value, table_value, required, defaulted, integer, keys_known}

abbrev pub Text : Type 0
Text = Option (List ℕ)

-- ---- kinds of keys

abbrev pub text_key : List ℕ → List ℕ → Members → Result Text Fault
text_key = required text_value

-- null where it is absent
abbrev pub text_or_null : List ℕ → List ℕ → Members → Result Text Fault
text_or_null = defaulted text_value None

abbrev pub text_or : List ℕ → List ℕ → List ℕ → Members → Result Text Fault
text_or default = defaulted text_value (Some default)

abbrev pub number_or : ℕ → ℕ → ℕ → List ℕ → List ℕ → Members → Result ℕ Fault
number_or least most default = integer least most (Some default)

-- at least one item
abbrev pub at_least_one : {A : Type 0} → List ℕ → List A → Result (List A) Fault
at_least_one path [] = Err (bad_value path)
at_least_one path (v ∷ vs) = Ok (v ∷ vs)

-- an array that is written with its count, empty where it is absent
abbrev pub array_key : {A : Type 0} → (List ℕ → Data → Result A Fault) → List ℕ → List ℕ → Members → Result (List A) Fault
array_key rule = defaulted (list_value rule) []

-- ---- limits

abbrev pub default_limits : Limits
default_limits = record { receive = 65535; send = 65535; max_message = 1048576; max_chunks = 64 }

abbrev pub size_or : ℕ → List ℕ → List ℕ → Members → Result ℕ Fault
size_or = number_or least_buffer most_buffer

unfoldable pub sizes : List ℕ → Members → Result (ℕ × ℕ) Fault
sizes prefix ms = next (size_or default_limits.receive prefix (codes "receive") ms) (λ receive. next (size_or default_limits.send prefix (codes "send") ms) (λ send. Ok (receive, send)))

unfoldable pub messages : List ℕ → Members → Result (ℕ × ℕ) Fault
messages prefix ms = next (number_or 1 16777216 default_limits.max_message prefix (codes "max_message") ms) (λ bytes. next (number_or 1 65535 default_limits.max_chunks prefix (codes "max_chunks") ms) (λ chunks. Ok (bytes, chunks)))

abbrev pub limit_keys : List (List ℕ)
limit_keys = codes "receive" ∷ codes "send" ∷ codes "max_message" ∷ codes "max_chunks" ∷ []

unfoldable pub limit_fields : List ℕ → Members → Result Limits Fault
limit_fields prefix ms = next (sizes prefix ms) (λ s. next (messages prefix ms) (λ m. Ok (record { receive = s.0; send = s.1; max_message = m.0; max_chunks = m.1 })))

unfoldable pub limits_of : List ℕ → Members → Result Limits Fault
limits_of prefix ms = next (keys_known limit_keys prefix ms) (λ _. limit_fields prefix ms)

-- ---- names

abbrev pub name_keys : List (List ℕ)
name_keys = codes "locale" ∷ codes "text" ∷ []

unfoldable pub name_of : List ℕ → Members → Result LocalizedText Fault
name_of prefix ms =
    next (keys_known name_keys prefix ms) (λ _.
    next (text_or_null prefix (codes "locale") ms) (λ locale.
    next (text_key prefix (codes "text") ms) (λ text.
    Ok (record { locale = locale; text = text }))))

unfoldable pub names_value : List ℕ → Data → Result (List LocalizedText) Fault
names_value path d = next (list_value (table_value name_of) path d) (at_least_one path)

-- ---- the application

unfoldable pub identity : List ℕ → Members → Result (Text × Text × ℕ) Fault
identity prefix ms =
    next (text_key prefix (codes "uri") ms) (λ uri.
    next (text_or_null prefix (codes "product_uri") ms) (λ product_uri.
    next (number_or 0 3 0 prefix (codes "type") ms) (λ kind.
    Ok (uri, product_uri, kind))))

unfoldable pub names_key : List ℕ → Members → Result (List LocalizedText) Fault
names_key prefix ms = required names_value prefix (codes "names") ms

unfoldable pub gateway : List ℕ → Members → Result (Text × Text) Fault
gateway prefix ms = next (text_or_null prefix (codes "gateway_uri") ms) (λ gateway_uri. next (text_or_null prefix (codes "profile_uri") ms) (λ profile_uri. Ok (gateway_uri, profile_uri)))

-- an array that is written with its count
unfoldable pub urls_key : List ℕ → Members → Result (Option (List Text)) Fault
urls_key prefix ms = next (array_key text_value prefix (codes "discovery_urls") ms) (λ urls. Ok (Some urls))

unfoldable pub whereabouts : List ℕ → Members → Result (Text × Text × Option (List Text)) Fault
whereabouts prefix ms = next (gateway prefix ms) (λ g. next (urls_key prefix ms) (λ urls. Ok (g.0, g.1, urls)))

unfoldable pub application_fields : List ℕ → Members → Result Application Fault
application_fields prefix ms =
    next (identity prefix ms) (λ i.
    next (names_key prefix ms) (λ names.
    next (whereabouts prefix ms) (λ w.
    Ok (record { uri = i.0; product_uri = i.1; kind = pos i.2; names = names; gateway_uri = w.0; profile_uri = w.1; discovery_urls = w.2 }))))

abbrev pub application_keys : List (List ℕ)
application_keys = codes "uri" ∷ codes "product_uri" ∷ codes "type" ∷ codes "names" ∷ codes "gateway_uri" ∷ codes "profile_uri" ∷ codes "discovery_urls" ∷ []

unfoldable pub application_of : List ℕ → Members → Result Application Fault
application_of prefix ms = next (keys_known application_keys prefix ms) (λ _. application_fields prefix ms)

-- ---- endpoints

unfoldable pub token_kind : List ℕ → Members → Result (Text × ℕ) Fault
token_kind prefix ms = next (text_key prefix (codes "id") ms) (λ id. next (number_or 0 3 0 prefix (codes "type") ms) (λ kind. Ok (id, kind)))

unfoldable pub token_issuer : List ℕ → Members → Result (Text × Text × Text) Fault
token_issuer prefix ms =
    next (text_or_null prefix (codes "issued_type") ms) (λ issued_type.
    next (text_or_null prefix (codes "issuer_url") ms) (λ issuer_url.
    next (text_or_null prefix (codes "policy") ms) (λ policy.
    Ok (issued_type, issuer_url, policy))))

abbrev pub token_keys : List (List ℕ)
token_keys = codes "id" ∷ codes "type" ∷ codes "issued_type" ∷ codes "issuer_url" ∷ codes "policy" ∷ []

unfoldable pub token_of : List ℕ → Members → Result UserTokenPolicy Fault
token_of prefix ms =
    next (keys_known token_keys prefix ms) (λ _.
    next (token_kind prefix ms) (λ k.
    next (token_issuer prefix ms) (λ i.
    Ok (record { policy_id = k.0; token_type = pos k.1; issued_token_type = i.0; issuer_endpoint_url = i.1; security_policy_uri = i.2 }))))

-- UA TCP, UA Secure Conversation and UA Binary
abbrev pub binary_profile : List ℕ
binary_profile = codes "http://opcfoundation.org/UA-Profile/Transport/uatcp-uasc-uabinary"

unfoldable pub policy_key : List ℕ → Members → Result Text Fault
policy_key prefix ms = text_or policy_none prefix (codes "policy") ms

unfoldable pub transport_key : List ℕ → Members → Result Text Fault
transport_key prefix ms = text_or binary_profile prefix (codes "transport") ms

unfoldable pub certificate_key : List ℕ → Members → Result Text Fault
certificate_key prefix ms = defaulted certificate_value None prefix (codes "certificate") ms

unfoldable pub tokens_key : List ℕ → Members → Result (Option (List UserTokenPolicy)) Fault
tokens_key prefix ms = next (array_key (table_value token_of) prefix (codes "tokens") ms) (λ tokens. Ok (Some tokens))

unfoldable pub endpoint_security : List ℕ → Members → Result (Text × ℕ × Text) Fault
endpoint_security prefix ms =
    next (text_key prefix (codes "url") ms) (λ url.
    next (number_or 1 3 1 prefix (codes "mode") ms) (λ mode.
    next (policy_key prefix ms) (λ policy.
    Ok (url, mode, policy))))

unfoldable pub endpoint_transport : List ℕ → Members → Result (Text × Text × ℕ) Fault
endpoint_transport prefix ms =
    next (certificate_key prefix ms) (λ certificate.
    next (transport_key prefix ms) (λ transport.
    next (number_or 0 255 0 prefix (codes "level") ms) (λ level.
    Ok (certificate, transport, level))))

unfoldable pub endpoint_fields : List ℕ → Members → Result Endpoint Fault
endpoint_fields prefix ms =
    next (endpoint_security prefix ms) (λ s.
    next (endpoint_transport prefix ms) (λ t.
    next (tokens_key prefix ms) (λ tokens.
    Ok (record { url = s.0; mode = pos s.1; policy = s.2; certificate = t.0; transport = t.1; level = t.2; tokens = tokens }))))

abbrev pub endpoint_keys : List (List ℕ)
endpoint_keys = codes "url" ∷ codes "mode" ∷ codes "policy" ∷ codes "certificate" ∷ codes "transport" ∷ codes "level" ∷ codes "tokens" ∷ []

unfoldable pub endpoint_of : List ℕ → Members → Result Endpoint Fault
endpoint_of prefix ms = next (keys_known endpoint_keys prefix ms) (λ _. endpoint_fields prefix ms)

-- ---- the document

-- version 1: one table
unfoldable pub application_key : Members → Result (List Application) Fault
application_key ms = next (required (table_value application_of) [] (codes "application") ms) (λ a. Ok (a ∷ []))

-- version 2: an array of tables, at least one
unfoldable pub applications_key : Members → Result (List Application) Fault
applications_key ms = next (required (list_value (table_value application_of)) [] (codes "application") ms) (at_least_one (codes "application"))

-- the applications, as the version has them
unfoldable pub applications_by : ℕ → Members → Result (List Application) Fault
applications_by version ms = if nat_eq version 1 then application_key ms else applications_key ms

unfoldable pub endpoints_key : Members → Result (List Endpoint) Fault
endpoints_key ms = array_key (table_value endpoint_of) [] (codes "endpoint") ms

unfoldable pub limits_key : Members → Result Limits Fault
limits_key ms = defaulted (table_value limits_of) default_limits [] (codes "limits") ms

unfoldable pub body_of : ℕ → Members → Result Configuration Fault
body_of version ms =
    next (applications_by version ms) (λ applications.
    next (endpoints_key ms) (λ endpoints.
    next (limits_key ms) (λ limits.
    Ok (record { limits = limits; applications = applications; endpoints = endpoints }))))

abbrev pub top_keys : List (List ℕ)
top_keys = codes "version" ∷ codes "application" ∷ codes "endpoint" ∷ codes "limits" ∷ []

-- the settings that a table gives, or their first fault
unfoldable pub table_settings : Members → Result Configuration Fault
table_settings ms =
    next (keys_known top_keys [] ms) (λ _.
    next (integer 1 2 None [] (codes "version") ms) (λ version.
    body_of version ms))

abbrev pub document_settings : Option Members → Result Configuration Fault
document_settings None = Err not_toml
document_settings (Some ms) = table_settings ms

-- the settings that a text gives, or their first fault
unfoldable pub settings_of : List ℕ → Result Configuration Fault
settings_of text = if is_utf8 text then document_settings (parse_document text) else Err not_toml
