-- What is asked of settings can be met.
use Rattle.std.proofs.Common.{◌≡◌, ℕ, ◌≤◌, true, List, length, Some, None, refl, arith, lit<, lit≤}
use Rattle.std.specs.Prelude.{pos, codes}
use Rattle.std.proofs.lemmas.Int.{ints}
use Rattle.std.proofs.lemmas.Str.{IsUtf8-from_is_utf8}
use Rattle.std.specs.Str.{is_utf8, chars}
use lib.Utf8.{encode}
use Rattle.ua_value.specs.Number.{unsigned, signed}
use Rattle.ua_value.specs.Text.{string, bytes_of}
use Rattle.ua_value.specs.Array.{array}
use Rattle.ua_value.specs.Localized.{localized_text}
use Rattle.ua_service.specs.Endpoint.{user_token_policy}
use Rattle.ua_disco.specs.Bounds.{IsConfiguration}
use Rattle.ua_disco.specs.Values.{IsApplicationValue, IsEndpointValue, AreSettings}
use Rattle.ua_conn.proofs.Vectors.{settings, application, endpoint}

text_value : (text : List ℕ) → length text ≤ 2147483647 → is_utf8 text ≡ true → string.IsValue (Some text)
unfolding bytes_of
text_value text short is = (short, IsUtf8-from_is_utf8 text is)

none_value : string.IsValue None
unfolding bytes_of
none_value = tt

bounds : IsConfiguration settings
bounds = record {
  limits = record { receive_least = lit≤ tt; receive_most = lit≤ tt; send_least = lit≤ tt; send_most = lit≤ tt; message_least = lit≤ tt; message_most = lit≤ tt; chunks_least = lit≤ tt; chunks_most = lit≤ tt };
  some = lit< tt;
  number = lit≤ tt;
  applications = (record { uri = lit≤ tt; product_uri = lit≤ tt; named = lit< tt; names = (record { locale = lit≤ tt; text = lit≤ tt }, tt); gateway_uri = tt; profile_uri = tt; discovery_urls = (lit≤ tt, (lit≤ tt, tt)) }, tt);
  count = lit≤ tt;
  endpoints = (record { url = lit≤ tt; policy = lit≤ tt; certificate = tt; transport = lit≤ tt; tokens = (lit≤ tt, (record { policy_id = lit≤ tt; issued_token_type = tt; issuer_endpoint_url = tt; security_policy_uri = tt }, tt)) }, tt);
}

application_is : IsApplicationValue application
unfolding is_utf8 chars encode localized_text array bytes_of
application_is = record {
  uri = text_value _ (lit≤ tt) refl;
  product_uri = text_value _ (lit≤ tt) refl;
  kind = omega (arith, ints);
  names = ((text_value _ (lit≤ tt) refl, text_value _ (lit≤ tt) refl), tt);
  gateway_uri = none_value;
  profile_uri = none_value;
  discovery_urls = (lit≤ tt, lit≤ tt, (text_value _ (lit≤ tt) refl, tt));
}

token_is : user_token_policy.IsValue (record { policy_id = Some (codes "0"); token_type = pos 0; issued_token_type = None; issuer_endpoint_url = None; security_policy_uri = None })
unfolding is_utf8 chars encode user_token_policy signed bytes_of
token_is = (text_value (codes "0") (lit≤ tt) refl, (omega (arith, ints), (tt, (tt, tt))))

endpoint_is : IsEndpointValue endpoint
unfolding is_utf8 chars encode array user_token_policy unsigned signed bytes_of
endpoint_is = record {
  url = text_value _ (lit≤ tt) refl;
  mode = omega (arith, ints);
  policy = text_value _ (lit≤ tt) refl;
  certificate = tt;
  transport = text_value _ (lit≤ tt) refl;
  level = lit< tt;
  tokens = (lit≤ tt, lit≤ tt, (token_is, tt));
}

-- the settings of the worked rows
pub settings_are : AreSettings settings
settings_are = record { bounds = bounds; applications = (application_is, tt); endpoints = (endpoint_is, tt) }
