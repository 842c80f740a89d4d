-- The messages that open, renew and close a secure channel, OPC 10000-4, 5.6.2 and 5.6.3.
use Rattle.std.specs.Prelude.{refl, ℕ, pos, None}
use Rattle.std.specs.Int.{w32}
use Rattle.ua_service.specs.declared.channel.OpenRequest.{OpenRequest}
use Rattle.ua_service.specs.declared.channel.OpenResponse.{OpenResponse}
use Rattle.ua_service.specs.declared.channel.CloseRequest.{CloseRequest}
use Rattle.ua_value.specs.Format.{Format, IsLawful}
use Rattle.ua_value.specs.Number.{unsigned, signed}
use Rattle.ua_value.specs.NumberLaws.{lawful_unsigned, lawful_signed, wide_32}
use Rattle.ua_value.specs.Text.{byte_string}
use Rattle.ua_value.specs.TextLaws.{lawful_byte_string}
use Rattle.ua_value.specs.Date.{date_time, lawful_date_time}
use Rattle.ua_value.specs.Sequence.{by, pair}
use Rattle.ua_value.specs.SequenceLaws.{lawful_by, lawful_pair}
use Rattle.ua_service.specs.Headers.{request_header, lawful_request_header, request_header_at, response_header, lawful_response_header, response_header_at}

unfoldable pub open_request : Format OpenRequest
open_request = by
    (λ v. (v.header, (v.client_protocol_version, (v.request_type, (v.security_mode, (v.client_nonce, v.requested_lifetime))))))
    (λ p. record { header = p.0; client_protocol_version = p.1.0; request_type = p.1.1.0; security_mode = p.1.1.1.0; client_nonce = p.1.1.1.1.0; requested_lifetime = p.1.1.1.1.1 })
    (pair request_header (pair (unsigned w32) (pair (signed w32) (pair (signed w32) (pair byte_string (unsigned w32))))))

pub lawful_open_request : IsLawful open_request
unfolding open_request
lawful_open_request = lawful_by _ _ _ (λ v. refl) (λ p. refl)
    (lawful_pair _ _ lawful_request_header (lawful_pair _ _ (lawful_unsigned w32 wide_32) (lawful_pair _ _ (lawful_signed w32 wide_32) (lawful_pair _ _ (lawful_signed w32 wide_32) (lawful_pair _ _ lawful_byte_string (lawful_unsigned w32 wide_32))))))

-- at the moment, under the handle, to issue (0) or renew (1), for so many milliseconds, without security
abbrev pub open_request_at : ℕ → ℕ → ℕ → ℕ → OpenRequest
open_request_at now handle type lifetime = record {
  header = request_header_at (pos now) handle;
  client_protocol_version = 0;
  request_type = pos type;
  security_mode = pos 1;
  client_nonce = None;
  requested_lifetime = lifetime;
}

unfoldable pub open_response : Format OpenResponse
open_response = by
    (λ v. (v.header, (v.server_protocol_version, (v.channel_id, (v.token_id, (v.created_at, (v.revised_lifetime, v.server_nonce)))))))
    (λ p. record { header = p.0; server_protocol_version = p.1.0; channel_id = p.1.1.0; token_id = p.1.1.1.0; created_at = p.1.1.1.1.0; revised_lifetime = p.1.1.1.1.1.0; server_nonce = p.1.1.1.1.1.1 })
    (pair response_header (pair (unsigned w32) (pair (unsigned w32) (pair (unsigned w32) (pair date_time (pair (unsigned w32) byte_string))))))

pub lawful_open_response : IsLawful open_response
unfolding open_response
lawful_open_response = lawful_by _ _ _ (λ v. refl) (λ p. refl)
    (lawful_pair _ _ lawful_response_header (lawful_pair _ _ (lawful_unsigned w32 wide_32) (lawful_pair _ _ (lawful_unsigned w32 wide_32) (lawful_pair _ _ (lawful_unsigned w32 wide_32) (lawful_pair _ _ lawful_date_time (lawful_pair _ _ (lawful_unsigned w32 wide_32) lawful_byte_string))))))

-- at the moment, to the request of the handle, for the channel, with the token and its lifetime, without security
abbrev pub open_response_at : ℕ → ℕ → ℕ → ℕ → ℕ → OpenResponse
open_response_at now handle channel token lifetime = record {
  header = response_header_at (pos now) handle 0;
  server_protocol_version = 0;
  channel_id = channel;
  token_id = token;
  created_at = record { 0 = pos now };
  revised_lifetime = lifetime;
  server_nonce = None;
}

unfoldable pub close_request : Format CloseRequest
close_request = by
    (λ v. v.header)
    (λ p. record { header = p })
    request_header

pub lawful_close_request : IsLawful close_request
unfolding close_request
lawful_close_request = lawful_by _ _ _ (λ v. refl) (λ p. refl)
    lawful_request_header

-- at the moment, under the handle
abbrev pub close_request_at : ℕ → ℕ → CloseRequest
close_request_at now handle = record { header = request_header_at (pos now) handle }
