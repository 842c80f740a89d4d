-- The headers of requests and responses, OPC 10000-4, 7.33 to 7.35.
use Rattle.std.specs.Prelude.{refl, ℕ, ℤ, None}
use Rattle.std.specs.Int.{w32}
use Rattle.ua_service.specs.declared.headers.RequestHeader.{RequestHeader}
use Rattle.ua_service.specs.declared.headers.ResponseHeader.{ResponseHeader}
use Rattle.ua_service.specs.declared.headers.ServiceFault.{ServiceFault}
use Rattle.ua_value.specs.Format.{Format, IsLawful}
use Rattle.ua_value.specs.Number.{unsigned}
use Rattle.ua_value.specs.NumberLaws.{lawful_unsigned, wide_32}
use Rattle.ua_value.specs.Text.{string}
use Rattle.ua_value.specs.TextLaws.{lawful_string}
use Rattle.ua_value.specs.Array.{array}
use Rattle.ua_value.specs.ArrayLaws.{lawful_array}
use Rattle.ua_value.specs.Date.{date_time, lawful_date_time}
use Rattle.ua_value.specs.Status.{status_code, lawful_status_code}
use Rattle.ua_value.specs.Node.{node_id, two_byte}
use Rattle.ua_value.specs.NodeLaws.{lawful_node}
use Rattle.ua_value.specs.Sequence.{by, pair}
use Rattle.ua_value.specs.SequenceLaws.{lawful_by, lawful_pair}
use Rattle.ua_variant.specs.declared.extension.ExtensionObject.{ExtensionObject}
use Rattle.ua_variant.specs.declared.extension.ExtensionBody.TheVariants as extensions
use Rattle.ua_variant.specs.Extension.{extension_object}
use Rattle.ua_variant.specs.ExtensionLaws.{lawful_extension_object}
use Rattle.ua_variant.specs.Diagnostic.{Diagnostic, diagnostic, plain}
use Rattle.ua_variant.specs.DiagnosticLaws.{lawful_diagnostic}

unfoldable pub request_header : Format RequestHeader
request_header = by
    (λ v. (v.authentication_token, (v.timestamp, (v.request_handle, (v.return_diagnostics, (v.audit_entry_id, (v.timeout_hint, v.additional_header)))))))
    (λ p. record { authentication_token = p.0; timestamp = p.1.0; request_handle = p.1.1.0; return_diagnostics = p.1.1.1.0; audit_entry_id = p.1.1.1.1.0; timeout_hint = p.1.1.1.1.1.0; additional_header = p.1.1.1.1.1.1 })
    (pair node_id (pair date_time (pair (unsigned w32) (pair (unsigned w32) (pair string (pair (unsigned w32) extension_object))))))

pub lawful_request_header : IsLawful request_header
unfolding request_header
lawful_request_header = lawful_by _ _ _ (λ v. refl) (λ p. refl)
    (lawful_pair _ _ lawful_node (lawful_pair _ _ lawful_date_time (lawful_pair _ _ (lawful_unsigned w32 wide_32) (lawful_pair _ _ (lawful_unsigned w32 wide_32) (lawful_pair _ _ lawful_string (lawful_pair _ _ (lawful_unsigned w32 wide_32) lawful_extension_object))))))

unfoldable pub response_header : Format ResponseHeader
response_header = by
    (λ v. (v.timestamp, (v.request_handle, (v.service_result, (v.service_diagnostics, (v.string_table, v.additional_header))))))
    (λ p. record { timestamp = p.0; request_handle = p.1.0; service_result = p.1.1.0; service_diagnostics = p.1.1.1.0; string_table = p.1.1.1.1.0; additional_header = p.1.1.1.1.1 })
    (pair date_time (pair (unsigned w32) (pair status_code (pair diagnostic (pair (array string) extension_object)))))

pub lawful_response_header : IsLawful response_header
unfolding response_header
lawful_response_header = lawful_by _ _ _ (λ v. refl) (λ p. refl)
    (lawful_pair _ _ lawful_date_time (lawful_pair _ _ (lawful_unsigned w32 wide_32) (lawful_pair _ _ lawful_status_code (lawful_pair _ _ lawful_diagnostic (lawful_pair _ _ (lawful_array _ lawful_string) lawful_extension_object)))))

-- the id in namespace 0, without a body
abbrev pub bodiless : ℕ → ExtensionObject
bodiless id = record { type_id = two_byte id; body = extensions.None }

-- the null id, without a body
abbrev pub no_object : ExtensionObject
no_object = record { type_id = two_byte 0; body = extensions.None }

abbrev pub no_diagnostics : Diagnostic
no_diagnostics = plain (record { symbolic_id = None; namespace_uri = None; locale = None; localized_text = None; additional_info = None; inner_status = None })

-- null authentication token, the moment, the handle, and nothing else
abbrev pub request_header_at : ℤ → ℕ → RequestHeader
request_header_at now handle = record {
  authentication_token = two_byte 0;
  timestamp = record { 0 = now };
  request_handle = handle;
  return_diagnostics = 0;
  audit_entry_id = None;
  timeout_hint = 0;
  additional_header = no_object;
}

-- the moment, the handle of the request, the result, and nothing else
abbrev pub response_header_at : ℤ → ℕ → ℕ → ResponseHeader
response_header_at now handle status = record {
  timestamp = record { 0 = now };
  request_handle = handle;
  service_result = record { 0 = status };
  service_diagnostics = no_diagnostics;
  string_table = None;
  additional_header = no_object;
}

unfoldable pub service_fault : Format ServiceFault
service_fault = by
    (λ v. v.header)
    (λ p. record { header = p })
    response_header

pub lawful_service_fault : IsLawful service_fault
unfolding service_fault
lawful_service_fault = lawful_by _ _ _ (λ v. refl) (λ p. refl)
    lawful_response_header
