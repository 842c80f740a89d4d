-- Headers of requests and responses that hold no memory.
use Rattle.std.specs.Prelude.{None}
use Rattle.ua_value.specs.Node.{two_byte}
use Rattle.ua_service.specs.declared.brief.BriefHeader.{BriefHeader}
use Rattle.ua_service.specs.declared.brief.BriefResponseHeader.{BriefResponseHeader}
use Rattle.ua_service.specs.declared.headers.RequestHeader.{RequestHeader}
use Rattle.ua_service.specs.declared.headers.ResponseHeader.{ResponseHeader}
use Rattle.ua_service.specs.Headers.{bodiless, no_diagnostics}

abbrev pub header_of : BriefHeader → RequestHeader
header_of b = record {
  authentication_token = two_byte b.token;
  timestamp = b.timestamp;
  request_handle = b.request_handle;
  return_diagnostics = b.return_diagnostics;
  audit_entry_id = None;
  timeout_hint = b.timeout_hint;
  additional_header = bodiless b.additional;
}

abbrev pub response_header_of : BriefResponseHeader → ResponseHeader
response_header_of b = record {
  timestamp = b.timestamp;
  request_handle = b.request_handle;
  service_result = b.service_result;
  service_diagnostics = no_diagnostics;
  string_table = None;
  additional_header = bodiless b.additional;
}
