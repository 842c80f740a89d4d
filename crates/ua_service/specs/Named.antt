-- The numbers of enumerations of OPC 10000-4.
use Rattle.std.specs.Prelude.{ℤ, pos}
use Rattle.ua_service.specs.declared.named.RequestType.{RequestType}
use Rattle.ua_service.specs.declared.named.RequestType.TheVariants as request_types
use Rattle.ua_service.specs.declared.named.SecurityMode.{SecurityMode}
use Rattle.ua_service.specs.declared.named.SecurityMode.TheVariants as security_modes
use Rattle.ua_service.specs.declared.named.ApplicationType.{ApplicationType}
use Rattle.ua_service.specs.declared.named.ApplicationType.TheVariants as application_types
use Rattle.ua_service.specs.declared.named.TokenType.{TokenType}
use Rattle.ua_service.specs.declared.named.TokenType.TheVariants as token_types

abbrev pub request_type_number : RequestType → ℤ
request_type_number request_types.Issue = pos 0
request_type_number request_types.Renew = pos 1

abbrev pub security_mode_number : SecurityMode → ℤ
security_mode_number security_modes.Invalid = pos 0
security_mode_number security_modes.None = pos 1
security_mode_number security_modes.Sign = pos 2
security_mode_number security_modes.SignAndEncrypt = pos 3

abbrev pub application_type_number : ApplicationType → ℤ
application_type_number application_types.Server = pos 0
application_type_number application_types.Client = pos 1
application_type_number application_types.ClientAndServer = pos 2
application_type_number application_types.DiscoveryServer = pos 3

abbrev pub token_type_number : TokenType → ℤ
token_type_number token_types.Anonymous = pos 0
token_type_number token_types.UserName = pos 1
token_type_number token_types.Certificate = pos 2
token_type_number token_types.IssuedToken = pos 3
