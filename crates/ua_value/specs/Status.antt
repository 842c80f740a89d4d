-- Status codes (OPC 10000-6, 5.2.2.11).
use Rattle.std.specs.Prelude.{ℕ, ◌-◌, ◌==◌, true, if◌then◌else◌, List, ◌∷◌, ◌++◌, codes, length, replicate, Option, Some, None, refl}
use Rattle.std.specs.Fmt.{digits}
use Rattle.std.specs.Int.{w32, from_le_bytes}
use Rattle.ua_value.specs.declared.status.StatusCode.{StatusCode}
use Rattle.ua_value.specs.Format.{Format, IsLawful}
use Rattle.ua_value.specs.Number.{unsigned}
use Rattle.ua_value.specs.NumberLaws.{lawful_unsigned, wide_32}
use Rattle.ua_value.specs.Fixed.{IsFixed, fixed_unsigned, fixed_by, few_32}
use Rattle.ua_value.specs.Sequence.{by}
use Rattle.ua_value.specs.SequenceLaws.{lawful_by}

unfoldable pub status_code : Format StatusCode
status_code = by (λ s. s.0) (λ n. record { 0 = n }) (unsigned w32)

pub lawful_status_code : IsLawful status_code
unfolding status_code
lawful_status_code = lawful_by _ _ _ (λ s. refl) (λ n. refl) (lawful_unsigned w32 wide_32)

pub fixed_status_code : IsFixed status_code 4 (λ bytes. record { 0 = from_le_bytes w32 bytes })
unfolding status_code
fixed_status_code = fixed_by (λ f. f.0) (λ n. record { 0 = n }) (unsigned w32) 4 (λ bytes. from_le_bytes w32 bytes) (fixed_unsigned w32 few_32 wide_32)

-- the name of a status that this stack uses
unfoldable pub status_name : ℕ → Option (List ℕ)
status_name n =
    if n == 0x0000_0000 then Some (codes "Good") else (
    if n == 0x8007_0000 then Some (codes "BadDecodingError") else (
    if n == 0x8009_0000 then Some (codes "BadUnknownResponse") else (
    if n == 0x800b_0000 then Some (codes "BadServiceUnsupported") else (
    if n == 0x8053_0000 then Some (codes "BadRequestTypeInvalid") else (
    if n == 0x8054_0000 then Some (codes "BadSecurityModeRejected") else (
    if n == 0x8055_0000 then Some (codes "BadSecurityPolicyRejected") else (
    if n == 0x807e_0000 then Some (codes "BadTcpMessageTypeInvalid") else (
    if n == 0x807f_0000 then Some (codes "BadTcpSecureChannelUnknown") else (
    if n == 0x8080_0000 then Some (codes "BadTcpMessageTooLarge") else (
    if n == 0x8081_0000 then Some (codes "BadTcpNotEnoughResources") else (
    if n == 0x8083_0000 then Some (codes "BadTcpEndpointUrlInvalid") else (
    if n == 0x8087_0000 then Some (codes "BadSecureChannelTokenUnknown") else (
    if n == 0x8088_0000 then Some (codes "BadSequenceNumberInvalid") else (
    if n == 0x80b9_0000 then Some (codes "BadResponseTooLarge") else (
    None)))))))))))))))

-- eight hex digits in upper case
abbrev pub status_digits : ℕ → List ℕ
status_digits n = replicate (8 - length (digits 16 true n)) 48 ++ digits 16 true n

abbrev pub with_name : List ℕ → Option (List ℕ) → List ℕ
with_name digits None = digits
with_name digits (Some name) = digits ++ 32 ∷ name

-- the digits, and the name behind a blank
abbrev pub status_text : ℕ → List ℕ
status_text n = with_name (status_digits n) (status_name n)
