-- Floating point numbers (OPC 10000-6, 5.2.2.3), as their bits.
use Rattle.std.specs.Prelude.{refl}
use Rattle.std.specs.Int.{w32, w64, from_le_bytes}
use Rattle.ua_value.specs.declared.bits.FloatBits.{FloatBits}
use Rattle.ua_value.specs.declared.bits.DoubleBits.{DoubleBits}
use Rattle.ua_value.specs.Format.{Format, IsLawful}
use Rattle.ua_value.specs.Number.{unsigned}
use Rattle.ua_value.specs.NumberLaws.{lawful_unsigned, wide_32, wide_64}
use Rattle.ua_value.specs.Fixed.{IsFixed, fixed_unsigned, fixed_by, few_32, few_64}
use Rattle.ua_value.specs.Sequence.{by}
use Rattle.ua_value.specs.SequenceLaws.{lawful_by}

unfoldable pub float_bits : Format FloatBits
float_bits = by (λ f. f.0) (λ n. record { 0 = n }) (unsigned w32)

pub lawful_float_bits : IsLawful float_bits
unfolding float_bits
lawful_float_bits = lawful_by _ _ _ (λ f. refl) (λ n. refl) (lawful_unsigned w32 wide_32)

unfoldable pub double_bits : Format DoubleBits
double_bits = by (λ f. f.0) (λ n. record { 0 = n }) (unsigned w64)

pub lawful_double_bits : IsLawful double_bits
unfolding double_bits
lawful_double_bits = lawful_by _ _ _ (λ f. refl) (λ n. refl) (lawful_unsigned w64 wide_64)

pub fixed_float_bits : IsFixed float_bits 4 (λ bytes. record { 0 = from_le_bytes w32 bytes })
unfolding float_bits
fixed_float_bits = fixed_by (λ f. f.0) (λ n. record { 0 = n }) (unsigned w32) 4 (λ bytes. from_le_bytes w32 bytes) (fixed_unsigned w32 few_32 wide_32)

pub fixed_double_bits : IsFixed double_bits 8 (λ bytes. record { 0 = from_le_bytes w64 bytes })
unfolding double_bits
fixed_double_bits = fixed_by (λ f. f.0) (λ n. record { 0 = n }) (unsigned w64) 8 (λ bytes. from_le_bytes w64 bytes) (fixed_unsigned w64 few_64 wide_64)
