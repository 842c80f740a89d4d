-- Moments (OPC 10000-6, 5.2.2.5), as a signed number of ticks.
use Rattle.std.specs.Prelude.{refl}
use Rattle.std.specs.Int.{w64, from_le_bytes, cast_signed}
use Rattle.ua_value.specs.declared.date.DateTime.{DateTime}
use Rattle.ua_value.specs.Format.{Format, IsLawful}
use Rattle.ua_value.specs.Number.{signed}
use Rattle.ua_value.specs.NumberLaws.{lawful_signed, wide_64}
use Rattle.ua_value.specs.Fixed.{IsFixed, fixed_signed, fixed_by, few_64}
use Rattle.ua_value.specs.Sequence.{by}
use Rattle.ua_value.specs.SequenceLaws.{lawful_by}

unfoldable pub date_time : Format DateTime
date_time = by (λ d. d.0) (λ z. record { 0 = z }) (signed w64)

pub lawful_date_time : IsLawful date_time
unfolding date_time
lawful_date_time = lawful_by _ _ _ (λ d. refl) (λ z. refl) (lawful_signed w64 wide_64)

pub fixed_date_time : IsFixed date_time 8 (λ bytes. record { 0 = cast_signed w64 (from_le_bytes w64 bytes) })
unfolding date_time
fixed_date_time = fixed_by (λ f. f.0) (λ n. record { 0 = n }) (signed w64) 8 (λ bytes. cast_signed w64 (from_le_bytes w64 bytes)) (fixed_signed w64 few_64 wide_64)
