-- Parts of a moment that are smaller than its tick, OPC 10000-6, 5.2.2.17.
use Rattle.std.proofs.Common.{ℕ, ◌≤◌, min, refl, ap, arith, length}
use Rattle.std.specs.Int.{w16}
use Rattle.ua_value.specs.Format.{Format, IsLawful}
use Rattle.ua_value.specs.Number.{unsigned}
use Rattle.ua_value.specs.NumberLaws.{lawful_unsigned, wide_16}
use Rattle.ua_value.specs.Sequence.{made}
use Rattle.ua_value.specs.SequenceLaws.{made_reads}

-- more are read as the greatest
abbrev pub most_picoseconds : ℕ
most_picoseconds = 9999

abbrev pub capped : ℕ → ℕ
capped n = min n most_picoseconds

-- in steps of 10 picoseconds
unfoldable pub picoseconds : Format ℕ
picoseconds = record { grammar = made capped (unsigned w16).grammar; canon = (unsigned w16).canon; IsValue = λ n. n ≤ most_picoseconds }

pub lawful_picoseconds : IsLawful picoseconds
unfolding picoseconds unsigned
lawful_picoseconds = record {
  reads = made_reads capped (unsigned w16).grammar (lawful_unsigned w16 wide_16).reads;
  nonempty = λ v a s. (lawful_unsigned w16 wide_16).nonempty s.0 a s.1;
  canonical = λ v h. (v, (omega arith, refl), omega arith);
  shortest = λ v a s. omega (arith, ap length s.1.1);
  a_value = λ v a s h. omega (arith, s.2);
}
