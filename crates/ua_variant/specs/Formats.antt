-- The formats of variants and data values, with their laws.
use Rattle.std.proofs.Common.{◌≡◌, ℕ, List, Some}
use Rattle.ua_value.specs.Format.{Format, IsBytes, Takes, IsLawful}
use Rattle.ua_variant.specs.Values.{Variant, DataValue, deepest}
use Rattle.ua_variant.specs.Spelling.{IsWithin, IsDataWithin, canon, data_canon, IsVariant, IsDataValue}
use Rattle.ua_variant.specs.SpellingLaws.{nonempty, data_nonempty, shortest, data_shortest, sound, data_sound, canonical, data_canonical}
use Rattle.ua_variant.specs.Reading.{within, data_within}
use Rattle.ua_variant.specs.ReadingLaws.{within_reads, data_within_reads}
use Rattle.ua_variant.specs.WithinLaws.{within_spells, data_within_spells, spells_within, spells_data}

unfoldable pub variant_format : Format Variant
variant_format = record { grammar = record { spells = IsWithin deepest; front = (within deepest).front }; canon = canon; IsValue = IsVariant }

unfoldable pub data_format : Format DataValue
data_format = record { grammar = record { spells = IsDataWithin deepest; front = (data_within deepest).front }; canon = data_canon; IsValue = IsDataValue }

variant_takes : (bytes : List ℕ) (v : Variant) (rest : List ℕ) → IsBytes bytes → (within deepest).front bytes ≡ Some (v, rest) → Takes variant_format.grammar bytes v rest
unfolding variant_format
variant_takes bytes v rest fits e =
    let t = (within_reads deepest).takes bytes v rest fits e in
    record { text = t.text; parts = t.parts; spelled = within_spells deepest v t.text t.spelled }

data_takes : (bytes : List ℕ) (v : DataValue) (rest : List ℕ) → IsBytes bytes → (data_within deepest).front bytes ≡ Some (v, rest) → Takes data_format.grammar bytes v rest
unfolding data_format
data_takes bytes v rest fits e =
    let t = (data_within_reads deepest).takes bytes v rest fits e in
    record { text = t.text; parts = t.parts; spelled = data_within_spells deepest v t.text t.spelled }

pub lawful_variant : IsLawful variant_format
unfolding variant_format
lawful_variant = record {
  reads = record { takes = variant_takes; again = λ v a rest s. (within_reads deepest).again v a rest (spells_within v deepest a s.depth s.spells) };
  nonempty = λ v a s. nonempty v a s.spells;
  canonical = λ v h. record { spells = canonical v h.sound; depth = h.depth };
  shortest = λ v a s. shortest v a s.spells;
  a_value = λ v a s h. record { sound = sound v a h s.spells; depth = s.depth };
}

pub lawful_data : IsLawful data_format
unfolding data_format
lawful_data = record {
  reads = record { takes = data_takes; again = λ v a rest s. (data_within_reads deepest).again v a rest (spells_data v deepest a s.depth s.spells) };
  nonempty = λ v a s. data_nonempty v a s.spells;
  canonical = λ v h. record { spells = data_canonical v h.sound; depth = h.depth };
  shortest = λ v a s. data_shortest v a s.spells;
  a_value = λ v a s h. record { sound = data_sound v a h s.spells; depth = s.depth };
}
