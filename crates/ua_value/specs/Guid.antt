-- Guids (OPC 10000-6, 5.2.2.6): three numbers and eight bytes.
use Rattle.std.specs.Prelude.{◌≡◌, ℕ, ◌++◌, List, length, take, drop, Some, None, nat_lt, if◌then◌else◌}
use Rattle.std.specs.Int.{w16, w32, to_be_bytes}
use Rattle.ua_value.specs.declared.guid.Guid.{Guid}
use Rattle.ua_value.specs.Format.{IsBytes, Format}
use Rattle.ua_value.specs.Number.{unsigned}
use Rattle.ua_value.specs.Sequence.{by, pair}

-- as many bytes, as they are
unfoldable pub raw : ℕ → Format (List ℕ)
raw n = record {
  grammar = record { spells = λ v b. (length v ≡ n) × IsBytes v × (b ≡ v); front = λ bytes. if nat_lt (length bytes) n then None else Some (take n bytes, drop n bytes) };
  canon = λ v. v;
  IsValue = λ v. (length v ≡ n) × IsBytes v;
}

unfoldable pub guid : Format Guid
guid = by
    (λ g. (g.data1, (g.data2, (g.data3, g.data4))))
    (λ p. record { data1 = p.0; data2 = p.1.0; data3 = p.1.1.0; data4 = p.1.1.1 })
    (pair (unsigned w32) (pair (unsigned w16) (pair (unsigned w16) (raw 8))))

-- the sixteen bytes whose digits are the text
abbrev pub digits_of : Guid → List ℕ
digits_of g = to_be_bytes w32 g.data1 ++ (to_be_bytes w16 g.data2 ++ (to_be_bytes w16 g.data3 ++ g.data4))
