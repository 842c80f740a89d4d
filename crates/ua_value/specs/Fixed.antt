-- Formats with so many bytes for each value, where any so many bytes are one.
use Rattle.std.proofs.Common.{◌≡◌, ◌<◌, ℕ, List, Bool, true, false, length, take, drop, Option, Some, None, cond, refl, ap, ◌∙◌, lit≤, ltb}
use Rattle.std.specs.Prelude.{nat_lt, if◌then◌else◌}
use Rattle.std.specs.Int.{Width, byte_len, from_le_bytes, cast_signed, w8, w16, w32, w64}
use Rattle.ua_value.specs.Format.{◌>>=◌, Format}
use Rattle.ua_value.specs.Number.{unsigned, signed}
use Rattle.ua_value.specs.NumberLaws.{IsWide}
use Rattle.ua_value.specs.Sequence.{by}

-- the value of the first so many bytes
abbrev pub fixed_at : {V : Type 0} → ℕ → (List ℕ → V) → List ℕ → Option (V × List ℕ)
fixed_at n value bytes = if nat_lt (length bytes) n then None else Some (value (take n bytes), drop n bytes)

pub record IsFixed {V : Type 0} (f : Format V) (n : ℕ) (value : List ℕ → V) : Type 0 where
  pub some : 0 < n
  pub few : n < 9
  pub front : (bytes : List ℕ) → f.grammar.front bytes ≡ fixed_at n value bytes

pub fixed_unsigned : (w : Width) → byte_len w < 9 → IsWide w → IsFixed (unsigned w) (byte_len w) (from_le_bytes w)
unfolding unsigned
fixed_unsigned w few wide = record { some = wide.some; few = few; front = λ bytes. refl }

pub fixed_signed : (w : Width) → byte_len w < 9 → IsWide w → IsFixed (signed w) (byte_len w) (λ bytes. cast_signed w (from_le_bytes w bytes))
unfolding signed
fixed_signed w few wide = record { some = wide.some; few = few; front = λ bytes. refl }

behind : {V W : Type 0} (back : W → V) (b : Bool) (w : W) (rest : List ℕ) → let here : Option (W × List ℕ) = cond b None (Some (w, rest)) in let made : Option (V × List ℕ) = cond b None (Some (back w, rest)) in (here >>= λ x. Some (back x.0, x.1)) ≡ made
behind back true w rest = refl
behind back false w rest = refl

pub fixed_by : {V W : Type 0} (show : V → W) (back : W → V) (f : Format W) (n : ℕ) (value : List ℕ → W) → IsFixed f n value → IsFixed (by show back f) n (λ bytes. back (value bytes))
fixed_by {V} {W} show back f n value law = record {
  some = law.some;
  few = law.few;
  front = λ bytes. ap (λ (r : Option (W × List ℕ)). r >>= λ x. Some (back x.0, x.1)) (law.front bytes) ∙ behind back (ltb (length bytes) n) (value (take n bytes)) (drop n bytes);
}

pub few_8 : byte_len w8 < 9
few_8 = lit≤ tt

pub few_16 : byte_len w16 < 9
few_16 = lit≤ tt

pub few_32 : byte_len w32 < 9
few_32 = lit≤ tt

pub few_64 : byte_len w64 < 9
few_64 = lit≤ tt
