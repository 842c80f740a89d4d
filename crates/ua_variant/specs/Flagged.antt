-- Parts behind a mask, each where its bit is set.
use Rattle.std.specs.Prelude.{◌≡◌, ℕ, ◌+◌, List, [], ◌++◌, Bool, Option, Some, None, IfSome, is_some}
use Rattle.ua_value.specs.Format.{◌>>=◌, Grammar, Format}
use Rattle.ua_value.specs.Sequence.{both, made, part}
use Rattle.ua_value.specs.Localized.{has, flag}

-- the mask has the bit exactly where the part is there
abbrev pub Tells : ℕ → ℕ → Bool → Type 0
Tells bit mask there = has mask bit ≡ there

-- Values of parts that a mask flags.
pub record Flagged (V : Type 0) : Type 1 where
  -- what follows such a mask
  pub behind : ℕ → Grammar V
  -- the bits of the parts that are there
  pub mask : V → ℕ
  -- a mask says which parts are there
  pub Shows : ℕ → V → Type 0
  pub canon : V → List ℕ
  pub IsValue : V → Type 0

abbrev pub some_of : {V : Type 0} → V → Option V
some_of v = Some v

-- a part that is kept wherever it is flagged
abbrev pub kept_at : {V : Type 0} → Bool → Grammar V → Grammar (Option V)
kept_at flagged g = part flagged None (made some_of g)

abbrev pub canon_kept : {V : Type 0} → Format V → Option V → List ℕ
canon_kept f None = []
canon_kept f (Some v) = f.canon v

abbrev pub kept : {V : Type 0} → ℕ → Format V → Flagged (Option V)
kept {V} bit f = record {
  behind = λ mask. kept_at (has mask bit) f.grammar;
  mask = λ v. flag (is_some v) bit;
  Shows = λ mask v. Tells bit mask (is_some v);
  canon = canon_kept f;
  IsValue = λ v. IfSome v f.IsValue;
}

abbrev pub canon_unless_null : {V : Type 0} → Format (Option V) → Option V → List ℕ
canon_unless_null f None = []
canon_unless_null f (Some v) = f.canon (Some v)

-- a part of which null is the absent one, also where it is flagged
abbrev pub unless_null : {V : Type 0} → ℕ → Format (Option V) → Flagged (Option V)
unless_null bit f = record {
  behind = λ mask. part (has mask bit) None f.grammar;
  mask = λ v. flag (is_some v) bit;
  Shows = λ mask v. Tells bit mask (is_some v);
  canon = canon_unless_null f;
  IsValue = f.IsValue;
}

-- one part and then the others
abbrev pub then : {V W : Type 0} → Flagged V → Flagged W → Flagged (V × W)
then f g = record {
  behind = λ mask. both (f.behind mask) (g.behind mask);
  mask = λ v. f.mask v.0 + g.mask v.1;
  Shows = λ mask v. f.Shows mask v.0 × g.Shows mask v.1;
  canon = λ v. f.canon v.0 ++ g.canon v.1;
  IsValue = λ v. f.IsValue v.0 × g.IsValue v.1;
}

-- the parts of a structure
abbrev pub shown : {V W : Type 0} → (V → W) → (W → V) → Flagged W → Flagged V
shown show back f = record {
  behind = λ mask. record { spells = λ v b. (f.behind mask).spells (show v) b; front = λ bytes. (f.behind mask).front bytes >>= λ x. Some (back x.0, x.1) };
  mask = λ v. f.mask (show v);
  Shows = λ mask v. f.Shows mask (show v);
  canon = λ v. f.canon (show v);
  IsValue = λ v. f.IsValue (show v);
}
