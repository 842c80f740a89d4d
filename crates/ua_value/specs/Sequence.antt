-- Grammars and formats made of others.
use Rattle.std.specs.Prelude.{◌≡◌, ℕ, ◌<◌, List, [], ◌∷◌, ◌++◌, Bool, true, false, Option, Some, None}
use Rattle.ua_value.specs.Format.{◌>>=◌, Grammar, Format}

-- the first and then the second
abbrev pub both : {V W : Type 0} → Grammar V → Grammar W → Grammar (V × W)
both {V} {W} f g = record {
  spells = λ v b. (x : List ℕ) × (y : List ℕ) × f.spells v.0 x × g.spells v.1 y × (b ≡ x ++ y);
  front = λ bytes. f.front bytes >>= λ x. (g.front x.1 >>= λ y. Some ((x.0, y.0), y.1));
}

-- what is made of a value is spelled as that value
abbrev pub made : {P V : Type 0} → (P → V) → Grammar P → Grammar V
made {P} make f = record {
  spells = λ v b. (p : P) × f.spells p b × (v ≡ make p);
  front = λ bytes. f.front bytes >>= λ x. Some (make x.0, x.1);
}

-- no value at all
abbrev pub never : {V : Type 0} → Grammar V
never = record { spells = λ v b. ⊥; front = λ bytes. None }

-- one value, with no bytes
abbrev pub absent : {V : Type 0} → V → Grammar V
absent none = record { spells = λ v b. (v ≡ none) × (b ≡ []); front = λ bytes. Some (none, bytes) }

-- the one or the other
abbrev pub either : {V : Type 0} → Bool → Grammar V → Grammar V → Grammar V
either true f g = f
either false f g = g

-- a part that is there where it is flagged, and else is the absent value
abbrev pub part : {V : Type 0} → Bool → V → Grammar V → Grammar V
part flagged none f = either flagged f (absent none)

abbrev pub behind : {V : Type 0} → (ℕ → Grammar V) → List ℕ → Option (V × List ℕ)
behind f [] = None
behind f (k ∷ rest) = (f k).front rest

-- a first byte, which says how the rest is spelled
abbrev pub headed : {V : Type 0} → (ℕ → Grammar V) → Grammar V
headed {V} f = record {
  spells = λ v b. (k : ℕ) × (rest : List ℕ) × (k < 256) × (f k).spells v rest × (b ≡ k ∷ rest);
  front = behind f;
}

-- ---- formats

abbrev pub pair : {V W : Type 0} → Format V → Format W → Format (V × W)
pair f g = record { grammar = both f.grammar g.grammar; canon = λ v. f.canon v.0 ++ g.canon v.1; IsValue = λ v. f.IsValue v.0 × g.IsValue v.1 }

-- a value is spelled as the one that it shows
abbrev pub by : {V W : Type 0} → (V → W) → (W → V) → Format W → Format V
by show back f = record {
  grammar = record { spells = λ v b. f.grammar.spells (show v) b; front = λ bytes. f.grammar.front bytes >>= λ x. Some (back x.0, x.1) };
  canon = λ v. f.canon (show v);
  IsValue = λ v. f.IsValue (show v);
}
