-- More grammars made of others.
use Rattle.std.specs.Prelude.{◌≡◌, ℕ, List, ◌++◌, Bool, true, Option, Some, None, if◌then◌else◌}
use Rattle.ua_value.specs.Format.{◌>>=◌, Grammar}
use Rattle.ua_value.specs.Array.{SpellsArray, array_at}

-- a value, and then one whose grammar it decides
abbrev pub after : {V W : Type 0} → Grammar V → (V → Grammar W) → Grammar (V × W)
after {V} {W} f g = record {
  spells = λ v b. (x : List ℕ) × (y : List ℕ) × f.spells v.0 x × (g v.0).spells v.1 y × (b ≡ x ++ y);
  front = λ bytes. f.front bytes >>= λ x. ((g x.0).front x.1 >>= λ y. Some ((x.0, y.0), y.1));
}

-- the values that pass a test
abbrev pub passing : {V : Type 0} → (V → Bool) → Grammar V → Grammar V
passing {V} test g = record {
  spells = λ v b. (test v ≡ true) × g.spells v b;
  front = λ bytes. g.front bytes >>= λ x. (if test x.0 then Some x else None);
}

-- a count and as many values, or none
abbrev pub list : {V : Type 0} → Grammar V → Grammar (Option (List V))
list g = record { spells = SpellsArray g; front = array_at g }
