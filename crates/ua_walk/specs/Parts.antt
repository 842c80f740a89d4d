-- A message in parts, which lie apart.
use Rattle.std.specs.Prelude.{ℕ, List}
use Rattle.std.specs.Borrow.{Bor}
use Rattle.std.specs.List.{flat_map}

-- the parts joined, each behind the one before
abbrev pub joined : List (Bor (List ℕ)) → List ℕ
joined parts = flat_map (λ p. p.now) parts
