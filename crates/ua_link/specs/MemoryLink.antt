-- A link over memory: the pieces that are still to come, and the bytes that were sent.
use Rattle.std.specs.Prelude.{ℕ, List, [], ◌∷◌, ◌++◌, map, take, drop}
use Rattle.std.specs.Borrow.{Bor}

-- An empty piece is none.
abbrev pub before : List ℕ → List (List ℕ) → List (List ℕ)
before [] ps = ps
before (b ∷ bs) ps = (b ∷ bs) ∷ ps

abbrev pub filled : List (List ℕ) → List (List ℕ)
filled [] = []
filled (p ∷ ps) = before p (filled ps)

-- what contracts see of it
pub record Shown : Type 0 where
  pub pieces : List (List ℕ)
  pub sent : List ℕ
  -- the most bytes that one `send` takes
  pub limit : ℕ
  pub failures : ℕ

-- all bytes that are still to come
abbrev pub joined : List (List ℕ) → List ℕ
joined [] = []
joined (p ∷ ps) = p ++ joined ps

-- what a read with so much room gives: the next piece, or the part of it that fits
abbrev pub given : ℕ → List (List ℕ) → List ℕ
given room [] = []
given room (p ∷ ps) = take room p

-- what is still to come then
abbrev pub left_after : ℕ → List (List ℕ) → List (List ℕ)
left_after room [] = []
left_after room (p ∷ ps) = before (drop room p) ps

abbrev pub lent : List (Bor (List ℕ)) → List (List ℕ)
lent pieces = map (λ p. p.now) pieces
