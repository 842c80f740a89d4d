-- Lines with one more behind them.
use Rattle.std.proofs.Common.{◌≡◌, ◌∙◌, ℕ, List, [], ◌∷◌, ◌++◌, ap}
use Rattle.std.proofs.lemmas.Grind.{flat_map-append}
use Rattle.std.proofs.lemmas.List.{append-nil}
use Rattle.std.specs.Borrow.{Bor}
use Rattle.ua_walk.specs.Told.{Told}
use Rattle.ua_walk.specs.Parts.{joined}
use Rattle.ua_print.specs.Capture.{line_of, lines}

pub one_more : (told : List Told) (t : Told) → lines (told ++ (t ∷ [])) ≡ lines told ++ line_of t
one_more told t = flat_map-append line_of told (t ∷ []) ∙ ap (λ l. lines told ++ l) (append-nil (line_of t))

pub one_part : (body : Bor (List ℕ)) → joined (body ∷ []) ≡ body.now
one_part body = append-nil body.now
