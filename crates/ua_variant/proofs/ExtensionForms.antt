use Rattle.std.proofs.Common.{◌≡◌, ◌<◌, ℕ, List, None, refl, arith}
use Rattle.std.proofs.lemmas.Bool.{ne_eqb}
use Rattle.ua_variant.specs.Extension.{body_behind}

-- no greater byte stands before a body
pub no_body : (k : ℕ) (bytes : List ℕ) → 2 < k → (body_behind k).front bytes ≡ None
no_body k bytes h = rw (ne_eqb k 0 (λ e. omega arith), ne_eqb k 1 (λ e. omega arith), ne_eqb k 2 (λ e. omega arith)) refl
