-- Tables of refusals, of either end: that no row holds, row by row; tables joined; the one fault or else the other.
use Rattle.std.proofs.Common.{◌≡◌, Bool, true, false, cond, List, [], ◌∷◌, ◌++◌, Option, Some, None, refl, ap, ◌∙◌}
use Rattle.ua_frame.specs.Rows.{first_row, or_else}

-- each test fails
abbrev pub AllNo : {S : Type 0} → List (Bool × S) → Type 0
AllNo [] = Unit {0}
AllNo (row ∷ rows) = (row.0 ≡ false) × AllNo rows

-- of a table that lets something pass, the first row and the others do
pub first_passes : {S : Type 0} (b : Bool) (x : S) (o : Option S) → cond b (Some x) o ≡ None → (b ≡ false) × (o ≡ None)
first_passes true x o h = absurd (cc)
first_passes false x o h = (refl, h)

pub all_no : {S : Type 0} (rows : List (Bool × S)) → first_row rows ≡ None → AllNo rows
all_no [] h = tt
all_no (row ∷ rows) h = let p = first_passes row.0 row.1 (first_row rows) h in (p.0, all_no rows p.1)

pub no_row : {S : Type 0} (rows : List (Bool × S)) → AllNo rows → first_row rows ≡ None
no_row [] h = refl
no_row (row ∷ rows) h = ap (λ b. cond b (Some row.1) (first_row rows)) h.0 ∙ no_row rows h.1

-- behind rows of which none holds
pub join_none : {S : Type 0} (rows more : List (Bool × S)) → first_row rows ≡ None → first_row (rows ++ more) ≡ first_row more
join_none [] more h = refl
join_none (row ∷ rows) more h =
    let p = first_passes row.0 row.1 (first_row rows) h in
    ap (λ b. cond b (Some row.1) (first_row (rows ++ more))) p.0 ∙ join_none rows more p.1

-- ---- one table, or else another

pub or_front : {S : Type 0} (x y : Option S) → or_else x y ≡ None → x ≡ None
or_front None y h = refl
or_front (Some fault) y h = absurd (cc h)

pub or_none : {S : Type 0} (x y : Option S) → or_else x y ≡ None → y ≡ None
or_none None y h = h
or_none (Some fault) y h = absurd (cc h)
