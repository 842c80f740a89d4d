-- What two parts of a text of differences say together.
use Rattle.std.proofs.Common.{◌≡◌, ◌<◌, ◌&&◌, ◌∙◌, ℕ, Bool, true, false, List, length, refl, sym, arith, subst, Result, OnOk}
use Rattle.std.proofs.lemmas.Result.{on_ok_weaker}
use Rattle.ua_compare.specs.Said.{Says}

pub says_both : (a b : Bool) (x y z : List ℕ) → Says a x y → Says b y z → Says (a && b) x z
says_both true true x y z first later = later ∙ first
says_both true false x y z first later = subst (λ l. length l < length z) first later
says_both false true x y z first later = subst (λ l. length x < length l) (sym later) first
says_both false false x y z first later = omega (arith, first, later)

-- the same where the later part comes last
pub says_then : {T E : Type 0} (a b : Bool) (x y z : List ℕ) (last : Result T E) → Says a x y → OnOk last (Says b y z) → OnOk last (Says (a && b) x z)
says_then a b x y z last first later = on_ok_weaker last (says_both a b x y z first) later

all_true : (u m p t : Bool) → (u && (m && (p && t))) ≡ true → (u ≡ true) × (m ≡ true) × (p ≡ true) × (t ≡ true)
all_true true true true true is = (refl, refl, refl, refl)
all_true true true true false is = absurd (cc)
all_true true true false t is = absurd (cc)
all_true true false p t is = absurd (cc)
all_true false m p t is = absurd (cc)

-- of two endpoints of one name the other fields decide
pub other_fields_decide : (u s c m p t r l : Bool) → (u && (m && (p && r))) ≡ true → (u && (s && (c && (m && (p && (t && (r && l))))))) ≡ (s && (c && (t && l)))
other_fields_decide u s c m p t r l is =
    let named = all_true u m p r is in
    let url : u ≡ true = named.0 in
    let mode : m ≡ true = named.1 in
    let policy : p ≡ true = named.2 in
    let transport : r ≡ true = named.3 in
    rw (url, mode, policy, transport) refl
