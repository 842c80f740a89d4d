-- A reading stops at the least place.
use Rattle.std.proofs.Common.{◌≡◌, ℕ, Bool, true, false, cond, List, [], ◌∷◌, Option, Some, None, refl, ap}
use Rattle.ua_frame.specs.Layout.{Frame, kind_of}
use Rattle.ua_conn.specs.server.Site.{Site}
use Rattle.ua_conn.specs.Past.{Past, known, is_close}
use Rattle.ua_conn.specs.server.Faults.{fault_at}
use Rattle.ua_conn.specs.server.Replies.{Reading, reading}
use Rattle.ua_conn.specs.server.FirstFault.{at_fault, at_close, at_rest, First}
use Rattle.ua_conn.specs.declared.outcome.End.TheVariants.{Closed, Refused}

cases : (o : Option ℕ) (b : Bool) (site : Site) (past : Past) (f : Frame) (fs : List Frame) (rest : List ℕ) (R : Reading) → fault_at site (known site past) f ≡ o → is_close (kind_of f.bytes) ≡ b → First site (f ∷ past) fs rest R →
    First site past (f ∷ fs) rest (elim o [ Some status ↦ record { past = past; ending = Refused status } | None ↦ cond b (record { past = f ∷ past; ending = Closed }) R ])
cases (Some status) b site past f fs rest R p q h = record { before = []; left = f ∷ fs; split = refl; go_on = tt; stops = at_fault f fs status p refl }
cases None true site past f fs rest R p q h = record { before = []; left = f ∷ fs; split = refl; go_on = tt; stops = at_close f fs p q refl }
cases None false site past f fs rest R p q h = record { before = f ∷ h.before; left = h.left; split = ap (λ l. f ∷ l) h.split; go_on = (p, q, h.go_on); stops = h.stops }

pub first : (site : Site) (past : Past) (fs : List Frame) (rest : List ℕ) → First site past fs rest (reading site past fs rest)
first site past [] rest = record { before = []; left = []; split = refl; go_on = tt; stops = at_rest refl }
first site past (f ∷ fs) rest = cases (fault_at site (known site past) f) (is_close (kind_of f.bytes)) site past f fs rest (reading site (f ∷ past) fs rest) refl refl (first site (f ∷ past) fs rest)
