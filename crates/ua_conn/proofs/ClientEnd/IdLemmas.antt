-- Ids of open requests, of which no two are the same, and ids that are not given yet.
use Rattle.std.proofs.Common.{◌≡◌, ℕ, ◌<◌, ◌≤◌, Bool, true, false, cond, List, [], ◌∷◌, ◌++◌, map, refl, sym, ap, subst, ◌∙◌, arith}
use Rattle.std.specs.Prelude.{◌==◌, ◌||◌}
use Rattle.std.specs.List.{filter}
use Rattle.std.proofs.lemmas.List.{append-nil, map-append}
use Rattle.std.proofs.lemmas.Bool.{or_parts, ne_eqb}
use Rattle.ua_frame.specs.Layout.{Frame, kind_of}
use Rattle.ua_conn.specs.Past.{Past, is_open, carried, open_in}
use Rattle.ua_conn.specs.client.Commands.{Act, Ask, Renew, Close, Commands, OpenAsked, opens_asked, opens_by, next_id}
use Rattle.ua_conn.specs.client.Pending.{is_among, ends_one, opening_id, ended_ids, opened_ids}
use Rattle.ua_conn.specs.client.Unanswered.{AreApart}
use Rattle.ua_conn.proofs.ClientEnd.FreshLemmas.{OpensBelow, AreFresh, opens_below}

-- ---- no two are the same

abbrev pub ids_opened : List OpenAsked → List ℕ
ids_opened xs = map (λ (r : OpenAsked). r.id) xs

abbrev pub AllUnder : ℕ → List ℕ → Type 0
AllUnder n [] = Unit {0}
AllUnder n (m ∷ ms) = (m < n) × AllUnder n ms

not_last : (ns : List ℕ) (n m : ℕ) → n < m → is_among ns n ≡ false → is_among (ns ++ m ∷ []) n ≡ false
not_last [] n m lt h = ap (λ b. b || false) (ne_eqb m n (λ e. omega (arith, lt, e)))
not_last (k ∷ ns) n m lt h =
    let parts = or_parts (k == n) (is_among ns n) h in
    ap (λ b. b || is_among (ns ++ m ∷ []) n) parts.0 ∙ not_last ns n m lt parts.1

pub apart_last : (ns : List ℕ) (m : ℕ) → AllUnder m ns → AreApart ns → AreApart (ns ++ m ∷ [])
apart_last [] m u h = (refl, tt)
apart_last (n ∷ ns) m u h = (not_last ns n m u.0 h.0, apart_last ns m u.1 h.1)

opens_under : (n : ℕ) (xs : List OpenAsked) → OpensBelow n xs → AllUnder n (ids_opened xs)
opens_under n [] h = tt
opens_under n (x ∷ xs) h = (h.0, opens_under n xs h.1)

pub opens_apart : (cmds : Commands) → AreApart (ids_opened (opens_asked cmds))
opens_apart [] = (refl, tt)
opens_apart (c ∷ cmds) = subst AreApart (sym (map-append (λ (r : OpenAsked). r.id) (opens_asked cmds) (opens_by (next_id cmds) c.seen c.act))) (one c.act (opens_apart cmds))
  where
    one : (act : Act) → AreApart (ids_opened (opens_asked cmds)) → AreApart (ids_opened (opens_asked cmds) ++ ids_opened (opens_by (next_id cmds) c.seen act))
    one Renew h = apart_last (ids_opened (opens_asked cmds)) (next_id cmds) (opens_under (next_id cmds) (opens_asked cmds) (opens_below cmds)) h
    one (Ask request part) h = subst AreApart (sym (append-nil (ids_opened (opens_asked cmds)))) h
    one Close h = subst AreApart (sym (append-nil (ids_opened (opens_asked cmds)))) h

not_in_part : {X : Type 0} (key : X → ℕ) (p : X → Bool) (n : ℕ) (xs : List X) → is_among (map key xs) n ≡ false → is_among (map key (filter p xs)) n ≡ false
not_in_part key p n [] h = h
not_in_part key p n (x ∷ xs) h = by (p x) (not_in_part key p n xs parts.1)
  where
    parts : ((key x == n) ≡ false) × (is_among (map key xs) n ≡ false)
    parts = or_parts (key x == n) (is_among (map key xs) n) h

    by : (b : Bool) → is_among (map key (filter p xs)) n ≡ false → is_among (map key (cond b (x ∷ filter p xs) (filter p xs))) n ≡ false
    by true k = ap (λ b. b || is_among (map key (filter p xs)) n) parts.0 ∙ k
    by false k = k

-- nor are two of a part of them
pub apart_part : {X : Type 0} (key : X → ℕ) (p : X → Bool) (xs : List X) → AreApart (map key xs) → AreApart (map key (filter p xs))
apart_part key p [] h = tt
apart_part key p (x ∷ xs) h = by (p x) (apart_part key p xs h.1)
  where
    by : (b : Bool) → AreApart (map key (filter p xs)) → AreApart (map key (cond b (x ∷ filter p xs) (filter p xs)))
    by true k = (not_in_part key p (key x) xs h.0, k)
    by false k = k

-- ---- ids that are not given yet were not answered

pub fresh_later : (n m : ℕ) (past : Past) → n ≤ m → AreFresh n past → AreFresh m past
fresh_later n m past le h = record { ended = λ id k. h.ended id (omega (arith, le, k)); opened = λ id k. h.opened id (omega (arith, le, k)) }

-- and back to the frames before it
pub fresh_before : (n : ℕ) (past : Past) (f : Frame) → AreFresh n (f ∷ past) → AreFresh n past
fresh_before n past f h = record { ended = λ id le. ends id le (ends_one f) refl; opened = λ id le. opens id le (is_open (kind_of f.bytes)) refl }
  where
    ends : (id : ℕ) → n ≤ id → (b : Bool) → ends_one f ≡ b → is_among (ended_ids past) id ≡ false
    ends id le false e = let same : ended_ids (f ∷ past) ≡ ended_ids past = rw e refl in sym (ap (λ ids. is_among ids id) same) ∙ h.ended id le
    ends id le true e =
        let same : ended_ids (f ∷ past) ≡ (carried f).request_id ∷ ended_ids past = rw e refl in
        (or_parts ((carried f).request_id == id) (is_among (ended_ids past) id) (sym (ap (λ ids. is_among ids id) same) ∙ h.ended id le)).1

    opens : (id : ℕ) → n ≤ id → (b : Bool) → is_open (kind_of f.bytes) ≡ b → is_among (opened_ids past) id ≡ false
    opens id le false e = let same : opened_ids (f ∷ past) ≡ opened_ids past = rw e refl in sym (ap (λ ids. is_among ids id) same) ∙ h.opened id le
    opens id le true e =
        let same : opened_ids (f ∷ past) ≡ opening_id (open_in f) ∷ opened_ids past = rw e refl in
        (or_parts (opening_id (open_in f) == id) (is_among (opened_ids past) id) (sym (ap (λ ids. is_among ids id) same) ∙ h.opened id le)).1
