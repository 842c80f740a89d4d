-- How many open requests were asked, how many are pending and how many tokens came: tokens are no more than open requests, which are fewer than ids.
use Rattle.std.proofs.Common.{◌≡◌, ℕ, ◌+◌, ◌<◌, ◌≤◌, Bool, true, false, cond, List, [], ◌∷◌, map, length, None, refl, sym, ap, ◌∙◌, arith}
use Rattle.std.specs.Prelude.{◌==◌, nat_lt, not, is_some}
use Rattle.std.specs.List.{filter}
use Rattle.std.proofs.lemmas.List.{length-append}
use Rattle.std.proofs.lemmas.Bool.{or_parts, eq-eqb, eqb-true, ltb-false}
use Rattle.ua_frame.specs.Streams.{TimedByte, plain, rest_of}
use Rattle.ua_frame.specs.Layout.{Frame, frames_of, kind_of}
use Rattle.ua_conn.specs.Past.{Past, is_open, carried, open_in}
use Rattle.ua_conn.specs.client.Asker.{Asker}
use Rattle.ua_conn.specs.client.Commands.{Act, Ask, Renew, Close, Commands, OpenAsked, opens_asked, opens_by, next_id}
use Rattle.ua_conn.specs.client.Unanswered.{AreApart}
use Rattle.ua_conn.specs.client.Past.{client_known, awaits_reverse, granted_in, granted_by, response_in}
use Rattle.ua_conn.specs.client.Pending.{bytes_in, is_among, opening_id, opened_ids, wanted_at, opening_in, due_at, first_id}
use Rattle.ua_conn.specs.client.Faults.{is_id, token_usable}
use Rattle.ua_conn.specs.client.Reading.{client_fault_at, client_reading_of}
use Rattle.ua_conn.specs.client.Asking.{standing, asking_rows, renewing_rows, closing_rows, ask_fault}
use Rattle.ua_conn.specs.declared.client.ask_fault.AskFault.TheVariants.{Ended, NotOpen}
use Rattle.ua_conn.proofs.ClientEnd.ReadingLemmas.{along_reading}
use Rattle.ua_conn.proofs.TableLemmas.{all_no}
use Rattle.ua_conn.proofs.ClientEnd.FreshLemmas.{open_due}
use Rattle.ua_conn.proofs.ClientEnd.RunLemmas.{AtMostOne, opening_step, shorter}
use Rattle.ua_conn.proofs.ClientEnd.IdLemmas.{ids_opened, opens_apart, apart_part}

-- ---- one open response answers one open request

-- where none has an id, none goes with it,
pub none_dropped : {X : Type 0} (key : X → ℕ) (id : ℕ) (xs : List X) → is_among (map key xs) id ≡ false → filter (λ r. not (id == key r)) xs ≡ xs
none_dropped key id [] h = refl
none_dropped {X} key id (x ∷ xs) h = by (id == key x) refl (none_dropped key id xs parts.1)
  where
    parts : ((key x == id) ≡ false) × (is_among (map key xs) id ≡ false)
    parts = or_parts (key x == id) (is_among (map key xs) id) h

    by : (b : Bool) → (id == key x) ≡ b → filter (λ r. not (id == key r)) xs ≡ xs → cond (not b) (x ∷ filter (λ r. not (id == key r)) xs) (filter (λ r. not (id == key r)) xs) ≡ x ∷ xs
    by false e k = ap (λ (l : List X). x ∷ l) k
    by true e k = absurd (let c : true ≡ false = sym (eq-eqb (key x) id (sym (eqb-true id (key x) e))) ∙ parts.0 in cc c)

-- at most one goes,
drops_one : (id : ℕ) (xs : List OpenAsked) → AreApart (ids_opened xs) → length xs ≤ 1 + length (filter (λ r. not (id == r.id)) xs)
drops_one id [] h = omega arith
drops_one id (x ∷ xs) h = by (id == x.id) refl (drops_one id xs h.1)
  where
    by : (b : Bool) → (id == x.id) ≡ b → length xs ≤ 1 + length (filter (λ r. not (id == r.id)) xs) → length (x ∷ xs) ≤ 1 + length (cond (not b) (x ∷ filter (λ r. not (id == r.id)) xs) (filter (λ r. not (id == r.id)) xs))
    by false e k = omega (arith, k)
    by true e k =
        let all : filter (λ r. not (id == r.id)) xs ≡ xs = none_dropped (λ (r : OpenAsked). r.id) id xs (ap (is_among (ids_opened xs)) (eqb-true id x.id e) ∙ h.0) in
        omega (arith, ap length all)

-- and one at least, where it is the first of those that are due
drops_due : (p : OpenAsked → Bool) (id : ℕ) (xs : List OpenAsked) → is_id (first_id (filter p xs)) id ≡ true → length (filter (λ r. not (id == r.id)) xs) + 1 ≤ length xs
drops_due p id [] h = absurd (cc h)
drops_due p id (x ∷ xs) h = by (p x) (drops_due p id xs) h
  where
    one : (b : Bool) → (id == x.id) ≡ b → (id ≡ x.id) → length (cond (not b) (x ∷ filter (λ r. not (id == r.id)) xs) (filter (λ r. not (id == r.id)) xs)) + 1 ≤ length (x ∷ xs)
    one true e same = omega (arith, shorter (λ r. not (id == r.id)) xs)
    one false e same = absurd (let c : true ≡ false = sym (eq-eqb id x.id same) ∙ e in cc c)

    deep : (b : Bool) → length (filter (λ r. not (id == r.id)) xs) + 1 ≤ length xs → length (cond (not b) (x ∷ filter (λ r. not (id == r.id)) xs) (filter (λ r. not (id == r.id)) xs)) + 1 ≤ length (x ∷ xs)
    deep true k = omega (arith, k)
    deep false k = omega (arith, k)

    by : (b : Bool) → (is_id (first_id (filter p xs)) id ≡ true → length (filter (λ r. not (id == r.id)) xs) + 1 ≤ length xs) → is_id (first_id (cond b (x ∷ filter p xs) (filter p xs))) id ≡ true →
        length (filter (λ r. not (id == r.id)) (x ∷ xs)) + 1 ≤ length (x ∷ xs)
    by true more k = one (id == x.id) refl (sym (eqb-true x.id id k))
    by false more k = deep (id == x.id) (more k)

-- ---- tokens that came

granted_one : (past : Past) (f : Frame) → is_open (kind_of f.bytes) ≡ true → length (granted_in (f ∷ past)) ≡ length (granted_in past) + 1
granted_one past f e = let same : granted_in (f ∷ past) ≡ granted_by (response_in f) f.moment ∷ granted_in past = rw e refl in omega (arith, ap length same)

granted_quiet : (past : Past) (f : Frame) → is_open (kind_of f.bytes) ≡ false → granted_in (f ∷ past) ≡ granted_in past
granted_quiet past f e = rw e refl

opening_open : (cmds : Commands) (past : Past) (f : Frame) → is_open (kind_of f.bytes) ≡ true → opening_in cmds (f ∷ past) ≡ filter (λ r. not (opening_id (open_in f) == r.id)) (opening_in cmds past)
opening_open cmds past f e = opening_step cmds past f ∙ rw e refl

opening_quiet : (cmds : Commands) (past : Past) (f : Frame) → is_open (kind_of f.bytes) ≡ false → opening_in cmds (f ∷ past) ≡ opening_in cmds past
opening_quiet cmds past f e = opening_step cmds past f ∙ rw e refl

all_open : (xs : List OpenAsked) → filter (λ r. not (is_among [] r.id)) xs ≡ xs
all_open [] = refl
all_open (x ∷ xs) = ap (λ (l : List OpenAsked). x ∷ l) (all_open xs)

-- what was asked came, or is pending; after any frames
pub opens_most : (cmds : Commands) (past : Past) → length (opens_asked cmds) ≤ length (granted_in past) + length (opening_in cmds past)
opens_most cmds [] = omega (arith, ap length (all_open (opens_asked cmds)))
opens_most cmds (f ∷ past) = by (is_open (kind_of f.bytes)) refl (opens_most cmds past)
  where
    by : (b : Bool) → is_open (kind_of f.bytes) ≡ b → length (opens_asked cmds) ≤ length (granted_in past) + length (opening_in cmds past) → length (opens_asked cmds) ≤ length (granted_in (f ∷ past)) + length (opening_in cmds (f ∷ past))
    by true e k = omega (
      arith,
      k,
      granted_one past f e,
      ap length (opening_open cmds past f e),
      drops_one (opening_id (open_in f)) (opening_in cmds past) (apart_part (λ (r : OpenAsked). r.id) (λ r. not (is_among (opened_ids past) r.id)) (opens_asked cmds) (opens_apart cmds)),
    )
    by false e k = omega (arith, k, ap length (granted_quiet past f e), ap length (opening_quiet cmds past f e))

-- so that all but one of the tokens came, where one open request is pending at most
pub window : (cmds : Commands) (past : Past) → AtMostOne cmds past → length (opens_asked cmds) ≤ length (granted_in past) + 1
window cmds past h = omega (arith, h.one, opens_most cmds past)

-- as many at most as were asked, with those that are pending
pub record AreCounted (cmds : Commands) (past : Past) : Type 0 where
  pub few : length (granted_in past) + length (opening_in cmds past) ≤ length (opens_asked cmds)

-- Each open response that stands answers an open request of its own.
pub counted_step : (a : Asker) (cmds : Commands) (past : Past) (f : Frame) → client_fault_at a cmds past f ≡ None → AreCounted cmds past → AreCounted cmds (f ∷ past)
counted_step a cmds past f h k = record { few = by (is_open (kind_of f.bytes)) refl }
  where
    end : ℕ
    end = bytes_in (f ∷ past)

    by : (b : Bool) → is_open (kind_of f.bytes) ≡ b → length (granted_in (f ∷ past)) + length (opening_in cmds (f ∷ past)) ≤ length (opens_asked cmds)
    by true e =
        let due = open_due a (awaits_reverse a.reverse past) (client_known past) (due_at cmds past end) (wanted_at cmds past end (carried f).request_id) (token_usable (client_known past) f) f h e in
        omega (arith, k.few, granted_one past f e, ap length (opening_open cmds past f e), drops_due (λ r. nat_lt r.seen end) (opening_id (open_in f)) (opening_in cmds past) due)
    by false e = omega (arith, k.few, ap length (granted_quiet past f e), ap length (opening_quiet cmds past f e))

pub counted : (a : Asker) (cmds : Commands) (v : List TimedByte) → AreCounted cmds (client_reading_of a cmds v).past
counted a cmds v = along_reading (AreCounted cmds) a cmds (counted_step a cmds) [] (frames_of v) (plain (rest_of v)) (record { few = omega (arith, ap length (all_open (opens_asked cmds))) })

-- ---- tokens that were asked for

opens_one : (n seen : ℕ) (act : Act) → length (opens_by n seen act) ≤ 1
opens_one n seen (Ask request part) = omega arith
opens_one n seen Renew = omega arith
opens_one n seen Close = omega arith

-- one for the opening, and no more than one for each command
pub opens_few : (cmds : Commands) → length (opens_asked cmds) ≤ length cmds + 1
opens_few [] = omega arith
opens_few (c ∷ cmds) = omega (arith, opens_few cmds, opens_one (next_id cmds) c.seen c.act, length-append (opens_asked cmds) (opens_by (next_id cmds) c.seen c.act))

-- While ids are left, so are tokens.
pub tokens_left : (cmds : Commands) → next_id cmds ≤ 4294967295 → length (opens_asked cmds) < 4294967295
tokens_left cmds h = omega (arith, h, opens_few cmds)

-- ---- a command that is accepted

-- has an id that fits,
pub ids_left : (a : Asker) (cmds : Commands) (v : List TimedByte) (act : Act) → ask_fault a cmds v act ≡ None → next_id cmds ≤ 4294967295
ids_left a cmds v act h = by act h
  where
    r : Past
    r = (client_reading_of a cmds v).past

    by : (act : Act) → ask_fault a cmds v act ≡ None → next_id cmds ≤ 4294967295
    by (Ask request part) k =
        let no = all_no ((is_some (client_reading_of a cmds v).fault, Ended) ∷ (not (standing cmds r).channel_open, NotOpen) ∷ asking_rows (standing cmds r) request part) k in
        ltb-false 4294967295 (next_id cmds) no.1.1.1.1.0
    by Renew k =
        let no = all_no ((is_some (client_reading_of a cmds v).fault, Ended) ∷ (not (standing cmds r).channel_open, NotOpen) ∷ renewing_rows (standing cmds r)) k in
        ltb-false 4294967295 (next_id cmds) no.1.1.1.0
    by Close k =
        let no = all_no ((is_some (client_reading_of a cmds v).fault, Ended) ∷ (not (standing cmds r).channel_open, NotOpen) ∷ closing_rows (standing cmds r)) k in
        ltb-false 4294967295 (next_id cmds) no.1.1.1.1.0
