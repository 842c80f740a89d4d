-- Ids of what was asked: each is below the next one, and so is each that a standing frame answers.
use Rattle.std.proofs.Common.{subst, ◌≡◌, ℕ, ◌<◌, ◌≤◌, Bool, true, false, cond, List, [], ◌∷◌, ◌++◌, Option, Some, None, refl, sym, ap, ◌∙◌, arith}
use Rattle.std.specs.Prelude.{◌==◌, ◌||◌, is_none, option_map}
use Rattle.std.specs.List.{filter, find}
use Rattle.std.proofs.lemmas.Bool.{not-false, and_parts, ne_eqb, eqb-true}
use Rattle.ua_frame.specs.Rows.{first_row}
use Rattle.ua_frame.specs.HeaderRows.{header_fault}
use Rattle.ua_frame.specs.Layout.{Frame, kind_of, flag_of}
use Rattle.ua_frame.specs.declared.kind.Kind.{Kind}
use Rattle.ua_frame.specs.declared.kind.Kind.TheVariants as kinds
use Rattle.ua_chunk.specs.Half.{ends_message}
use Rattle.ua_chunk.specs.Layout.{OpenChunk}
use Rattle.ua_service.specs.declared.request.Request.{Request}
use Rattle.ua_conn.specs.Past.{Past, is_open, is_message, carried, open_in}
use Rattle.ua_conn.specs.client.Asker.{Asker}
use Rattle.ua_conn.specs.client.Commands.{Act, Ask, Renew, Close, Commands, Asked, OpenAsked, asked_in, asked_by, opens_asked, opens_by, next_id, request_under}
use Rattle.ua_conn.specs.client.Past.{ClientKnown, client_known, awaits_reverse}
use Rattle.ua_conn.specs.client.Pending.{bytes_in, is_among, ends_one, opening_id, ended_ids, opened_ids, wanted_at, due_at, first_id}
use Rattle.ua_conn.specs.client.Faults.{greatest_answer, client_rows, client_fault_by, is_id, opened_rows, token_usable}
use Rattle.ua_conn.specs.client.Reading.{client_fault_at, client_reading}
use Rattle.ua_conn.specs.declared.client.fault.ClientFault.TheVariants.{Broken}
use Rattle.ua_conn.proofs.ClientEnd.ReadingLemmas.{along_reading}
use Rattle.ua_conn.proofs.KindLemmas.{is_open_tells, is_message_tells}
use Rattle.ua_conn.proofs.TableLemmas.{AllNo, all_no, or_none}

-- ---- rows of a frame that stands

-- the rows of a frame that stands, by its type
pub rows_of_kind : (a : Asker) (reverse : Bool) (k : ClientKnown) (due : Option ℕ) (wanted : Option Request) (usable : Bool) (f : Frame) (kind : Option Kind) → client_fault_by a reverse k due wanted usable f ≡ None → kind_of f.bytes ≡ kind →
    first_row (client_rows a reverse k due wanted usable f (flag_of f.bytes) kind) ≡ None
unfolding client_fault_by
rows_of_kind a reverse k due wanted usable f kind h e =
    ap (λ x. first_row (client_rows a reverse k due wanted usable f (flag_of f.bytes) x)) (sym e)
    ∙ or_none (option_map Broken (header_fault (greatest_answer k.ack) f.bytes)) (first_row (client_rows a reverse k due wanted usable f (flag_of f.bytes) (kind_of f.bytes))) h

-- a MSG that stands is wanted
pub message_wanted : (a : Asker) (reverse : Bool) (k : ClientKnown) (due : Option ℕ) (wanted : Option Request) (usable : Bool) (f : Frame) → client_fault_by a reverse k due wanted usable f ≡ None → is_message (kind_of f.bytes) ≡ true → is_none wanted ≡ false
message_wanted a reverse k due wanted usable f h m =
    let no = all_no (client_rows a reverse k due wanted usable f (flag_of f.bytes) (Some kinds.Message)) (rows_of_kind a reverse k due wanted usable f (Some kinds.Message) h (is_message_tells (kind_of f.bytes) m)) in
    no.1.1.1.1.1.1.0

-- an OPN that stands answers the open request that is due
pub open_due : (a : Asker) (reverse : Bool) (k : ClientKnown) (due : Option ℕ) (wanted : Option Request) (usable : Bool) (f : Frame) → client_fault_by a reverse k due wanted usable f ≡ None → is_open (kind_of f.bytes) ≡ true → is_id due (opening_id (open_in f)) ≡ true
open_due a reverse k due wanted usable f h m = by (open_in f) refl
  where
    no : AllNo (opened_rows k due (open_in f))
    no = (all_no (client_rows a reverse k due wanted usable f (flag_of f.bytes) (Some kinds.Open)) (rows_of_kind a reverse k due wanted usable f (Some kinds.Open) h (is_open_tells (kind_of f.bytes) m))).1

    by : (o : Option OpenChunk) → open_in f ≡ o → is_id due (opening_id (open_in f)) ≡ true
    by None e = let n : AllNo (opened_rows k due None) = subst (λ o. AllNo (opened_rows k due o)) e no in absurd (cc (n.0))
    by (Some opening) e =
        let n : AllNo (opened_rows k due (Some opening)) = subst (λ o. AllNo (opened_rows k due o)) e no in
        ap (λ o. is_id due (opening_id o)) e ∙ not-false (is_id due opening.request_id) (n.1.1.1.1.0)

-- ---- ids are below the next

abbrev pub AreBelow : ℕ → List Asked → Type 0
AreBelow n [] = Unit {0}
AreBelow n (x ∷ xs) = (x.id < n) × AreBelow n xs

abbrev pub OpensBelow : ℕ → List OpenAsked → Type 0
OpensBelow n [] = Unit {0}
OpensBelow n (x ∷ xs) = (x.id < n) × OpensBelow n xs

below_join : (n m : ℕ) (xs ys : List Asked) → n ≤ m → AreBelow n xs → AreBelow m ys → AreBelow m (xs ++ ys)
below_join n m [] ys le h k = k
below_join n m (x ∷ xs) ys le h k = (omega (arith, le, h.0), below_join n m xs ys le h.1 k)

opens_join : (n m : ℕ) (xs ys : List OpenAsked) → n ≤ m → OpensBelow n xs → OpensBelow m ys → OpensBelow m (xs ++ ys)
opens_join n m [] ys le h k = k
opens_join n m (x ∷ xs) ys le h k = (omega (arith, le, h.0), opens_join n m xs ys le h.1 k)

pub asked_below : (cmds : Commands) → AreBelow (next_id cmds) (asked_in cmds)
asked_below [] = tt
asked_below (c ∷ cmds) = below_join (next_id cmds) (next_id (c ∷ cmds)) (asked_in cmds) (asked_by (next_id cmds) c.seen c.act) (omega arith) (asked_below cmds) (one c.act)
  where
    one : (act : Act) → AreBelow (next_id (c ∷ cmds)) (asked_by (next_id cmds) c.seen act)
    one (Ask request part) = (omega arith, tt)
    one Renew = tt
    one Close = tt

pub opens_below : (cmds : Commands) → OpensBelow (next_id cmds) (opens_asked cmds)
opens_below [] = (omega arith, tt)
opens_below (c ∷ cmds) = opens_join (next_id cmds) (next_id (c ∷ cmds)) (opens_asked cmds) (opens_by (next_id cmds) c.seen c.act) (omega arith) (opens_below cmds) (one c.act)
  where
    one : (act : Act) → OpensBelow (next_id (c ∷ cmds)) (opens_by (next_id cmds) c.seen act)
    one (Ask request part) = tt
    one Renew = (omega arith, tt)
    one Close = tt

pub below_filter : (n : ℕ) (test : Asked → Bool) (xs : List Asked) → AreBelow n xs → AreBelow n (filter test xs)
below_filter n test [] h = tt
below_filter n test (x ∷ xs) h = by (test x) (below_filter n test xs h.1)
  where
    by : (b : Bool) → AreBelow n (filter test xs) → AreBelow n (cond b (x ∷ filter test xs) (filter test xs))
    by true k = (h.0, k)
    by false k = k

opens_filter : (n : ℕ) (test : OpenAsked → Bool) (xs : List OpenAsked) → OpensBelow n xs → OpensBelow n (filter test xs)
opens_filter n test [] h = tt
opens_filter n test (x ∷ xs) h = by (test x) (opens_filter n test xs h.1)
  where
    by : (b : Bool) → OpensBelow n (filter test xs) → OpensBelow n (cond b (x ∷ filter test xs) (filter test xs))
    by true k = (h.0, k)
    by false k = k

under_below : (n id : ℕ) (xs : List Asked) → AreBelow n xs → is_none (request_under id xs) ≡ false → id < n
under_below n id [] h e = absurd (cc e)
under_below n id (x ∷ xs) h e = by (x.id == id) refl e (under_below n id xs h.1)
  where
    by : (b : Bool) → (x.id == id) ≡ b → is_none (option_map (λ (a : Asked). a.request) (cond b (Some x) (find (λ a. a.id == id) xs))) ≡ false → (is_none (request_under id xs) ≡ false → id < n) → id < n
    by true same e rest = omega (arith, h.0, eqb-true x.id id same)
    by false same e rest = rest e

due_below : (n id : ℕ) (xs : List OpenAsked) → OpensBelow n xs → is_id (first_id xs) id ≡ true → id < n
due_below n id [] h e = absurd (cc e)
due_below n id (x ∷ xs) h e = omega (arith, h.0, eqb-true x.id id e)

-- ---- ids that are not given yet were not answered

pub record AreFresh (n : ℕ) (past : Past) : Type 0 where
  pub ended : (id : ℕ) → n ≤ id → is_among (ended_ids past) id ≡ false
  pub opened : (id : ℕ) → n ≤ id → is_among (opened_ids past) id ≡ false

pub unlike : (m id : ℕ) → m < id → (m == id) ≡ false
unlike m id lt = ne_eqb m id (λ e. omega (arith, lt, e))

-- an id that none of the first has is found among the others
pub find_new : (n : ℕ) (xs ys : List Asked) → AreBelow n xs → request_under n (xs ++ ys) ≡ request_under n ys
find_new n [] ys h = refl
find_new n (x ∷ xs) ys h = ap (λ b. option_map (λ (a : Asked). a.request) (cond b (Some x) (find (λ a. a.id == n) (xs ++ ys)))) (unlike x.id n h.0) ∙ find_new n xs ys h.1

pub other : (n id m : ℕ) (ids : List ℕ) → m < n → n ≤ id → is_among ids id ≡ false → is_among (m ∷ ids) id ≡ false
other n id m ids lt le h = ap (λ b. b || is_among ids id) (unlike m id (omega (arith, lt, le))) ∙ h

pub fresh_step : (a : Asker) (cmds : Commands) (past : Past) (f : Frame) → client_fault_at a cmds past f ≡ None → AreFresh (next_id cmds) past → AreFresh (next_id cmds) (f ∷ past)
fresh_step a cmds past f h fresh = record { ended = λ id le. ends id le (ends_one f) refl; opened = λ id le. opens id le (is_open (kind_of f.bytes)) refl }
  where
    end : ℕ
    end = bytes_in (f ∷ past)

    wanted : Option Request
    wanted = wanted_at cmds past end (carried f).request_id

    due : Option ℕ
    due = due_at cmds past end

    ends : (id : ℕ) → next_id cmds ≤ id → (b : Bool) → ends_one f ≡ b → is_among (ended_ids (f ∷ past)) id ≡ false
    ends id le false e = rw e (fresh.ended id le)
    ends id le true e =
        let some = message_wanted a (awaits_reverse a.reverse past) (client_known past) due wanted (token_usable (client_known past) f) f h (and_parts (is_message (kind_of f.bytes)) (ends_message (flag_of f.bytes)) e).0 in
        let lt = under_below (next_id cmds) (carried f).request_id _ (below_filter (next_id cmds) _ _ (below_filter (next_id cmds) _ (asked_in cmds) (asked_below cmds))) some in
        rw e (other (next_id cmds) id (carried f).request_id (ended_ids past) lt le (fresh.ended id le))

    opens : (id : ℕ) → next_id cmds ≤ id → (b : Bool) → is_open (kind_of f.bytes) ≡ b → is_among (opened_ids (f ∷ past)) id ≡ false
    opens id le false e = rw e (fresh.opened id le)
    opens id le true e =
        let is = open_due a (awaits_reverse a.reverse past) (client_known past) due wanted (token_usable (client_known past) f) f h e in
        let lt = due_below (next_id cmds) (opening_id (open_in f)) _ (opens_filter (next_id cmds) _ _ (opens_filter (next_id cmds) _ (opens_asked cmds) (opens_below cmds))) is in
        rw e (other (next_id cmds) id (opening_id (open_in f)) (opened_ids past) lt le (fresh.opened id le))

pub fresh : (a : Asker) (cmds : Commands) (past : Past) (fs : List Frame) (rest : List ℕ) → AreFresh (next_id cmds) past → AreFresh (next_id cmds) (client_reading a cmds past fs rest).past
fresh a cmds past fs rest h = along_reading (λ before. AreFresh (next_id cmds) before) a cmds (fresh_step a cmds) past fs rest h
