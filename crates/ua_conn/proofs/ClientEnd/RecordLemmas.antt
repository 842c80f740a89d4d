-- What a client does next depends on what it holds alone: whether it refuses a command, and what one more frame is to it.
use Rattle.std.proofs.Common.{◌≡◌, ℕ, ◌<◌, Bool, true, false, cond, List, [], ◌∷◌, ◌++◌, map, length, Option, Some, refl, sym, ap, ◌∙◌, arith}
use Rattle.std.specs.Prelude.{◌==◌, ◌||◌, nat_lt, not, is_some, option_map}
use Rattle.std.specs.List.{filter, find}
use Rattle.std.proofs.lemmas.List.{length-map}
use Rattle.std.proofs.lemmas.List.Elements.{filter-append}
use Rattle.std.proofs.lemmas.Bool.{lt-ltb}
use Rattle.ua_frame.specs.Rows.{first_row}
use Rattle.ua_frame.specs.Layout.{Frame}
use Rattle.ua_service.specs.declared.request.Request.{Request}
use Rattle.ua_conn.specs.Past.{Past, carried}
use Rattle.ua_conn.specs.client.Asker.{Asker}
use Rattle.ua_conn.specs.client.Commands.{Act, Ask, Renew, Close, Commands, Asked, OpenAsked, asked_in, asked_by, opens_asked, opens_by, next_id, request_under, is_closed}
use Rattle.ua_conn.specs.client.Past.{client_known, awaits_reverse}
use Rattle.ua_conn.specs.client.Pending.{bytes_in, is_among, ends_one, ended_ids, opened_ids, pending_in, wanted_at, due_in, due_at, first_id}
use Rattle.ua_conn.specs.client.Faults.{client_fault_by, token_usable}
use Rattle.ua_conn.specs.client.Reading.{client_fault_at, client_reading_of}
use Rattle.ua_conn.specs.client.Asking.{standing, standing_by, act_rows, refusal}
use Rattle.ua_conn.specs.client.Held.{commands_of, stream_of, waiting_in, client_held, RefusedByRecord}
use Rattle.ua_conn.specs.client.Machine.{Awaiting, awaiting_fault, waiting_under, without}
use Rattle.ua_conn.specs.declared.client.fault.ClientFault.{ClientFault}
use Rattle.ua_conn.specs.declared.client.ask_fault.AskFault.TheVariants.{Ended, NotOpen}
use Rattle.ua_conn.proofs.BothEnds.FaithfulLemmas.{AllSeen}

-- ---- commands

pub refused_by_record : RefusedByRecord
unfolding client_held
refused_by_record a log act s =
    let cmds = commands_of log in
    let r = client_reading_of a cmds (stream_of log) in
    let same : length (waiting_in cmds r.past) ≡ length (pending_in cmds r.past) = length-map (pending_in cmds r.past) (λ w. (w.id, w.request)) in
    ap (λ (o : Option ClientFault). first_row ((is_some o, Ended) ∷ (not (standing cmds r.past).channel_open, NotOpen) ∷ act_rows (standing cmds r.past) act)) s.1
    ∙ ap (λ (n : ℕ). refusal (standing_by (client_known r.past) (is_closed cmds) n (due_in cmds r.past) (next_id cmds)) act) (sym same)

-- ---- frames

-- where all that a test passes is kept in two lists, so it is in both together
kept_join : {X : Type 0} (p test : X → Bool) (xs ys : List X) → filter p (filter test xs) ≡ filter test xs → filter p (filter test ys) ≡ filter test ys → filter p (filter test (xs ++ ys)) ≡ filter test (xs ++ ys)
kept_join p test xs ys h k = ap (filter p) (filter-append test xs ys) ∙ filter-append p (filter test xs) (filter test ys) ∙ (λ i. h i ++ k i) ∙ sym (filter-append test xs ys)

kept_one : {X : Type 0} (p test : X → Bool) (x : X) → p x ≡ true → filter p (filter test (x ∷ [])) ≡ filter test (x ∷ [])
kept_one {X} p test x e = by (test x)
  where
    by : (b : Bool) → filter p (cond b (x ∷ []) []) ≡ cond b (x ∷ []) []
    by true = ap (λ (c : Bool). cond c (x ∷ []) []) e
    by false = refl

-- what was asked by a place was asked before a later one
all_asked : (n end : ℕ) (cmds : Commands) → n < end → AllSeen n cmds → (test : Asked → Bool) → filter (λ a. nat_lt a.seen end) (filter test (asked_in cmds)) ≡ filter test (asked_in cmds)
unfolding AllSeen
all_asked n end [] lt h test = refl
all_asked n end (c ∷ cmds) lt h test = kept_join (λ (a : Asked). nat_lt a.seen end) test (asked_in cmds) (asked_by (next_id cmds) c.seen c.act) (all_asked n end cmds lt h.1 test) (of_one c.act)
  where
    of_one : (act : Act) → filter (λ (a : Asked). nat_lt a.seen end) (filter test (asked_by (next_id cmds) c.seen act)) ≡ filter test (asked_by (next_id cmds) c.seen act)
    of_one (Ask request part) = kept_one (λ (a : Asked). nat_lt a.seen end) test (record { id = next_id cmds; request = request; seen = c.seen }) (lt-ltb c.seen end (omega (arith, lt, h.0)))
    of_one Renew = refl
    of_one Close = refl

all_opens : (n end : ℕ) (cmds : Commands) → n < end → AllSeen n cmds → (test : OpenAsked → Bool) → filter (λ r. nat_lt r.seen end) (filter test (opens_asked cmds)) ≡ filter test (opens_asked cmds)
unfolding AllSeen
all_opens n end [] lt h test = kept_one (λ (r : OpenAsked). nat_lt r.seen end) test (record { id = 1; seen = 0 }) (lt-ltb 0 end (omega (arith, lt)))
all_opens n end (c ∷ cmds) lt h test = kept_join (λ (r : OpenAsked). nat_lt r.seen end) test (opens_asked cmds) (opens_by (next_id cmds) c.seen c.act) (all_opens n end cmds lt h.1 test) (of_one c.act)
  where
    of_one : (act : Act) → filter (λ (r : OpenAsked). nat_lt r.seen end) (filter test (opens_by (next_id cmds) c.seen act)) ≡ filter test (opens_by (next_id cmds) c.seen act)
    of_one (Ask request part) = refl
    of_one Renew = kept_one (λ (r : OpenAsked). nat_lt r.seen end) test (record { id = next_id cmds; seen = c.seen }) (lt-ltb c.seen end (omega (arith, lt, h.0)))
    of_one Close = refl

-- the request of an id, among those that wait
pub under_same : (id : ℕ) (xs : List Asked) → waiting_under id (map (λ a. (a.id, a.request)) xs) ≡ request_under id xs
under_same id [] = refl
under_same id (x ∷ xs) = by (x.id == id) (under_same id xs)
  where
    by : (b : Bool) → waiting_under id (map (λ a. (a.id, a.request)) xs) ≡ request_under id xs → option_map (λ (p : ℕ × Request). p.1) (cond b (Some (x.id, x.request)) (find (λ p. p.0 == id) (map (λ a. (a.id, a.request)) xs))) ≡ option_map (λ (a : Asked). a.request) (cond b (Some x) (find (λ a. a.id == id) xs))
    by true h = refl
    by false h = h

pub wanted_is : (n end id : ℕ) (cmds : Commands) (past : Past) → n < end → AllSeen n cmds → waiting_under id (waiting_in cmds past) ≡ wanted_at cmds past end id
wanted_is n end id cmds past lt h = under_same id (pending_in cmds past) ∙ ap (request_under id) (sym (all_asked n end cmds lt h (λ a. not (is_among (ended_ids past) a.id))))

pub due_is : (n end : ℕ) (cmds : Commands) (past : Past) → n < end → AllSeen n cmds → due_in cmds past ≡ due_at cmds past end
due_is n end cmds past lt h = ap first_id (sym (all_opens n end cmds lt h (λ r. not (is_among (opened_ids past) r.id))))

-- what waits behind some frames
abbrev pub awaiting : Asker → Commands → Past → Awaiting
awaiting a cmds past = record { reverse = awaits_reverse a.reverse past; known = client_known past; pending = waiting_in cmds past; due = due_in cmds past }

-- a frame that comes later is refused by what is held
pub fault_is_held : (a : Asker) (n : ℕ) (cmds : Commands) (past : Past) (f : Frame) → n < bytes_in (f ∷ past) → AllSeen n cmds → awaiting_fault a (awaiting a cmds past) f ≡ client_fault_at a cmds past f
fault_is_held a n cmds past f lt h =
    let k = client_known past in
    let end = bytes_in (f ∷ past) in
    λ i. client_fault_by a (awaits_reverse a.reverse past) k (due_is n end cmds past lt h i) (wanted_is n end (carried f).request_id cmds past lt h i) (token_usable k f) f

-- what waits behind one more frame
without_same : (id : ℕ) (ids : List ℕ) (xs : List Asked) → map (λ a. (a.id, a.request)) (filter (λ a. not (is_among (id ∷ ids) a.id)) xs) ≡ without id (map (λ a. (a.id, a.request)) (filter (λ a. not (is_among ids a.id)) xs))
without_same id ids [] = refl
without_same id ids (x ∷ xs) = by (id == x.id) (is_among ids x.id) refl (without_same id ids xs)
  where
    rest : List (ℕ × Request)
    rest = map (λ a. (a.id, a.request)) (filter (λ a. not (is_among (id ∷ ids) a.id)) xs)

    rest' : List (ℕ × Request)
    rest' = without id (map (λ a. (a.id, a.request)) (filter (λ a. not (is_among ids a.id)) xs))

    by : (b c : Bool) → (id == x.id) ≡ b → rest ≡ rest' →
        map (λ (a : Asked). (a.id, a.request)) (cond (not (b || c)) (x ∷ filter (λ a. not (is_among (id ∷ ids) a.id)) xs) (filter (λ a. not (is_among (id ∷ ids) a.id)) xs))
        ≡ without id (map (λ (a : Asked). (a.id, a.request)) (cond (not c) (x ∷ filter (λ a. not (is_among ids a.id)) xs) (filter (λ a. not (is_among ids a.id)) xs)))
    by true true e h = h
    by true false e h = rw e h
    by false true e h = h
    by false false e h = rw e (ap (λ (l : List (ℕ × Request)). (x.id, x.request) ∷ l) h)

pub waiting_step : (cmds : Commands) (past : Past) (f : Frame) → waiting_in cmds (f ∷ past) ≡ cond (ends_one f) (without (carried f).request_id (waiting_in cmds past)) (waiting_in cmds past)
waiting_step cmds past f = by (ends_one f) refl
  where
    by : (b : Bool) → ends_one f ≡ b → waiting_in cmds (f ∷ past) ≡ cond b (without (carried f).request_id (waiting_in cmds past)) (waiting_in cmds past)
    by true e = rw e (without_same (carried f).request_id (ended_ids past) (asked_in cmds))
    by false e = rw e refl
