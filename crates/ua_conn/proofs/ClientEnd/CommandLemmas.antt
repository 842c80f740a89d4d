-- One more command at a client: what it accepted it accepts still, what was answered stays, and what is asked for is wanted and due.
use Rattle.std.proofs.Common.{◌≡◌, ℕ, ◌≤◌, Bool, true, false, cond, not, List, [], ◌∷◌, ◌++◌, Option, Some, None, is_none, refl, sym, ap, ◌∙◌, arith}
use Rattle.std.specs.Prelude.{◌==◌, ◌||◌, ◌&&◌, nat_lt, option_map}
use Rattle.std.specs.List.{filter, find}
use Rattle.std.proofs.lemmas.List.Elements.{filter-append}
use Rattle.std.proofs.lemmas.Bool.{eq-eqb, ne_eqb, lt-ltb, or_parts}
use Rattle.ua_frame.specs.Rows.{first_row, or_else}
use Rattle.ua_frame.specs.Layout.{Frame, kind_of, flag_of}
use Rattle.ua_frame.specs.HeaderRows.{header_fault}
use Rattle.ua_frame.specs.declared.kind.Kind.{Kind}
use Rattle.ua_frame.specs.declared.kind.Kind.TheVariants as kinds
use Rattle.ua_chunk.specs.Layout.{abort_of}
use Rattle.ua_channel.specs.Token.{is_known}
use Rattle.ua_service.specs.declared.request.Request.{Request}
use Rattle.ua_conn.specs.Past.{Past, carried, is_message, is_open, open_in}
use Rattle.ua_conn.specs.client.Asker.{Asker}
use Rattle.ua_conn.specs.client.Commands.{Act, Ask, Renew, Close, Command, Commands, Asked, OpenAsked, asked_in, asked_by, opens_asked, opens_by, next_id, request_under}
use Rattle.ua_conn.specs.client.Past.{ClientKnown, client_known}
use Rattle.ua_conn.specs.client.Pending.{bytes_in, is_among, ends_one, ended_ids, opening_id, opened_ids, pending_in, wanted_at, opening_in, due_at, first_id}
use Rattle.ua_conn.specs.client.Faults.{greatest_answer, client_rows, client_fault_by, is_id, whole_response}
use Rattle.ua_conn.specs.client.Reading.{answer_at, answer_with, answers}
use Rattle.ua_conn.specs.BothEnds.{AllAfter}
use Rattle.ua_conn.specs.declared.client.answer.AnswerResult.TheVariants.{Response, Aborted}
use Rattle.ua_conn.specs.declared.client.fault.ClientFault.{ClientFault}
use Rattle.ua_conn.specs.declared.client.fault.ClientFault.TheVariants.{Broken}
use Rattle.ua_conn.proofs.ClientEnd.FreshLemmas.{find_new, asked_below, below_filter, message_wanted, open_due}
use Rattle.ua_conn.proofs.BothEnds.OnTheWayLemmas.{Accepts}
use Rattle.ua_conn.proofs.BothEnds.ClientWalkLemmas.{Wanted, ended_more}
use Rattle.ua_conn.proofs.BothEnds.OpeningWalkLemmas.{Due}

-- ---- what is pending stays pending

under_more : (id : ℕ) (xs ys : List Asked) (r : Request) → request_under id xs ≡ Some r → request_under id (xs ++ ys) ≡ Some r
under_more id [] ys r e = absurd (cc e)
under_more id (x ∷ xs) ys r e = by (x.id == id) (under_more id xs ys r) e
  where
    by : (b : Bool) → (request_under id xs ≡ Some r → request_under id (xs ++ ys) ≡ Some r) → option_map (λ (a : Asked). a.request) (cond b (Some x) (find (λ a. a.id == id) xs)) ≡ Some r
        → option_map (λ (a : Asked). a.request) (cond b (Some x) (find (λ a. a.id == id) (xs ++ ys))) ≡ Some r
    by true more h = h
    by false more h = more h

first_more : (xs ys : List OpenAsked) (id : ℕ) → first_id xs ≡ Some id → first_id (xs ++ ys) ≡ Some id
first_more [] ys id e = absurd (cc e)
first_more (x ∷ xs) ys id e = e

asked_joined : (c : Command) (cmds : Commands) (past : Past) (end : ℕ) →
    filter (λ a. nat_lt a.seen end) (pending_in (c ∷ cmds) past) ≡ filter (λ a. nat_lt a.seen end) (pending_in cmds past) ++ filter (λ a. nat_lt a.seen end) (filter (λ a. not (is_among (ended_ids past) a.id)) (asked_by (next_id cmds) c.seen c.act))
asked_joined c cmds past end =
    ap (filter (λ a. nat_lt a.seen end)) (filter-append (λ a. not (is_among (ended_ids past) a.id)) (asked_in cmds) (asked_by (next_id cmds) c.seen c.act))
    ∙ filter-append (λ a. nat_lt a.seen end) (pending_in cmds past) (filter (λ a. not (is_among (ended_ids past) a.id)) (asked_by (next_id cmds) c.seen c.act))

opens_joined : (c : Command) (cmds : Commands) (past : Past) (end : ℕ) →
    filter (λ r. nat_lt r.seen end) (opening_in (c ∷ cmds) past) ≡ filter (λ r. nat_lt r.seen end) (opening_in cmds past) ++ filter (λ r. nat_lt r.seen end) (filter (λ r. not (is_among (opened_ids past) r.id)) (opens_by (next_id cmds) c.seen c.act))
opens_joined c cmds past end =
    ap (filter (λ r. nat_lt r.seen end)) (filter-append (λ r. not (is_among (opened_ids past) r.id)) (opens_asked cmds) (opens_by (next_id cmds) c.seen c.act))
    ∙ filter-append (λ r. nat_lt r.seen end) (opening_in cmds past) (filter (λ r. not (is_among (opened_ids past) r.id)) (opens_by (next_id cmds) c.seen c.act))

pub wanted_stays : (c : Command) (cmds : Commands) (past : Past) (end id : ℕ) (r : Request) → wanted_at cmds past end id ≡ Some r → wanted_at (c ∷ cmds) past end id ≡ Some r
wanted_stays c cmds past end id r e =
    ap (request_under id) (asked_joined c cmds past end)
    ∙ under_more id (filter (λ a. nat_lt a.seen end) (pending_in cmds past)) (filter (λ a. nat_lt a.seen end) (filter (λ a. not (is_among (ended_ids past) a.id)) (asked_by (next_id cmds) c.seen c.act))) r e

pub due_stays : (c : Command) (cmds : Commands) (past : Past) (end id : ℕ) → due_at cmds past end ≡ Some id → due_at (c ∷ cmds) past end ≡ Some id
due_stays c cmds past end id e =
    ap first_id (opens_joined c cmds past end)
    ∙ first_more (filter (λ r. nat_lt r.seen end) (opening_in cmds past)) (filter (λ r. nat_lt r.seen end) (filter (λ r. not (is_among (opened_ids past) r.id)) (opens_by (next_id cmds) c.seen c.act))) id e

-- ---- what is accepted stays so

pub a_some : {A : Type 0} (o : Option A) → is_none o ≡ false → (x : A) × (o ≡ Some x)
a_some None e = absurd (cc e)
a_some (Some x) e = (x, refl)

is_some_id : (o : Option ℕ) (id : ℕ) → is_id o id ≡ true → (x : ℕ) × (o ≡ Some x)
is_some_id None id e = absurd (cc e)
is_some_id (Some x) id e = (x, refl)

-- A frame in which no row holds is one in which none holds where more is pending.
pub fault_stays : (a : Asker) (reverse : Bool) (k : ClientKnown) (due due' : Option ℕ) (wanted wanted' : Option Request) (usable : Bool) (f : Frame) → ((id : ℕ) → due ≡ Some id → due' ≡ Some id) → ((r : Request) → wanted ≡ Some r → wanted' ≡ Some r)
    → client_fault_by a reverse k due wanted usable f ≡ None → client_fault_by a reverse k due' wanted' usable f ≡ None
unfolding client_fault_by
fault_stays a reverse k due due' wanted wanted' usable f more_due more_wanted h = by (kind_of f.bytes) refl
  where
    head : Option ClientFault
    head = option_map Broken (header_fault (greatest_answer k.ack) f.bytes)

    table : Option ℕ → Option Request → Option Kind → Option ClientFault
    table d w kind = or_else head (first_row (client_rows a reverse k d w usable f (flag_of f.bytes) kind))

    here : (kind : Option Kind) → kind_of f.bytes ≡ kind → table due wanted kind ≡ None
    here kind e = ap (table due wanted) (sym e) ∙ h

    there : (kind : Option Kind) → kind_of f.bytes ≡ kind → table due' wanted' kind ≡ None → table due' wanted' (kind_of f.bytes) ≡ None
    there kind e t = ap (table due' wanted') e ∙ t

    by : (kind : Option Kind) → kind_of f.bytes ≡ kind → table due' wanted' (kind_of f.bytes) ≡ None
    by None e = there None e (here None e)
    by (Some kinds.Hello) e = there (Some kinds.Hello) e (here (Some kinds.Hello) e)
    by (Some kinds.Acknowledge) e = there (Some kinds.Acknowledge) e (here (Some kinds.Acknowledge) e)
    by (Some kinds.Error) e = there (Some kinds.Error) e (here (Some kinds.Error) e)
    by (Some kinds.ReverseHello) e = there (Some kinds.ReverseHello) e (here (Some kinds.ReverseHello) e)
    by (Some kinds.Open) e =
        let id = is_some_id due (opening_id (open_in f)) (open_due a reverse k due wanted usable f h (ap is_open e)) in
        there (Some kinds.Open) e (ap (λ d. table d wanted' (Some kinds.Open)) (more_due id.0 id.1 ∙ sym id.1) ∙ here (Some kinds.Open) e)
    by (Some kinds.Message) e =
        let r = a_some wanted (message_wanted a reverse k due wanted usable f h (ap is_message e)) in
        there (Some kinds.Message) e (ap (λ w. table due' w (Some kinds.Message)) (more_wanted r.0 r.1 ∙ sym r.1) ∙ here (Some kinds.Message) e)
    by (Some kinds.Close) e = there (Some kinds.Close) e (here (Some kinds.Close) e)

pub accepts_more : (a : Asker) (c : Command) (cmds : Commands) (past : Past) (f : Frame) → Accepts a cmds past f → Accepts a (c ∷ cmds) past f
accepts_more a c cmds past f h =
    let k = client_known past in
    let end = bytes_in (f ∷ past) in
    let id = (carried f).request_id in
    fault_stays a false k (due_at cmds past end) (due_at (c ∷ cmds) past end) (wanted_at cmds past end id) (wanted_at (c ∷ cmds) past end id) (is_known k.tokens (carried f).token) f
    (λ n. due_stays c cmds past end n) (λ r. wanted_stays c cmds past end id r) h

pub all_accept : (a : Asker) (c : Command) (cmds : Commands) (past : Past) (fs : List Frame) → AllAfter (Accepts a cmds) past fs → AllAfter (Accepts a (c ∷ cmds)) past fs
all_accept a c cmds past [] h = tt
all_accept a c cmds past (f ∷ fs) h = (accepts_more a c cmds past f h.0, all_accept a c cmds (f ∷ past) fs h.1)

-- ---- what was answered stays so

no_result : (id : ℕ) (o : Option Request) → answer_with id o None ≡ []
no_result id None = refl
no_result id (Some r) = refl

pub answer_quiet : (k : ClientKnown) (wanted : Option Request) (f : Frame) → ends_one f ≡ false → answer_at k wanted f ≡ []
unfolding answer_at
answer_quiet k wanted f e = by (is_message (kind_of f.bytes)) (flag_of f.bytes == 70) (flag_of f.bytes == 65) e
  where
    by : (m b c : Bool) → (m && (b || c)) ≡ false →
        cond m (answer_with (carried f).request_id wanted (cond b (option_map Response (whole_response k (carried f))) (cond c (option_map Aborted (abort_of (carried f).body)) None))) [] ≡ []
    by false b c h = refl
    by true true c h = absurd (cc h)
    by true false true h = absurd (cc h)
    by true false false h = no_result (carried f).request_id wanted

under_front : (id : ℕ) (xs ys : List Asked) → request_under id ys ≡ None → request_under id (xs ++ ys) ≡ request_under id xs
under_front id [] ys e = e
under_front id (x ∷ xs) ys e = by (x.id == id) (under_front id xs ys e)
  where
    by : (b : Bool) → request_under id (xs ++ ys) ≡ request_under id xs → option_map (λ (a : Asked). a.request) (cond b (Some x) (find (λ a. a.id == id) (xs ++ ys))) ≡ option_map (λ (a : Asked). a.request) (cond b (Some x) (find (λ a. a.id == id) xs))
    by true h = refl
    by false h = h

-- the new request has the next id
none_other : (n id seen : ℕ) (act : Act) (one two : Asked → Bool) → (n == id) ≡ false → request_under id (filter one (filter two (asked_by n seen act))) ≡ None
none_other n id seen (Ask request part) one two e = by (two x) (one x)
  where
    x : Asked
    x = record { id = n; request = request; seen = seen }

    last : (c : Bool) → request_under id (cond c (x ∷ []) []) ≡ None
    last true = ap (λ b. option_map (λ (a : Asked). a.request) (cond b (Some x) None)) e
    last false = refl

    by : (b c : Bool) → request_under id (filter one (cond b (x ∷ []) [])) ≡ None
    by true c = last (one x)
    by false c = refl
none_other n id seen Renew one two e = refl
none_other n id seen Close one two e = refl

pub wanted_same : (c : Command) (cmds : Commands) (past : Past) (end id : ℕ) → (next_id cmds == id) ≡ false → wanted_at (c ∷ cmds) past end id ≡ wanted_at cmds past end id
wanted_same c cmds past end id other =
    ap (request_under id) (asked_joined c cmds past end)
    ∙ under_front id (filter (λ a. nat_lt a.seen end) (pending_in cmds past)) (filter (λ a. nat_lt a.seen end) (filter (λ a. not (is_among (ended_ids past) a.id)) (asked_by (next_id cmds) c.seen c.act)))
    (none_other (next_id cmds) id c.seen c.act (λ a. nat_lt a.seen end) (λ a. not (is_among (ended_ids past) a.id)) other)

not_same : (m n : ℕ) → (m == n) ≡ false → (n == m) ≡ false
not_same m n e = ne_eqb n m (λ h. (let k : true ≡ false = sym (eq-eqb m n (sym h)) ∙ e in cc k))

-- An id that no whole message has yet has no answer, so a command with that id changes none.
pub answers_stay : (c : Command) (cmds : Commands) (past : Past) → is_among (ended_ids past) (next_id cmds) ≡ false → answers (c ∷ cmds) past ≡ answers cmds past
answers_stay c cmds [] h = refl
answers_stay c cmds (f ∷ past) h = by (answers_stay c cmds past) (ends_one f) refl
  where
    id : ℕ
    id = (carried f).request_id

    end : ℕ
    end = bytes_in (f ∷ past)

    by : (is_among (ended_ids past) (next_id cmds) ≡ false → answers (c ∷ cmds) past ≡ answers cmds past) → (b : Bool) → ends_one f ≡ b → answers (c ∷ cmds) (f ∷ past) ≡ answers cmds (f ∷ past)
    by again true one =
        let ended : is_among (ended_ids (f ∷ past)) (next_id cmds) ≡ is_among (id ∷ ended_ids past) (next_id cmds) = ap (λ l. is_among l (next_id cmds)) (ended_more f past true one) in
        let both = or_parts (id == next_id cmds) (is_among (ended_ids past) (next_id cmds)) (sym ended ∙ h) in
        λ i. again both.1 i ++ answer_at (client_known past) (wanted_same c cmds past end id (not_same id (next_id cmds) both.0) i) f
    by again false one =
        let before : is_among (ended_ids past) (next_id cmds) ≡ false = sym (ap (λ l. is_among l (next_id cmds)) (ended_more f past false one)) ∙ h in
        let nothing = answer_quiet (client_known past) (wanted_at (c ∷ cmds) past end id) f one ∙ sym (answer_quiet (client_known past) (wanted_at cmds past end id) f one) in
        λ i. again before i ++ nothing i

-- ---- what is new

-- A request is wanted from the place on at which it was asked.
pub new_wanted : (cmds : Commands) (request : Request) (part now seen place : ℕ) (ends : List ℕ) → is_among ends (next_id cmds) ≡ false → seen ≤ place
    → Wanted (record { act = Ask request part; moment = now; seen = seen } ∷ cmds) ends place (next_id cmds) request
new_wanted cmds request part now seen place ends none le past end same behind =
    let id = next_id cmds in
    let c : Command = record { act = Ask request part; moment = now; seen = seen } in
    let x : Asked = record { id = id; request = request; seen = seen } in
    let early : nat_lt seen end ≡ true = lt-ltb seen end (omega (arith, le, behind)) in
    let open_still : is_among (ended_ids past) id ≡ false = ap (λ l. is_among l id) same ∙ none in
    ap (request_under id) (asked_joined c cmds past end)
    ∙ find_new id (filter (λ a. nat_lt a.seen end) (pending_in cmds past)) (filter (λ a. nat_lt a.seen end) (filter (λ a. not (is_among (ended_ids past) a.id)) (x ∷ [])))
    (below_filter id (λ a. nat_lt a.seen end) (pending_in cmds past) (below_filter id (λ a. not (is_among (ended_ids past) a.id)) (asked_in cmds) (asked_below cmds)))
    ∙ ap (λ b. request_under id (filter (λ (a : Asked). nat_lt a.seen end) (cond (not b) (x ∷ []) []))) open_still
    ∙ ap (λ b. request_under id (cond b (x ∷ []) [])) early
    ∙ ap (λ b. option_map (λ (a : Asked). a.request) (cond b (Some x) None)) (eq-eqb id id refl)

-- An open request is due from the place on at which it was asked for, where all others were answered.
pub new_due : (cmds : Commands) (now seen place : ℕ) (opens : List ℕ) → filter (λ r. not (is_among opens r.id)) (opens_asked cmds) ≡ [] → is_among opens (next_id cmds) ≡ false → seen ≤ place
    → Due (record { act = Renew; moment = now; seen = seen } ∷ cmds) opens place (next_id cmds)
new_due cmds now seen place opens all none le past end same behind =
    let id = next_id cmds in
    let c : Command = record { act = Renew; moment = now; seen = seen } in
    let x : OpenAsked = record { id = id; seen = seen } in
    let early : nat_lt seen end ≡ true = lt-ltb seen end (omega (arith, le, behind)) in
    ap first_id (opens_joined c cmds past end)
    ∙ (λ i. first_id (filter (λ r. nat_lt r.seen end) (filter (λ r. not (is_among (same i) r.id)) (opens_asked cmds)) ++ filter (λ r. nat_lt r.seen end) (filter (λ r. not (is_among (same i) r.id)) (x ∷ []))))
    ∙ (λ i. first_id (filter (λ r. nat_lt r.seen end) (all i) ++ filter (λ r. nat_lt r.seen end) (filter (λ r. not (is_among opens r.id)) (x ∷ []))))
    ∙ ap (λ b. first_id (filter (λ (r : OpenAsked). nat_lt r.seen end) (cond (not b) (x ∷ []) []))) none
    ∙ ap (λ b. first_id (cond b (x ∷ []) [])) early
