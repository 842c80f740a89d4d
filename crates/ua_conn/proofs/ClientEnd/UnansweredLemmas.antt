-- What is pending is what was asked less what was answered: along a reading each message that ends is answered once, under the id of a request that is pending no more.
use Rattle.std.proofs.Common.{◌≡◌, ℕ, ◌+◌, Bool, true, false, cond, not, List, [], ◌∷◌, ◌++◌, map, length, Option, Some, None, is_none, refl, sym, ap, subst, ◌∙◌, arith}
use Rattle.std.specs.Prelude.{◌==◌, ◌||◌, ◌&&◌, nat_lt, option_map}
use Rattle.std.specs.List.{filter, find, AllByRecursion}
use Rattle.std.proofs.lemmas.List.{append-nil, length-append, length-map, map-append}
use Rattle.std.proofs.lemmas.Bool.{and_parts, or_parts, eqb-true}
use Rattle.ua_frame.specs.Streams.{TimedByte, plain, rest_of}
use Rattle.ua_frame.specs.Layout.{Frame, frames_of, kind_of, flag_of}
use Rattle.ua_frame.specs.declared.kind.Kind.TheVariants as kinds
use Rattle.ua_chunk.specs.Half.{ends_message}
use Rattle.ua_chunk.specs.Layout.{abort_of}
use Rattle.ua_service.specs.declared.request.Request.{Request}
use Rattle.ua_service.specs.declared.response.Response.{Response}
use Rattle.ua_conn.specs.Past.{Past, is_message, carried}
use Rattle.ua_conn.specs.client.Asker.{Asker}
use Rattle.ua_conn.specs.client.Commands.{Act, Ask, Renew, Close, Commands, Asked, asked_in, asked_by, next_id, request_under}
use Rattle.ua_conn.specs.client.Past.{ClientKnown, client_known, awaits_reverse}
use Rattle.ua_conn.specs.client.Pending.{bytes_in, is_among, ends_one, ended_ids, pending_in, wanted_at, due_at}
use Rattle.ua_conn.specs.client.Faults.{client_rows, client_fault_by, broken, whole_rows, whole_response, token_usable}
use Rattle.ua_conn.specs.client.Reading.{client_fault_at, client_reading_of, answer_with, answer_at, answers, result_by, matched}
use Rattle.ua_conn.specs.client.Held.{commands_of, stream_of, waiting_in, client_held}
use Rattle.ua_conn.specs.client.Unanswered.{ids_of, AreApart, IsLess, PendingIsUnanswered}
use Rattle.ua_conn.specs.declared.client.answer.Answer.{Answer}
use Rattle.ua_conn.specs.declared.client.answer.AnswerResult.{AnswerResult}
use Rattle.ua_conn.specs.declared.client.answer.AnswerResult.TheVariants as results
use Rattle.ua_conn.proofs.KindLemmas.{is_message_tells}
use Rattle.ua_conn.proofs.TableLemmas.{AllNo, all_no}
use Rattle.ua_conn.proofs.ClientEnd.ReadingLemmas.{along_reading}
use Rattle.ua_conn.proofs.ClientEnd.FreshLemmas.{rows_of_kind, AreBelow, asked_below}
use Rattle.ua_conn.proofs.ClientEnd.IdLemmas.{AllUnder, apart_last, apart_part}
use Rattle.ua_conn.proofs.ClientEnd.RunLemmas.{without_more}
use Rattle.ua_conn.proofs.ClientEnd.CountLemmas.{none_dropped}
use Rattle.ua_conn.proofs.ClientEnd.CommandLemmas.{a_some, answer_quiet}
use Rattle.ua_conn.proofs.ClientEnd.WaitingLemmas.{either_way}

-- ---- a message that ends is answered once

-- a part flagged F or A, in which no row holds, has a result
some_result : (whole aborted : Bool) (o : Option Response) (p : Option ℕ) → (whole || aborted) ≡ true → (aborted && is_none p) ≡ false → (whole ≡ true → is_none o ≡ false) →
    (r : AnswerResult) × (cond whole (option_map results.Response o) (cond aborted (option_map results.Aborted p) None) ≡ Some r)
some_result true aborted (Some r) p e m w = (results.Response r, refl)
some_result true aborted None p e m w = absurd (let c : true ≡ false = w refl in cc c)
some_result false true o (Some status) e m w = (results.Aborted status, refl)
some_result false true o None e m w = absurd (cc m)
some_result false false o p e m w = absurd (cc e)

whole_row : (b : Bool) (wanted : Option Request) (o : Option Response) → AllNo (broken (cond b (whole_rows wanted o) [])) → b ≡ true → is_none o ≡ false
whole_row true wanted o h e = h.0
whole_row false wanted o h e = absurd (cc e)

given_one : (m : Bool) (id : ℕ) (wanted : Option Request) (result : Option AnswerResult) (q : Request) (r : AnswerResult) → m ≡ true → wanted ≡ Some q → result ≡ Some r →
    cond m (answer_with id wanted result) [] ≡ record { id = id; request = q; result = r } ∷ []
given_one m id wanted result q r e w s = λ i. cond (e i) (answer_with id (w i) (s i)) []

record OneAnswer (k : ClientKnown) (wanted : Option Request) (f : Frame) : Type 0 where
  request : Request
  result : AnswerResult
  was : wanted ≡ Some request
  is : answer_at k wanted f ≡ record { id = (carried f).request_id; request = request; result = result } ∷ []

one_answer : (a : Asker) (reverse : Bool) (k : ClientKnown) (due : Option ℕ) (wanted : Option Request) (usable : Bool) (f : Frame) → client_fault_by a reverse k due wanted usable f ≡ None → ends_one f ≡ true → OneAnswer k wanted f
unfolding answer_at
one_answer a reverse k due wanted usable f h e =
    let flag = flag_of f.bytes in
    let c = carried f in
    let parts = and_parts (is_message (kind_of f.bytes)) (ends_message flag) e in
    let no = all_no (client_rows a reverse k due wanted usable f flag (Some kinds.Message)) (rows_of_kind a reverse k due wanted usable f (Some kinds.Message) h (is_message_tells (kind_of f.bytes) parts.0)) in
    let q = a_some wanted no.1.1.1.1.1.1.0 in
    let r = some_result (flag == 70) (flag == 65) (whole_response k c) (abort_of c.body) parts.1 no.1.1.1.1.1.1.1.1.0 (whole_row (flag == 70) wanted (whole_response k c) no.1.1.1.1.1.1.1.1.1) in
    record { request = q.0; result = r.0; was = q.1; is = given_one (is_message (kind_of f.bytes)) c.request_id wanted (result_by k flag c) q.0 r.0 parts.0 q.1 r.1 }

-- ---- what was asked under an id

asked_under : (n : ℕ) (xs : List Asked) → AreBelow n xs → AllUnder n (map (λ (a : Asked). a.id) xs)
asked_under n [] h = tt
asked_under n (x ∷ xs) h = (h.0, asked_under n xs h.1)

asked_apart : (cmds : Commands) → AreApart (map (λ (a : Asked). a.id) (asked_in cmds))
asked_apart [] = tt
asked_apart (c ∷ cmds) = subst AreApart (sym (map-append (λ (a : Asked). a.id) (asked_in cmds) (asked_by (next_id cmds) c.seen c.act))) (one c.act (asked_apart cmds))
  where
    here : List ℕ
    here = map (λ (a : Asked). a.id) (asked_in cmds)

    one : (act : Act) → AreApart here → AreApart (here ++ map (λ (a : Asked). a.id) (asked_by (next_id cmds) c.seen act))
    one (Ask request part) h = apart_last here (next_id cmds) (asked_under (next_id cmds) (asked_in cmds) (asked_below cmds)) h
    one Renew h = subst AreApart (sym (append-nil here)) h
    one Close h = subst AreApart (sym (append-nil here)) h

-- under an id that none has there is none
none_under : (id : ℕ) (xs : List Asked) → is_among (map (λ (a : Asked). a.id) xs) id ≡ false → request_under id xs ≡ None
none_under id [] h = refl
none_under id (x ∷ xs) h =
    let parts = or_parts (x.id == id) (is_among (map (λ (a : Asked). a.id) xs) id) h in
    ap (λ b. option_map (λ (a : Asked). a.request) (cond b (Some x) (find (λ a. a.id == id) xs))) parts.0 ∙ none_under id xs parts.1

-- what is found among some of them is found among all
under_whole : (p : Asked → Bool) (id : ℕ) (xs : List Asked) (q : Request) → AreApart (map (λ (a : Asked). a.id) xs) → request_under id (filter p xs) ≡ Some q → request_under id xs ≡ Some q
under_whole p id [] q h e = e
under_whole p id (x ∷ xs) q h e = by (p x) (under_whole p id xs q h.1) e
  where
    kept : (c : Bool) → (request_under id (filter p xs) ≡ Some q → request_under id xs ≡ Some q) → option_map (λ (a : Asked). a.request) (cond c (Some x) (find (λ a. a.id == id) (filter p xs))) ≡ Some q
        → option_map (λ (a : Asked). a.request) (cond c (Some x) (find (λ a. a.id == id) xs)) ≡ Some q
    kept true more k = k
    kept false more k = more k

    left_out : (c : Bool) → (x.id == id) ≡ c → request_under id xs ≡ Some q → option_map (λ (a : Asked). a.request) (cond c (Some x) (find (λ a. a.id == id) xs)) ≡ Some q
    left_out false s k = k
    left_out true s k =
        let none = none_under id xs (ap (is_among (map (λ (a : Asked). a.id) xs)) (sym (eqb-true x.id id s)) ∙ h.0) in
        absurd (let clash : None ≡ Some q = sym none ∙ k in cc clash)

    by : (b : Bool) → (request_under id (filter p xs) ≡ Some q → request_under id xs ≡ Some q) → request_under id (cond b (x ∷ filter p xs) (filter p xs)) ≡ Some q → request_under id (x ∷ xs) ≡ Some q
    by true more k = kept (x.id == id) more k
    by false more k = left_out (x.id == id) refl (more k)

-- an id under which something is left did not end
still_open : (ended : List ℕ) (id : ℕ) (xs : List Asked) (q : Request) → request_under id (filter (λ a. not (is_among ended a.id)) xs) ≡ Some q → is_among ended id ≡ false
still_open ended id [] q e = absurd (cc e)
still_open ended id (x ∷ xs) q e = by (is_among ended x.id) refl (still_open ended id xs q) e
  where
    left : List Asked
    left = filter (λ a. not (is_among ended a.id)) xs

    first : (c : Bool) → (x.id == id) ≡ c → is_among ended x.id ≡ false → (request_under id left ≡ Some q → is_among ended id ≡ false) → option_map (λ (a : Asked). a.request) (cond c (Some x) (find (λ a. a.id == id) left)) ≡ Some q
        → is_among ended id ≡ false
    first true s out more k = ap (is_among ended) (sym (eqb-true x.id id s)) ∙ out
    first false s out more k = more k

    by : (b : Bool) → is_among ended x.id ≡ b → (request_under id left ≡ Some q → is_among ended id ≡ false) → request_under id (cond (not b) (x ∷ left) left) ≡ Some q → is_among ended id ≡ false
    by false out more k = first (x.id == id) refl out more k
    by true out more k = more k

-- of those that are apart, one goes with its id
drops_asked : (id : ℕ) (xs : List Asked) (q : Request) → AreApart (map (λ (a : Asked). a.id) xs) → request_under id xs ≡ Some q → length (filter (λ a. not (id == a.id)) xs) + 1 ≡ length xs
drops_asked id [] q h e = absurd (cc e)
drops_asked id (x ∷ xs) q h e = by (id == x.id) refl (drops_asked id xs q h.1)
  where
    rest : List Asked
    rest = filter (λ a. not (id == a.id)) xs

    by : (b : Bool) → (id == x.id) ≡ b → (request_under id xs ≡ Some q → length rest + 1 ≡ length xs) → length (cond (not b) (x ∷ rest) rest) + 1 ≡ length (x ∷ xs)
    by true s more =
        let all : rest ≡ xs = none_dropped (λ (a : Asked). a.id) id xs (ap (is_among (map (λ (a : Asked). a.id) xs)) (eqb-true id x.id s) ∙ h.0) in
        omega (arith, ap length all)
    by false s more =
        let behind : request_under id xs ≡ Some q = sym (ap (λ b. option_map (λ (a : Asked). a.request) (cond b (Some x) (find (λ a. a.id == id) xs))) (either_way x.id id ∙ s)) ∙ e in
        omega (arith, more behind)

-- ---- lists with one more at their end

among_last : (ns : List ℕ) (m n : ℕ) → is_among (ns ++ m ∷ []) n ≡ (m == n || is_among ns n)
among_last [] m n = refl
among_last (k ∷ ns) m n = ap (λ b. k == n || b) (among_last ns m n) ∙ swap (k == n) (m == n) (is_among ns n)
  where
    swap : (p q r : Bool) → (p || (q || r)) ≡ (q || (p || r))
    swap true true r = refl
    swap true false r = refl
    swap false true r = refl
    swap false false r = refl

apart_more : (ns : List ℕ) (m : ℕ) → is_among ns m ≡ false → AreApart ns → AreApart (ns ++ m ∷ [])
apart_more [] m out h = (refl, tt)
apart_more (n ∷ ns) m out h =
    let parts = or_parts (n == m) (is_among ns m) out in
    (among_last ns m n ∙ ap (λ b. b || is_among ns n) (either_way m n ∙ parts.0) ∙ h.0, apart_more ns m parts.1 h.1)

all_more : {A : Type 0} (P : A → Type 0) (xs : List A) (x : A) → AllByRecursion P xs → P x → AllByRecursion P (xs ++ x ∷ [])
all_more P [] x h p = (p, tt)
all_more P (y ∷ xs) x h p = (h.0, all_more P xs x h.1 p)

-- ---- along a reading

-- what is left of what was asked, where the messages of these ids ended
abbrev left_of : Commands → List ℕ → List Asked
left_of cmds ended = filter (λ a. not (is_among ended a.id)) (asked_in cmds)

record Tally (cmds : Commands) (ended : List ℕ) (given : List Answer) : Type 0 where
  same : (n : ℕ) → is_among (ids_of given) n ≡ is_among ended n
  own : AllByRecursion (λ (i : Answer). request_under i.id (asked_in cmds) ≡ Some i.request) given
  once : AreApart (ids_of given)
  all : length (left_of cmds ended) + length given ≡ length (asked_in cmds)

all_left : (xs : List Asked) → filter (λ a. not (is_among [] a.id)) xs ≡ xs
all_left [] = refl
all_left (x ∷ xs) = ap (λ (l : List Asked). x ∷ l) (all_left xs)

tally_none : (cmds : Commands) → Tally cmds [] []
tally_none cmds = record { same = λ n. refl; own = tt; once = tt; all = omega (arith, ap length (all_left (asked_in cmds))) }

tally_more : (cmds : Commands) (ended : List ℕ) (given : List Answer) (x : Answer) → request_under x.id (left_of cmds ended) ≡ Some x.request → Tally cmds ended given → Tally cmds (x.id ∷ ended) (given ++ x ∷ [])
tally_more cmds ended given x e t =
    let out = still_open ended x.id (asked_in cmds) x.request e in
    let ids = map-append (λ (i : Answer). i.id) given (x ∷ []) in
    let apart = apart_part (λ (a : Asked). a.id) (λ a. not (is_among ended a.id)) (asked_in cmds) (asked_apart cmds) in
    let fewer : length (left_of cmds (x.id ∷ ended)) ≡ length (filter (λ (a : Asked). not (x.id == a.id)) (left_of cmds ended)) = ap length (without_more (λ (a : Asked). a.id) x.id ended (asked_in cmds)) in
    let gone : length (filter (λ (a : Asked). not (x.id == a.id)) (left_of cmds ended)) + 1 ≡ length (left_of cmds ended) = drops_asked x.id (left_of cmds ended) x.request apart e in
    record {
      same = λ n. ap (λ ns. is_among ns n) ids ∙ among_last (ids_of given) x.id n ∙ ap (λ b. x.id == n || b) (t.same n);
      own = all_more (λ (i : Answer). request_under i.id (asked_in cmds) ≡ Some i.request) given x t.own (under_whole (λ a. not (is_among ended a.id)) x.id (asked_in cmds) x.request (asked_apart cmds) e);
      once = subst AreApart (sym ids) (apart_more (ids_of given) x.id (t.same x.id ∙ out) t.once);
      all = omega (arith, t.all, fewer, gone, length-append given (x ∷ []));
    }

tally_step : (a : Asker) (cmds : Commands) (past : Past) (f : Frame) → client_fault_at a cmds past f ≡ None → Tally cmds (ended_ids past) (answers cmds past) → Tally cmds (ended_ids (f ∷ past)) (answers cmds (f ∷ past))
tally_step a cmds past f h t = by (ends_one f) refl
  where
    end : ℕ
    end = bytes_in (f ∷ past)

    id : ℕ
    id = (carried f).request_id

    k : ClientKnown
    k = client_known past

    wanted : Option Request
    wanted = wanted_at cmds past end id

    by : (b : Bool) → ends_one f ≡ b → Tally cmds (ended_ids (f ∷ past)) (answers cmds (f ∷ past))
    by false e =
        let ended : ended_ids (f ∷ past) ≡ ended_ids past = rw e refl in
        let given : answers cmds (f ∷ past) ≡ answers cmds past = ap (λ (l : List Answer). answers cmds past ++ l) (answer_quiet k wanted f e) ∙ append-nil (answers cmds past) in
        subst (λ (ns : List ℕ). Tally cmds ns (answers cmds (f ∷ past))) (sym ended) (subst (λ (is : List Answer). Tally cmds (ended_ids past) is) (sym given) t)
    by true e =
        let ended : ended_ids (f ∷ past) ≡ id ∷ ended_ids past = rw e refl in
        let one = one_answer a (awaits_reverse a.reverse past) k (due_at cmds past end) wanted (token_usable k f) f h e in
        let x : Answer = record { id = id; request = one.request; result = one.result } in
        let given : answers cmds (f ∷ past) ≡ answers cmds past ++ x ∷ [] = ap (λ (l : List Answer). answers cmds past ++ l) one.is in
        let apart = apart_part (λ (a : Asked). a.id) (λ a. not (is_among (ended_ids past) a.id)) (asked_in cmds) (asked_apart cmds) in
        let asked = under_whole (λ a. nat_lt a.seen end) id (pending_in cmds past) one.request apart one.was in
        subst (λ (ns : List ℕ). Tally cmds ns (answers cmds (f ∷ past))) (sym ended)
        (subst (λ (is : List Answer). Tally cmds (id ∷ ended_ids past) is) (sym given) (tally_more cmds (ended_ids past) (answers cmds past) x asked t))

tally : (a : Asker) (cmds : Commands) (v : List TimedByte) → Tally cmds (ended_ids (client_reading_of a cmds v).past) (matched a cmds v)
tally a cmds v = along_reading (λ past. Tally cmds (ended_ids past) (answers cmds past)) a cmds (tally_step a cmds) [] (frames_of v) (plain (rest_of v)) (tally_none cmds)

is_less : (cmds : Commands) (past : Past) (given : List Answer) → Tally cmds (ended_ids past) given → IsLess cmds given (waiting_in cmds past)
is_less cmds past given t =
    let many : length (waiting_in cmds past) ≡ length (pending_in cmds past) = length-map (pending_in cmds past) (λ w. (w.id, w.request)) in
    record {
      left = sym (λ i. map (λ (w : Asked). (w.id, w.request)) (filter (λ w. not (t.same w.id i)) (asked_in cmds)));
      own = t.own;
      once = t.once;
      all = ap (λ n. n + length given) many ∙ t.all;
    }

pub pending_law : PendingIsUnanswered
unfolding client_held
pending_law a log =
    let cmds = commands_of log in
    is_less cmds (client_reading_of a cmds (stream_of log)).past (matched a cmds (stream_of log)) (tally a cmds (stream_of log))
