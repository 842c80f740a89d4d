-- Reading frames on the whole past, and running over them on the record of what is held, is one on a client's side.
use Rattle.std.proofs.Common.{◌≡◌, ℕ, ◌<◌, ◌≤◌, Bool, true, false, cond, List, [], ◌∷◌, ◌++◌, length, Option, Some, None, refl, sym, ap, subst, ◌∙◌, arith, append_assoc}
use Rattle.std.specs.Prelude.{◌==◌, ◌||◌, ◌&&◌, not, is_some}
use Rattle.std.specs.List.{filter}
use Rattle.std.proofs.lemmas.List.{append-nil}
use Rattle.ua_frame.specs.Layout.{Frame, kind_of}
use Rattle.ua_frame.specs.declared.acknowledge.Ack.{Ack}
use Rattle.ua_service.specs.declared.request.Request.{Request}
use Rattle.ua_conn.specs.Past.{Past, is_open, carried, open_in}
use Rattle.ua_conn.specs.server.Held.{newest_first}
use Rattle.ua_conn.specs.client.Asker.{Asker, hello_by}
use Rattle.ua_conn.specs.client.Commands.{Commands, OpenAsked, opens_asked}
use Rattle.ua_conn.specs.client.Past.{client_known, acknowledge_frame_in, is_acknowledge, is_acknowledge_frame, is_reverse_frame, awaits_reverse, or_frame, ack_by, acknowledge_in}
use Rattle.ua_conn.specs.client.Pending.{bytes_in, is_among, opening_id, opened_ids, opening_in, due_in, first_id}
use Rattle.ua_conn.specs.client.Reading.{ClientReading, client_fault_at, client_reading, answer_at, answers}
use Rattle.ua_conn.specs.client.Sending.{Sent, Greeting, greets_by, greets, opens, opens_by, commands_say, sent_by}
use Rattle.ua_conn.specs.client.Machine.{Awaiting, awaiting_after, unless_id, frame_says, frame_answers, ClientRun, ahead_of, client_run}
use Rattle.ua_conn.specs.declared.client.answer.Answer.{Answer}
use Rattle.ua_conn.specs.declared.client.fault.ClientFault.{ClientFault}
use Rattle.ua_conn.proofs.ClientEnd.PlaceLemmas.{AllBehind}
use Rattle.ua_conn.proofs.BothEnds.FaithfulLemmas.{AllSeen, IsStarted, untold, acknowledged, commands_same, or_some}
use Rattle.ua_conn.proofs.ClientEnd.KnownLemmas.{client_known_step, found}
use Rattle.ua_conn.proofs.ClientEnd.RecordLemmas.{awaiting, fault_is_held, waiting_step, wanted_is}
use Rattle.ua_conn.proofs.ClientEnd.GreetingLemmas.{reverse_step, stands_reverse, is_one, awaited_no_more, IsGreeted, unheard, greeted, greets_same}

-- ---- one open request is pending at most

pub record AtMostOne (cmds : Commands) (past : Past) : Type 0 where
  pub one : length (opening_in cmds past) ≤ 1

-- what is left of what has ids, without one id more
pub without_more : {X : Type 0} (key : X → ℕ) (id : ℕ) (ids : List ℕ) (xs : List X) → filter (λ r. not (is_among (id ∷ ids) (key r))) xs ≡ filter (λ r. not (id == key r)) (filter (λ r. not (is_among ids (key r))) xs)
without_more key id ids [] = refl
without_more {X} key id ids (x ∷ xs) = by (id == key x) (is_among ids (key x)) refl (without_more key id ids xs)
  where
    by : (b c : Bool) → (id == key x) ≡ b → filter (λ r. not (is_among (id ∷ ids) (key r))) xs ≡ filter (λ r. not (id == key r)) (filter (λ r. not (is_among ids (key r))) xs) →
        cond (not (b || c)) (x ∷ filter (λ r. not (is_among (id ∷ ids) (key r))) xs) (filter (λ r. not (is_among (id ∷ ids) (key r))) xs)
        ≡ filter (λ r. not (id == key r)) (cond (not c) (x ∷ filter (λ r. not (is_among ids (key r))) xs) (filter (λ r. not (is_among ids (key r))) xs))
    by true true e h = h
    by true false e h = rw e h
    by false true e h = h
    by false false e h = rw e (ap (λ (l : List X). x ∷ l) h)

pub opening_step : (cmds : Commands) (past : Past) (f : Frame) → opening_in cmds (f ∷ past) ≡ cond (is_open (kind_of f.bytes)) (filter (λ r. not (opening_id (open_in f) == r.id)) (opening_in cmds past)) (opening_in cmds past)
opening_step cmds past f = by (is_open (kind_of f.bytes)) refl
  where
    by : (b : Bool) → is_open (kind_of f.bytes) ≡ b → opening_in cmds (f ∷ past) ≡ cond b (filter (λ r. not (opening_id (open_in f) == r.id)) (opening_in cmds past)) (opening_in cmds past)
    by true e = rw e (without_more (λ (r : OpenAsked). r.id) (opening_id (open_in f)) (opened_ids past) (opens_asked cmds))
    by false e = rw e refl

pub shorter : (test : OpenAsked → Bool) (xs : List OpenAsked) → length (filter test xs) ≤ length xs
shorter test [] = omega arith
shorter test (x ∷ xs) = by (test x) (shorter test xs)
  where
    by : (b : Bool) → length (filter test xs) ≤ length xs → length (cond b (x ∷ filter test xs) (filter test xs)) ≤ length (x ∷ xs)
    by true h = omega (arith, h)
    by false h = omega (arith, h)

pub one_step : (cmds : Commands) (past : Past) (f : Frame) → AtMostOne cmds past → AtMostOne cmds (f ∷ past)
one_step cmds past f h = record { one = by (is_open (kind_of f.bytes)) refl }
  where
    by : (b : Bool) → is_open (kind_of f.bytes) ≡ b → length (opening_in cmds (f ∷ past)) ≤ 1
    by true e =
        let s : opening_in cmds (f ∷ past) ≡ filter (λ r. not (opening_id (open_in f) == r.id)) (opening_in cmds past) = opening_step cmds past f ∙ rw e refl in
        omega (arith, h.one, ap length s, shorter (λ r. not (opening_id (open_in f) == r.id)) (opening_in cmds past))
    by false e = let s : opening_in cmds (f ∷ past) ≡ opening_in cmds past = opening_step cmds past f ∙ rw e refl in omega (arith, h.one, ap length s)

pub one_more : (cmds : Commands) (fs : List Frame) (past : Past) → AtMostOne cmds past → AtMostOne cmds (newest_first fs past)
one_more cmds [] past h = h
one_more cmds (f ∷ fs) past h = one_more cmds fs (f ∷ past) (one_step cmds past f h)

first_unless : (id : ℕ) (xs : List OpenAsked) → length xs ≤ 1 → first_id (filter (λ r. not (id == r.id)) xs) ≡ unless_id (first_id xs) id
first_unless id [] h = refl
first_unless id (x ∷ []) h = by (id == x.id)
  where
    by : (b : Bool) → first_id (cond (not b) (x ∷ []) []) ≡ cond b None (Some x.id)
    by true = refl
    by false = refl
first_unless id (x ∷ y ∷ xs) h = absurd (omega (arith, h))

due_step : (cmds : Commands) (past : Past) (f : Frame) → AtMostOne cmds past → due_in cmds (f ∷ past) ≡ cond (is_open (kind_of f.bytes)) (unless_id (due_in cmds past) (opening_id (open_in f))) (due_in cmds past)
due_step cmds past f h = ap first_id (opening_step cmds past f) ∙ by (is_open (kind_of f.bytes))
  where
    by : (b : Bool) → first_id (cond b (filter (λ r. not (opening_id (open_in f) == r.id)) (opening_in cmds past)) (opening_in cmds past)) ≡ cond b (unless_id (due_in cmds past) (opening_id (open_in f))) (due_in cmds past)
    by true = first_unless (opening_id (open_in f)) (opening_in cmds past) h.one
    by false = refl

-- what waits behind one more frame
pub awaiting_step : (a : Asker) (cmds : Commands) (past : Past) (f : Frame) → AtMostOne cmds past → awaiting a cmds (f ∷ past) ≡ awaiting_after (awaiting a cmds past) f
awaiting_step a cmds past f h = λ i. record { reverse = reverse_step a.reverse past f i; known = client_known_step f past i; pending = waiting_step cmds past f i; due = due_step cmds past f h i }

-- ---- what is sent at one more frame

-- the first open request, at the first Acknowledge
abbrev opens_at : Asker → Past → Frame → List Sent
opens_at a past f = cond (not (is_some (client_known past).ack) && is_acknowledge_frame f) (opens_by a (Some f)) []

opens_step : (a : Asker) (n : ℕ) (cmds : Commands) (past : Past) (f : Frame) → AllSeen n cmds → n < bytes_in (f ∷ past) → IsStarted cmds past →
    (greets a past ++ (opens a (f ∷ past) ++ commands_say a cmds (f ∷ past))) ≡ sent_by a cmds past ++ opens_at a past f
unfolding client_known
opens_step a n cmds past f seen lt started = by (acknowledge_frame_in past) refl started
  where
    test : Bool
    test = is_acknowledge_frame f

    same : commands_say a cmds (f ∷ past) ≡ commands_say a cmds past
    same = commands_same a n cmds (f ∷ []) past seen (lt, tt)

    silent : (o : Option Frame) (ack : Ack) → ack_by o ≡ Some ack → cond (not (is_some (ack_by o)) && test) (opens_by a (Some f)) [] ≡ []
    silent o ack e = rw e refl

    says : (b : Bool) → (greets a past ++ (opens_by a (cond b (Some f) None) ++ [])) ≡ (greets a past ++ []) ++ cond b (opens_by a (Some f)) []
    says true = ap (λ l. l ++ opens_by a (Some f)) (sym (append-nil (greets a past)))
    says false = ap (λ l. l ++ []) (sym (append-nil (greets a past)))

    by : (o : Option Frame) → acknowledge_frame_in past ≡ o → IsStarted cmds past → (greets a past ++ (opens a (f ∷ past) ++ commands_say a cmds (f ∷ past))) ≡ sent_by a cmds past ++ opens_at a past f
    by (Some g) e s =
        let ack = found past g e in
        (λ i. greets a past ++ (opens_by a ((or_some (acknowledge_frame_in past) g f test e ∙ sym e) i) ++ same i))
        ∙ sym (append-nil (sent_by a cmds past))
        ∙ ap (λ l. sent_by a cmds past ++ l) (sym (silent (acknowledge_frame_in past) ack.0 (ap ack_by e ∙ ack.1)))
    by None e (untold none) = subst (λ (cs : Commands). (greets a past ++ (opens a (f ∷ past) ++ commands_say a cs (f ∷ past))) ≡ sent_by a cs past ++ opens_at a past f) (sym none)
        (ap (λ o. greets a past ++ (opens_by a (or_frame o test f) ++ [])) e ∙ says test
        ∙ (λ i. (greets a past ++ (opens_by a (sym e i) ++ [])) ++ cond (not (is_some (ack_by (sym e i))) && test) (opens_by a (Some f)) []))
    by None e (acknowledged g k) = absurd (let c : None ≡ Some g = sym e ∙ k in cc)

-- at the first frame, where a ReverseHello is awaited: the Hello
reverse_says : (a : Asker) (f : Frame) → awaits_reverse a.reverse [] ≡ true → is_reverse_frame f ≡ true → is_acknowledge_frame f ≡ false →
    sent_by a [] (f ∷ []) ≡ sent_by a [] [] ++ frame_says a (awaiting a [] []) f
unfolding client_known
reverse_says a f h one other = by a.reverse (is_reverse_frame f) (is_acknowledge_frame f) h one other
  where
    by : (b t u : Bool) → (b && true) ≡ true → t ≡ true → u ≡ false →
        (cond b (greets_by a (cond t (Some f) None)) (Greeting (hello_by a) ∷ []) ++ (opens_by a (cond u (Some f) None) ++ []))
        ≡ (cond b [] (Greeting (hello_by a) ∷ []) ++ []) ++ (cond ((b && true) && t) (greets_by a (Some f)) [] ++ cond u (opens_by a (Some f)) [])
    by true true false p q r = refl
    by true true true p q r = absurd (cc r)
    by true false u p q r = absurd (cc q)
    by false t u p q r = absurd (cc p)

says_step : (a : Asker) (n : ℕ) (cmds : Commands) (past : Past) (f : Frame) → client_fault_at a cmds past f ≡ None → AllSeen n cmds → n < bytes_in (f ∷ past) → IsStarted cmds past → IsGreeted a past →
    sent_by a cmds (f ∷ past) ≡ sent_by a cmds past ++ frame_says a (awaiting a cmds past) f
says_step a n cmds past f h seen lt started g = by (awaits_reverse a.reverse past) refl g
  where
    first : cmds ≡ [] → past ≡ [] → awaits_reverse a.reverse past ≡ true → sent_by a cmds (f ∷ past) ≡ sent_by a cmds past ++ frame_says a (awaiting a cmds past) f
    first none e w =
        let is = stands_reverse a cmds past f h w in
        let other : is_acknowledge_frame f ≡ false = ap (λ k. is_acknowledge k && is_some (acknowledge_in f)) is.0 in
        let one = reverse_says a f (ap (awaits_reverse a.reverse) (sym e) ∙ w) (is_one f is) other in
        subst (λ (cs : Commands). sent_by a cs (f ∷ past) ≡ sent_by a cs past ++ frame_says a (awaiting a cs past) f) (sym none)
        (subst (λ (p : Past). sent_by a [] (f ∷ p) ≡ sent_by a [] p ++ frame_says a (awaiting a [] p) f) (sym e) one)

    untold_yet : past ≡ [] → IsStarted cmds past → cmds ≡ []
    untold_yet e (untold none) = none
    untold_yet e (acknowledged x k) = absurd (let clash : None ≡ Some x = ap acknowledge_frame_in (sym e) ∙ k in cc clash)

    by : (b : Bool) → awaits_reverse a.reverse past ≡ b → IsGreeted a past → sent_by a cmds (f ∷ past) ≡ sent_by a cmds past ++ frame_says a (awaiting a cmds past) f
    by true w (greeted k) = absurd (let clash : true ≡ false = sym w ∙ k in cc clash)
    by true w (unheard e) = first (untold_yet e started) e w
    by false w g =
        (λ i. greets_same a past f w i ++ (opens a (f ∷ past) ++ commands_say a cmds (f ∷ past)))
        ∙ opens_step a n cmds past f seen lt started
        ∙ (λ i. sent_by a cmds past ++ (cond (sym w i && is_reverse_frame f) (greets_by a (Some f)) [] ++ opens_at a past f))

started_step : (cmds : Commands) (past : Past) (f : Frame) → IsStarted cmds past → IsStarted cmds (f ∷ past)
started_step cmds past f (untold e) = untold e
started_step cmds past f (acknowledged g e) = acknowledged g (or_some (acknowledge_frame_in past) g f (is_acknowledge_frame f) e)

-- ---- the run

pub record IsClientRun (a : Asker) (cmds : Commands) (past : Past) (fs : List Frame) (R : ClientReading) (r : ClientRun) : Type 0 where
  pub said : sent_by a cmds R.past ≡ sent_by a cmds past ++ r.says
  pub answered : answers cmds R.past ≡ answers cmds past ++ r.answers
  pub fault_is : R.fault ≡ r.fault
  pub goes_on : r.fault ≡ None → R.past ≡ newest_first fs past
  pub after_is : r.fault ≡ None → awaiting a cmds (newest_first fs past) ≡ r.after

cases : (o : Option ClientFault) (a : Asker) (cmds : Commands) (past : Past) (f : Frame) (fs : List Frame) (says : List Sent) (given : List Answer) (R : ClientReading) (r : ClientRun) →
    (o ≡ None → sent_by a cmds (f ∷ past) ≡ sent_by a cmds past ++ says) → answers cmds (f ∷ past) ≡ answers cmds past ++ given → (o ≡ None → IsClientRun a cmds (f ∷ past) fs R r) →
    IsClientRun a cmds past (f ∷ fs)
    (elim o [ Some fault ↦ record { past = past; fault = Some fault } | None ↦ R ])
    (elim o [ Some fault ↦ record { says = []; answers = []; fault = Some fault; after = awaiting a cmds past } | None ↦ ahead_of says given r ])
cases (Some fault) a cmds past f fs says given R r s g h = record { said = sym (append-nil _); answered = sym (append-nil _); fault_is = refl; goes_on = λ e. absurd (cc e); after_is = λ e. absurd (cc e) }
cases None a cmds past f fs says given R r s g h = record {
  said = (h refl).said ∙ ap (λ l. l ++ r.says) (s refl) ∙ append_assoc (sent_by a cmds past) says r.says;
  answered = (h refl).answered ∙ ap (λ l. l ++ r.answers) g ∙ append_assoc (answers cmds past) given r.answers;
  fault_is = (h refl).fault_is;
  goes_on = (h refl).goes_on;
  after_is = (h refl).after_is;
}

pub client_run_is : (a : Asker) (n : ℕ) (cmds : Commands) (past : Past) (fs : List Frame) (rest : List ℕ) → AllSeen n cmds → AllBehind n past fs → IsStarted cmds past → IsGreeted a past → AtMostOne cmds past →
    IsClientRun a cmds past fs (client_reading a cmds past fs rest) (client_run a (awaiting a cmds past) fs rest)
client_run_is a n cmds past [] rest seen b s g one = record { said = sym (append-nil _); answered = sym (append-nil _); fault_is = refl; goes_on = λ e. refl; after_is = λ e. refl }
client_run_is a n cmds past (f ∷ fs) rest seen b s g one =
    let w = awaiting a cmds past in
    let R = client_reading a cmds (f ∷ past) fs rest in
    let run : client_fault_at a cmds past f ≡ None → IsClientRun a cmds (f ∷ past) fs R (client_run a (awaiting_after w f) fs rest) = λ h.
    subst (λ (w : Awaiting). IsClientRun a cmds (f ∷ past) fs R (client_run a w fs rest)) (awaiting_step a cmds past f one)
    (client_run_is a n cmds (f ∷ past) fs rest seen b.1 (started_step cmds past f s) (greeted (awaited_no_more a cmds past f h)) (one_step cmds past f one)) in
    let given : answers cmds (f ∷ past) ≡ answers cmds past ++ frame_answers w f =
    ap (λ (w : Option Request). answers cmds past ++ answer_at (client_known past) w f) (sym (wanted_is n (bytes_in (f ∷ past)) (carried f).request_id cmds past b.0 seen)) in
    subst (λ (o : Option ClientFault). IsClientRun a cmds past (f ∷ fs) (client_reading a cmds past (f ∷ fs) rest)
    (elim o [ Some fault ↦ record { says = []; answers = []; fault = Some fault; after = w } | None ↦ ahead_of (frame_says a w f) (frame_answers w f) (client_run a (awaiting_after w f) fs rest) ]))
    (sym (fault_is_held a n cmds past f b.0 seen))
    (cases (client_fault_at a cmds past f) a cmds past f fs (frame_says a w f) (frame_answers w f) R (client_run a (awaiting_after w f) fs rest)
    (λ h. says_step a n cmds past f h seen b.0 s g) given run)
