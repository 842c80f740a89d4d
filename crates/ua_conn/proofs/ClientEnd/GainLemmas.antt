-- What one more event brings to a client that has not failed depends on the record of what it holds and the event alone.
use Rattle.std.proofs.Common.{◌≡◌, ℕ, ◌+◌, ◌≤◌, max, Bool, true, false, cond, List, [], ◌∷◌, ◌++◌, map, length, Option, Some, None, refl, sym, ap, subst, ◌∙◌, arith, append_assoc}
use Rattle.std.specs.Prelude.{◌||◌, not, is_some}
use Rattle.std.specs.List.{filter}
use Rattle.std.proofs.lemmas.List.{append-nil, length-append, map-append}
use Rattle.std.proofs.lemmas.List.Elements.{filter-append}
use Rattle.std.proofs.lemmas.Bool.{le-leb}
use Rattle.ua_frame.specs.Streams.{Piece, TimedByte, at, plain, rest_of}
use Rattle.ua_frame.specs.StreamLaws.{framed}
use Rattle.ua_frame.specs.Layout.{Frame, frames_of}
use Rattle.ua_frame.specs.LayoutLaws.{frames_more}
use Rattle.ua_frame.specs.MomentLaws.{rest_retimed}
use Rattle.ua_chunk.specs.Numbers.{number_after}
use Rattle.ua_chunk.specs.NumberLaws.{number_after_more}
use Rattle.ua_service.specs.declared.request.Request.{Request}
use Rattle.ua_conn.specs.Past.{Past, carried}
use Rattle.ua_conn.specs.server.Held.{newest_first}
use Rattle.ua_conn.specs.client.Asker.{Asker}
use Rattle.ua_conn.specs.client.Commands.{Act, Ask, Renew, Close, Command, Commands, Asked, OpenAsked, asked_in, asked_by, opens_asked, opens_by, next_id, closes, is_closed}
use Rattle.ua_conn.specs.client.Past.{client_known, acknowledge_frame_in, awaits_reverse}
use Rattle.ua_conn.specs.client.Pending.{bytes_in, come_by, is_among, ended_ids, opened_ids, opening_in, due_in, first_id}
use Rattle.ua_conn.specs.client.Reading.{ClientReading, client_fault_at, client_reading, client_reading_of, answer_at, answers}
use Rattle.ua_conn.specs.client.Sending.{Sent, sent_bytes, has_place, more_sent, sent_after, sent_all, greets, opens, act_says, commands_say, sent_by}
use Rattle.ua_conn.specs.client.Asking.{standing, renewing_rows, ask_fault}
use Rattle.ua_conn.specs.client.Held.{Came, Told, Log, latest_of, stream_of, commands_of, fault_in, IsLog, waiting_in, client_held, ClientGains, ClientByRecord}
use Rattle.ua_conn.specs.client.Feeding.{sent_of}
use Rattle.ua_conn.specs.client.Machine.{awaiting_of, client_run, client_run_on, number_sent, sent_next, next_sent, more_waiting, due_with, client_gain}
use Rattle.ua_conn.specs.declared.client.fault.ClientFault.{ClientFault}
use Rattle.ua_conn.specs.declared.client.ask_fault.AskFault.TheVariants.{Ended, NotOpen}
use Rattle.ua_conn.proofs.TableLemmas.{all_no}
use Rattle.ua_conn.proofs.ClientEnd.PlaceLemmas.{AllBehind, bytes_of_frames, frames_within, later_frames}
use Rattle.ua_conn.proofs.ClientEnd.ReadingLemmas.{stands, reads_more, reads_same, same_wanted}
use Rattle.ua_conn.proofs.BothEnds.FaithfulLemmas.{AllSeen, IsStarted, untold, acknowledged, seen_later, seen_one, started_later, sent_append, accepted_acked}
use Rattle.ua_conn.proofs.ClientEnd.FreshLemmas.{fresh}
use Rattle.ua_conn.proofs.ClientEnd.GreetingLemmas.{greeted_of}
use Rattle.ua_conn.proofs.ClientEnd.RecordLemmas.{awaiting}
use Rattle.ua_conn.proofs.ClientEnd.RunLemmas.{AtMostOne, one_more, IsClientRun, client_run_is}

-- ---- numbers of what is sent

by_test : (first : ℕ) (b : Bool) (n : ℕ) → 1 ≤ first → number_after first (cond b (n + 1) n) ≡ cond b (number_after (number_after first n) 1) (number_after first n)
by_test first true n h = sym (number_after_more first n 1 h)
by_test first false n h = refl

one_number : (first n : ℕ) (x : Sent) → 1 ≤ first → number_after first (more_sent n x) ≡ number_sent (number_after first n) x
one_number first n x h = by_test first (has_place x) n h

pub sent_is_next : (first n : ℕ) (xs : List Sent) → 1 ≤ first → sent_all first n xs ≡ sent_next (number_after first n) xs
sent_is_next first n [] h = refl
sent_is_next first n (x ∷ xs) h =
    ap (λ b. sent_bytes (number_after first n) x ++ b) (sent_is_next first (more_sent n x) xs h ∙ ap (λ k. sent_next k xs) (one_number first n x h))

numbers_are_next : (first n : ℕ) (xs : List Sent) → 1 ≤ first → number_after first (sent_after n xs) ≡ next_sent (number_after first n) xs
numbers_are_next first n [] h = refl
numbers_are_next first n (x ∷ xs) h = numbers_are_next first (more_sent n x) xs h ∙ ap (λ k. next_sent k xs) (one_number first n x h)

pub after_append : (n : ℕ) (xs ys : List Sent) → sent_after n (xs ++ ys) ≡ sent_after (sent_after n xs) ys
after_append n [] ys = refl
after_append n (x ∷ xs) ys = after_append (more_sent n x) xs ys

-- what is sent behind xs, and the number then
bytes_behind : (first : ℕ) (xs ys : List Sent) → 1 ≤ first → sent_all first 0 (xs ++ ys) ≡ sent_all first 0 xs ++ sent_next (number_after first (sent_after 0 xs)) ys
bytes_behind first xs ys h = sent_append first 0 xs ys ∙ ap (λ b. sent_all first 0 xs ++ b) (sent_is_next first (sent_after 0 xs) ys h)

number_behind : (first : ℕ) (xs ys : List Sent) → 1 ≤ first → number_after first (sent_after 0 (xs ++ ys)) ≡ next_sent (number_after first (sent_after 0 xs)) ys
number_behind first xs ys h = ap (number_after first) (after_append 0 xs ys) ∙ numbers_are_next first (sent_after 0 xs) ys h

-- ---- reading without a fault

goes_cases : (o : Option ClientFault) (past past' : Past) (R R' R'' : ClientReading) → (R.fault ≡ None → (R.past ≡ past') × (R' ≡ R'')) →
    (let first : ClientReading = elim o [ Some fault ↦ record { past = past; fault = Some fault } | None ↦ R ] in
    let later : ClientReading = elim o [ Some fault ↦ record { past = past; fault = Some fault } | None ↦ R' ] in
    first.fault ≡ None → (first.past ≡ past') × (later ≡ R''))
goes_cases (Some fault) past past' R R' R'' h e = absurd (cc e)
goes_cases None past past' R R' R'' h e = h e

reading_goes : (a : Asker) (cmds : Commands) (past : Past) (fs gs : List Frame) (rest rest' : List ℕ) → (client_reading a cmds past fs rest).fault ≡ None →
    ((client_reading a cmds past fs rest).past ≡ newest_first fs past) × (client_reading a cmds past (fs ++ gs) rest' ≡ client_reading a cmds (newest_first fs past) gs rest')
reading_goes a cmds past [] gs rest rest' e = (refl, refl)
reading_goes a cmds past (f ∷ fs) gs rest rest' e =
    goes_cases (client_fault_at a cmds past f) past (newest_first fs (f ∷ past)) (client_reading a cmds (f ∷ past) fs rest) (client_reading a cmds (f ∷ past) (fs ++ gs) rest') (client_reading a cmds (newest_first fs (f ∷ past)) gs rest')
    (reading_goes a cmds (f ∷ past) fs gs rest rest') e

pub come_by_all : (n : ℕ) (past : Past) → bytes_in past ≤ n → come_by n past ≡ past
come_by_all n [] le = refl
come_by_all n (f ∷ past) le = ap (λ b. cond b (f ∷ past) (come_by n past)) (le-leb (bytes_in (f ∷ past)) n le)

answers_same : (c : Command) (cmds : Commands) (past : Past) → bytes_in past ≤ c.seen → answers (c ∷ cmds) past ≡ answers cmds past
answers_same c cmds [] le = refl
answers_same c cmds (f ∷ past) le = λ i.
    answers_same c cmds past (omega (arith, le)) i ++ answer_at (client_known past) (same_wanted c cmds past (bytes_in (f ∷ past)) (carried f).request_id le i) f

-- ---- what is true along a log

pub record Along (a : Asker) (log : Log) : Type 0 where
  pub seen : AllSeen (length (stream_of log)) (commands_of log)
  pub started : IsStarted (commands_of log) (client_reading_of a (commands_of log) (stream_of log)).past
  pub one : AtMostOne (commands_of log) (client_reading_of a (commands_of log) (stream_of log)).past

pub none_due : (xs : List OpenAsked) → is_some (first_id xs) ≡ false → xs ≡ []
none_due [] h = refl
none_due (x ∷ xs) h = absurd (cc h)

pub told_one : (a : Asker) (cmds : Commands) (v : List TimedByte) (c : Command) → ask_fault a cmds v c.act ≡ None →
    AtMostOne cmds (client_reading_of a cmds v).past → AtMostOne (c ∷ cmds) (client_reading_of a cmds v).past
told_one a cmds v c h one = by c.act refl
  where
    P : Past
    P = (client_reading_of a cmds v).past

    test : OpenAsked → Bool
    test r = not (is_among (opened_ids P) r.id)

    joined : opening_in (c ∷ cmds) P ≡ opening_in cmds P ++ filter test (opens_by (next_id cmds) c.seen c.act)
    joined = filter-append test (opens_asked cmds) (opens_by (next_id cmds) c.seen c.act)

    none : (act : Act) → c.act ≡ act → filter test (opens_by (next_id cmds) c.seen act) ≡ [] → AtMostOne (c ∷ cmds) P
    none act e k = let s : opening_in (c ∷ cmds) P ≡ opening_in cmds P = joined ∙ ap (λ x. opening_in cmds P ++ filter test (opens_by (next_id cmds) c.seen x)) e ∙ ap (λ l. opening_in cmds P ++ l) k ∙ append-nil _ in record { one = omega (arith, one.one, ap length s) }

    short : (x : OpenAsked) (b : Bool) → length (cond b (x ∷ []) []) ≤ 1
    short x true = omega arith
    short x false = omega arith

    by : (act : Act) → c.act ≡ act → AtMostOne (c ∷ cmds) P
    by (Ask request part) e = none (Ask request part) e refl
    by Close e = none Close e refl
    by Renew e =
        let accepted : ask_fault a cmds v Renew ≡ None = ap (ask_fault a cmds v) (sym e) ∙ h in
        let no = all_no ((is_some (client_reading_of a cmds v).fault, Ended) ∷ (not (standing cmds P).channel_open, NotOpen) ∷ renewing_rows (standing cmds P)) accepted in
        let was = none_due (opening_in cmds P) (no.1.1.0) in
        let x : OpenAsked = record { id = next_id cmds; seen = c.seen } in
        let s : opening_in (c ∷ cmds) P ≡ filter test (x ∷ []) = joined ∙ ap (λ y. opening_in cmds P ++ filter test (opens_by (next_id cmds) c.seen y)) e ∙ ap (λ l. l ++ filter test (x ∷ [])) was in
        record { one = omega (arith, ap length s, short x (test x)) }

pub along : (a : Asker) (log : Log) → IsLog a log → Along a log
unfolding AllSeen
along a [] h =
    let s = stands a [] [] (frames_of []) (plain (rest_of [])) in
    record { seen = tt; started = untold refl; one = subst (λ (past : Past). AtMostOne [] past) (sym s.1) (one_more [] s.0 [] (record { one = omega arith })) }
along a (Came x ∷ log) h =
    let i = along a log h in
    let v = stream_of log in
    let cmds = commands_of log in
    let t = map (at (max (latest_of log) x.moment)) x.bytes in
    let r = reads_more a cmds v t in
    record {
      seen = seen_later (length v) (length (v ++ t)) cmds (omega (arith, length-append v t)) i.seen;
      started = started_later a cmds v t i.started;
      one = subst (λ (past : Past). AtMostOne cmds past) (sym r.behind) (one_more cmds r.more (client_reading_of a cmds v).past i.one);
    }
along a (Told now act ∷ log) h =
    let i = along a log h.1 in
    let v = stream_of log in
    let cmds = commands_of log in
    let c : Command = record { act = act; moment = max (latest_of log) now; seen = length v } in
    let same = reads_same a c cmds v (frames_within v) in
    let k = accepted_acked a cmds v act h.0 in
    record {
      seen = seen_one (length v) c cmds (omega arith) i.seen;
      started = acknowledged k.0 (ap (λ (R : ClientReading). acknowledge_frame_in R.past) same ∙ k.1);
      one = subst (λ (R : ClientReading). AtMostOne (c ∷ cmds) R.past) (sym same) (told_one a cmds v c h.0 i.one);
    }

-- ---- bytes come

-- the frames and the rest that the bytes left and one more piece have
abbrev came_frames : Log → Piece → List Frame
came_frames log x = frames_of (map (at (max (latest_of log) x.moment)) (plain (rest_of (stream_of log)) ++ x.bytes))

abbrev came_rest : Log → Piece → List ℕ
came_rest log x = plain (rest_of (map (at (max (latest_of log) x.moment)) (plain (rest_of (stream_of log)) ++ x.bytes)))

abbrev past_of : Asker → Log → Past
past_of a log = (client_reading_of a (commands_of log) (stream_of log)).past

-- one more piece is read behind the frames that stand
record ReadsPiece (a : Asker) (log : Log) (x : Piece) (R : ClientReading) : Type 0 where
  reading : client_reading_of a (commands_of log) (stream_of (Came x ∷ log)) ≡ R
  run : IsClientRun a (commands_of log) (past_of a log) (came_frames log x) R (client_run a (awaiting a (commands_of log) (past_of a log)) (came_frames log x) (came_rest log x))
  rest : plain (rest_of (stream_of (Came x ∷ log))) ≡ came_rest log x

reads_piece : (a : Asker) (log : Log) (x : Piece) → IsLog a log → fault_in a log ≡ None →
    ReadsPiece a log x (client_reading a (commands_of log) (past_of a log) (came_frames log x) (came_rest log x))
reads_piece a log x is fine =
    let v = stream_of log in
    let cmds = commands_of log in
    let now = max (latest_of log) x.moment in
    let t = map (at now) x.bytes in
    let P = past_of a log in
    let gs = came_frames log x in
    let rest = came_rest log x in
    let i = along a log is in
    let k = rest_retimed (rest_of v) now x.bytes (framed v).partial in
    let m = frames_more v t in
    let goes = reading_goes a cmds [] (frames_of v) gs (plain (rest_of v)) rest fine in
    let behind : AllBehind (length v) P gs = subst (λ (past : Past). AllBehind (length v) past gs) (sym goes.0) (subst (λ (fs : List Frame). AllBehind (length v) (newest_first (frames_of v) []) fs) k.0 (later_frames v t)) in
    record {
      reading = (λ j. client_reading a cmds [] ((m.0 ∙ ap (λ fs. frames_of v ++ fs) k.0) j) ((ap plain m.1 ∙ k.1) j)) ∙ goes.1 ∙ ap (λ (past : Past). client_reading a cmds past gs rest) (sym goes.0);
      run = client_run_is a (length v) cmds P gs rest i.seen behind i.started (greeted_of a cmds v) i.one;
      rest = ap plain m.1 ∙ k.1;
    }

-- what is sent then
pub came_sent : (a : Asker) (log : Log) (x : Piece) → IsLog a log → fault_in a log ≡ None →
    sent_of a (Came x ∷ log) ≡ sent_of a log ++ (client_run_on a (awaiting_of (client_held a log)) (max (client_held a log).moment x.moment) ((client_held a log).rest ++ x.bytes)).says
unfolding client_held
came_sent a log x is fine =
    let r = reads_piece a log x is fine in
    ap (λ (R : ClientReading). sent_by a (commands_of log) R.past) r.reading ∙ r.run.said

pub came_gained : (a : Asker) (log : Log) (x : Piece) → 1 ≤ a.first_sequence → IsLog a log → fault_in a log ≡ None → ClientGains a log (Came x) (client_gain a (client_held a log) (Came x))
unfolding client_held client_gain
came_gained a log x first is fine =
    let cmds = commands_of log in
    let all = stream_of (Came x ∷ log) in
    let P = past_of a log in
    let piece = reads_piece a log x is fine in
    let same = piece.reading in
    let run = piece.run in
    let r = client_run a (awaiting a cmds P) (came_frames log x) (came_rest log x) in
    record {
      sent = ap (λ (R : ClientReading). sent_all a.first_sequence 0 (sent_by a cmds R.past)) same ∙ ap (sent_all a.first_sequence 0) run.said ∙ bytes_behind a.first_sequence (sent_by a cmds P) r.says first;
      answered = ap (λ (R : ClientReading). answers cmds R.past) same ∙ run.answered;
      fault_is = ap (λ (R : ClientReading). R.fault) same ∙ run.fault_is;
      after_is = λ e.
          (let waits : awaiting a cmds (client_reading_of a cmds all).past ≡ r.after = ap (λ (R : ClientReading). awaiting a cmds R.past) same ∙ ap (awaiting a cmds) (run.goes_on e) ∙ run.after_is e in
          let numbers : number_after a.first_sequence (sent_after 0 (sent_by a cmds (client_reading_of a cmds all).past)) ≡ next_sent (number_after a.first_sequence (sent_after 0 (sent_by a cmds P))) r.says =
          ap (λ (R : ClientReading). number_after a.first_sequence (sent_after 0 (sent_by a cmds R.past))) same ∙ ap (λ l. number_after a.first_sequence (sent_after 0 l)) run.said ∙ number_behind a.first_sequence (sent_by a cmds P) r.says first in
          λ j. record {
            reverse = (waits j).reverse;
            known = (waits j).known;
            closed = is_closed cmds;
            pending = (waits j).pending;
            due = (waits j).due;
            next_id = next_id cmds;
            next = numbers j;
            moment = max (latest_of log) x.moment;
            rest = piece.rest j;
          });
    }

-- ---- a command is given

closed_with : (act : Act) (b : Bool) → (closes act || b) ≡ cond (closes act) true b
closed_with (Ask request part) b = refl
closed_with Renew b = refl
closed_with Close b = refl

-- the new id was not answered yet, so the new request waits
asked_waits : (n seen : ℕ) (ids : List ℕ) (act : Act) → is_among ids n ≡ false → map (λ a. (a.id, a.request)) (filter (λ a. not (is_among ids a.id)) (asked_by n seen act)) ≡ more_waiting n act
asked_waits n seen ids (Ask request part) h = rw h refl
asked_waits n seen ids Renew h = refl
asked_waits n seen ids Close h = refl

waiting_with : (c : Command) (cmds : Commands) (past : Past) → is_among (ended_ids past) (next_id cmds) ≡ false → waiting_in (c ∷ cmds) past ≡ waiting_in cmds past ++ more_waiting (next_id cmds) c.act
waiting_with c cmds past h =
    let test : Asked → Bool = λ a. not (is_among (ended_ids past) a.id) in
    let pair : Asked → ℕ × Request = λ a. (a.id, a.request) in
    ap (map pair) (filter-append test (asked_in cmds) (asked_by (next_id cmds) c.seen c.act))
    ∙ map-append pair (filter test (asked_in cmds)) (filter test (asked_by (next_id cmds) c.seen c.act))
    ∙ ap (λ l. waiting_in cmds past ++ l) (asked_waits (next_id cmds) c.seen (ended_ids past) c.act h)

due_now : (n seen : ℕ) (ids : List ℕ) (xs : List OpenAsked) (act : Act) → is_among ids n ≡ false → (act ≡ Renew → xs ≡ []) →
    first_id (xs ++ filter (λ r. not (is_among ids r.id)) (opens_by n seen act)) ≡ due_with (first_id xs) n act
due_now n seen ids xs (Ask request part) h k = ap first_id (append-nil xs)
due_now n seen ids xs Close h k = ap first_id (append-nil xs)
due_now n seen ids xs Renew h k = ap (λ l. first_id (l ++ filter (λ r. not (is_among ids r.id)) (record { id = n; seen = seen } ∷ []))) (k refl) ∙ rw h refl

due_with_one : (a : Asker) (cmds : Commands) (v : List TimedByte) (c : Command) → ask_fault a cmds v c.act ≡ None → is_among (opened_ids (client_reading_of a cmds v).past) (next_id cmds) ≡ false →
    due_in (c ∷ cmds) (client_reading_of a cmds v).past ≡ due_with (due_in cmds (client_reading_of a cmds v).past) (next_id cmds) c.act
due_with_one a cmds v c h fresh_id =
    let P = (client_reading_of a cmds v).past in
    let test : OpenAsked → Bool = λ r. not (is_among (opened_ids P) r.id) in
    ap first_id (filter-append test (opens_asked cmds) (opens_by (next_id cmds) c.seen c.act))
    ∙ due_now (next_id cmds) c.seen (opened_ids P) (opening_in cmds P) c.act fresh_id
    (λ e. none_due (opening_in cmds P)
    (let accepted : ask_fault a cmds v Renew ≡ None = ap (ask_fault a cmds v) (sym e) ∙ h in
    (all_no ((is_some (client_reading_of a cmds v).fault, Ended) ∷ (not (standing cmds P).channel_open, NotOpen) ∷ renewing_rows (standing cmds P)) accepted).1.1.0))

pub told_gained : (a : Asker) (log : Log) (now : ℕ) (act : Act) → 1 ≤ a.first_sequence → IsLog a (Told now act ∷ log) → fault_in a log ≡ None → ClientGains a log (Told now act) (client_gain a (client_held a log) (Told now act))
unfolding client_held client_gain
told_gained a log now act first is fine =
    let v = stream_of log in
    let cmds = commands_of log in
    let m = max (latest_of log) now in
    let c : Command = record { act = act; moment = m; seen = length v } in
    let P = (client_reading_of a cmds v).past in
    let says = act_says a (next_id cmds) m (client_known P) act in
    let same = reads_same a c cmds v (frames_within v) in
    let goes = reading_goes a cmds [] (frames_of v) [] (plain (rest_of v)) (plain (rest_of v)) fine in
    let place : bytes_in P ≤ length v = omega (arith, bytes_of_frames v, ap bytes_in goes.0) in
    let ids = fresh a cmds [] (frames_of v) (plain (rest_of v)) (record { ended = λ id le. refl; opened = λ id le. refl }) in
    let said : sent_by a (c ∷ cmds) P ≡ sent_by a cmds P ++ says =
    (λ j. greets a P ++ (opens a P ++ (commands_say a cmds P ++ act_says a (next_id cmds) m (client_known (come_by_all (length v) P place j)) act)))
    ∙ sym (append_assoc (greets a P) (opens a P ++ commands_say a cmds P) says ∙ ap (λ l. greets a P ++ l) (append_assoc (opens a P) (commands_say a cmds P) says)) in
    record {
      sent = ap (λ (R : ClientReading). sent_all a.first_sequence 0 (sent_by a (c ∷ cmds) R.past)) same ∙ ap (sent_all a.first_sequence 0) said ∙ bytes_behind a.first_sequence (sent_by a cmds P) says first;
      answered = ap (λ (R : ClientReading). answers (c ∷ cmds) R.past) same ∙ answers_same c cmds P place ∙ sym (append-nil (answers cmds P));
      fault_is = ap (λ (R : ClientReading). R.fault) same ∙ fine;
      after_is = λ e.
          (let waits_still = ap (λ (R : ClientReading). awaits_reverse a.reverse R.past) same in
          let knows = ap (λ (R : ClientReading). client_known R.past) same in
          let waits : waiting_in (c ∷ cmds) (client_reading_of a (c ∷ cmds) v).past ≡ waiting_in cmds P ++ more_waiting (next_id cmds) act =
          ap (λ (R : ClientReading). waiting_in (c ∷ cmds) R.past) same ∙ waiting_with c cmds P (ids.ended (next_id cmds) (omega arith)) in
          let due : due_in (c ∷ cmds) (client_reading_of a (c ∷ cmds) v).past ≡ due_with (due_in cmds P) (next_id cmds) act =
          ap (λ (R : ClientReading). due_in (c ∷ cmds) R.past) same ∙ due_with_one a cmds v c is.0 (ids.opened (next_id cmds) (omega arith)) in
          let numbers : number_after a.first_sequence (sent_after 0 (sent_by a (c ∷ cmds) (client_reading_of a (c ∷ cmds) v).past)) ≡ next_sent (number_after a.first_sequence (sent_after 0 (sent_by a cmds P))) says =
          ap (λ (R : ClientReading). number_after a.first_sequence (sent_after 0 (sent_by a (c ∷ cmds) R.past))) same ∙ ap (λ l. number_after a.first_sequence (sent_after 0 l)) said ∙ number_behind a.first_sequence (sent_by a cmds P) says first in
          let next : next_id (c ∷ cmds) ≡ next_id cmds + 1 = omega arith in
          λ j. record {
            reverse = waits_still j;
            known = knows j;
            closed = closed_with act (is_closed cmds) j;
            pending = waits j;
            due = due j;
            next_id = next j;
            next = numbers j;
            moment = m;
            rest = plain (rest_of v);
          });
    }

pub client_by_record : ClientByRecord
client_by_record a h (Came x) first = (client_gain a h (Came x), λ log is fine e. subst (λ k. ClientGains a log (Came x) (client_gain a k (Came x))) e (came_gained a log x first is fine))
client_by_record a h (Told now act) first = (client_gain a h (Told now act), λ log is fine e. subst (λ k. ClientGains a log (Told now act) (client_gain a k (Told now act))) e (told_gained a log now act first is fine))
