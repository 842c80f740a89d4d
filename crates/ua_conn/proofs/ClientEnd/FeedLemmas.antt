-- Frames that come to a client, taken one after another from bytes that came at one moment.
use Rattle.std.proofs.Common.{◌≡◌, ℕ, List, [], ◌∷◌, ◌++◌, map, take, drop, true, false, Option, Some, None, Ok, Err, refl, sym, ap, subst, ◌∙◌, append_assoc, arith, inl, inr}
use Rattle.std.specs.Prelude.{option_map}
use Rattle.std.proofs.lemmas.List.{append-nil, length-take-le}
use Rattle.ua_frame.specs.Rows.{first_row, or_else}
use Rattle.ua_frame.specs.Streams.{at, plain, size_of, rest_of}
use Rattle.ua_frame.specs.Layout.{Frame, frames_of, kind_of, flag_of}
use Rattle.ua_frame.specs.MomentLaws.{at_once_step, at_once_stop}
use Rattle.ua_frame.specs.HeaderLaws.{header_fault_take, header_fault_stays}
use Rattle.ua_conn.specs.Past.{carried}
use Rattle.ua_conn.specs.server.Feeding.{BeginsFrame, BeginsNoFrame, first_frame}
use Rattle.ua_conn.specs.client.Asker.{Asker}
use Rattle.ua_conn.specs.client.Faults.{greatest_answer, client_rows, client_fault_by, client_fault_in_rest, token_usable}
use Rattle.ua_conn.specs.client.Sending.{Sent, sent_bytes}
use Rattle.ua_conn.specs.client.Machine.{Awaiting, ClientRun, waiting_under, awaiting_fault, awaiting_after, frame_says, frame_answers, ahead_of, client_run, client_run_on, number_sent, sent_next, next_sent}
use Rattle.ua_conn.specs.client.Taking.{ClientRunning}
use Rattle.ua_conn.specs.client.Effects.{asker_with, Given, Stands}
use Rattle.ua_conn.specs.client.Hearing.{IsRefused, by_header, by_frame, Steps, brought, Hears, Breaks, BreaksBy, Hearing}
use Rattle.ua_conn.specs.declared.client.config.ClientConfig.{ClientConfig}
use Rattle.ua_conn.specs.declared.client.answer.Answer.{Answer}
use Rattle.ua_conn.specs.declared.client.fault.ClientFault.{ClientFault}
use Rattle.ua_conn.specs.declared.client.fault.ClientFault.TheVariants.{ServerSaid, Broken, NoMemory, Ended}
use Rattle.ua_frame.specs.HeaderRows.{header_fault}
use Rattle.ua_conn.proofs.ServerEnd.FeedLemmas.{begins_or}
use Rattle.ua_conn.proofs.BufferedLemmas.{begins_further, same_first, same_size, left_behind, pushed_first}

-- ---- what is sent one after another

pub sent_next_append : (n : ℕ) (xs ys : List Sent) → sent_next n (xs ++ ys) ≡ sent_next n xs ++ sent_next (next_sent n xs) ys
sent_next_append n [] ys = refl
sent_next_append n (x ∷ xs) ys = ap (λ s. sent_bytes n x ++ s) (sent_next_append (number_sent n x) xs ys) ∙ sym (append_assoc (sent_bytes n x) _ _)

pub next_sent_append : (n : ℕ) (xs ys : List Sent) → next_sent n (xs ++ ys) ≡ next_sent (next_sent n xs) ys
next_sent_append n [] ys = refl
next_sent_append n (x ∷ xs) ys = next_sent_append (number_sent n x) xs ys

-- more is said behind what was
says_more : (n m : ℕ) (out mid new : List ℕ) (said xs : List Sent) → mid ≡ out ++ sent_next n said → m ≡ next_sent n said → new ≡ mid ++ sent_next m xs →
    new ≡ out ++ sent_next n (said ++ xs)
says_more n m out mid new said xs e k h =
    h ∙ (λ i. e i ++ sent_next (k i) xs) ∙ append_assoc out (sent_next n said) (sent_next (next_sent n said) xs)
    ∙ ap (λ t. out ++ t) (sym (sent_next_append n said xs))

-- ---- the run over what stands at the front

goes_cases : (o : Option ClientFault) (w : Awaiting) (says : List Sent) (given : List Answer) (r : ClientRun) → o ≡ None →
    (let one : ClientRun = elim o [
      | Some fault ↦ record { says = []; answers = []; fault = Some fault; after = w }
      | None ↦ ahead_of says given r
    ] in one ≡ ahead_of says given r)
goes_cases None w says given r e = refl
goes_cases (Some fault) w says given r e = absurd (cc)

refuses_cases : (o : Option ClientFault) (w : Awaiting) (says : List Sent) (given : List Answer) (r : ClientRun) (fault : ClientFault) → o ≡ Some fault →
    (let one : ClientRun = elim o [
      | Some fault ↦ record { says = []; answers = []; fault = Some fault; after = w }
      | None ↦ ahead_of says given r
    ] in one ≡ record { says = []; answers = []; fault = Some fault; after = w })
refuses_cases (Some other) w says given r fault e = let same : other ≡ fault = cc in λ i. record { says = []; answers = []; fault = Some (same i); after = w }
refuses_cases None w says given r fault e = absurd (cc)

-- a frame at the front
run_front : (a : Asker) (w : Awaiting) (now n : ℕ) (bytes : List ℕ) → BeginsFrame n bytes →
    client_run_on a w now bytes ≡ client_run a w (first_frame now n bytes ∷ frames_of (map (at now) (drop n bytes))) (plain (rest_of (map (at now) (drop n bytes))))
run_front a w now n bytes h = let s = at_once_step now bytes n h.within h.frame in λ i. client_run a w (s.0 i) (plain (s.1 i))

-- one that stands
run_stands : (old new : ClientRunning) (now n : ℕ) (bytes : List ℕ) (had has : Given) → BeginsFrame n bytes → Stands old new (first_frame now n bytes) had has →
    (let f = first_frame now n bytes in
    brought old now bytes ≡ ahead_of (frame_says (asker_with old.config) old.waits f) (frame_answers old.waits f) (brought new now (drop n bytes)))
run_stands old new now n bytes had has h s =
    let f = first_frame now n bytes in
    let a = asker_with old.config in
    run_front a old.waits now n bytes h
    ∙ goes_cases (awaiting_fault a old.waits f) old.waits (frame_says a old.waits f) (frame_answers old.waits f) (client_run_on a (awaiting_after old.waits f) now (drop n bytes)) s.fine
    ∙ (λ i. ahead_of (frame_says a old.waits f) (frame_answers old.waits f) (client_run_on (asker_with (sym s.config i)) (sym s.waits i) now (drop n bytes)))

-- no frame
run_waits : (a : Asker) (w : Awaiting) (now : ℕ) (bytes : List ℕ) → BeginsNoFrame bytes → client_run_on a w now bytes ≡ client_run a w [] bytes
run_waits a w now bytes h = let s = at_once_stop now bytes h in λ i. client_run a w (s.0 i) (s.1 i)

-- a frame that is refused
run_refuses_frame : (a : Asker) (w : Awaiting) (now n : ℕ) (bytes : List ℕ) (fault : ClientFault) → BeginsFrame n bytes → awaiting_fault a w (first_frame now n bytes) ≡ Some fault →
    client_run_on a w now bytes ≡ record { says = []; answers = []; fault = Some fault; after = w }
run_refuses_frame a w now n bytes fault h e =
    let f = first_frame now n bytes in
    run_front a w now n bytes h
    ∙ refuses_cases (awaiting_fault a w f) w (frame_says a w f) (frame_answers w f) (client_run_on a (awaiting_after w f) now (drop n bytes)) fault e

-- a header that is refused in the bytes is refused in the frame that they begin with
refused_whole : (a : Asker) (w : Awaiting) (bytes : List ℕ) (n now : ℕ) (fault : ClientFault) → BeginsFrame n bytes → client_fault_in_rest w.known bytes ≡ Some fault →
    awaiting_fault a w (first_frame now n bytes) ≡ Some fault
unfolding client_fault_by client_fault_in_rest
refused_whole a w bytes n now fault h e =
    let f = first_frame now n bytes in
    let rows = client_rows a w.reverse w.known w.due (waiting_under (carried f).request_id w.pending) (token_usable w.known f) f (flag_of f.bytes) (kind_of f.bytes) in
    ap (λ o. or_else (option_map Broken o) (first_row rows)) (header_fault_take (greatest_answer w.known.ack) n bytes (omega (arith, h.frame.header, length-take-le n bytes h.within)))
    ∙ ap (λ o. or_else o (first_row rows)) e

run_refuses : (config : ClientConfig) (w : Awaiting) (now : ℕ) (bytes : List ℕ) (fault : ClientFault) → IsRefused config w now bytes fault →
    client_run_on (asker_with config) w now bytes ≡ record { says = []; answers = []; fault = Some fault; after = w }
run_refuses config w now bytes fault (by_frame n h e) = run_refuses_frame (asker_with config) w now n bytes fault h e
run_refuses config w now bytes fault (by_header e) =
    elim (begins_or bytes) [
      | inl h ↦ run_refuses_frame (asker_with config) w now _ bytes fault h (refused_whole (asker_with config) w bytes _ now fault h e)
      | inr none ↦ run_waits (asker_with config) w now bytes none ∙ (λ i. record { says = []; answers = []; fault = e i; after = w })
    ]

-- ---- more of a piece behind the bytes of the buffer

goes_on_further : (old new : ClientRunning) (now : ℕ) (front more : List ℕ) (had has : Given) → Steps old new now front had has (Ok true) → Steps old new now (front ++ more) had has (Ok true)
goes_on_further old new now front more had has s =
    let n = size_of front in
    let size : size_of (front ++ more) ≡ n = same_size n front more s.0 in (
      subst (λ z. BeginsFrame z (front ++ more)) (sym size) (begins_further n front more s.0),
      subst (λ (f : Frame). Stands old new f had has) (sym ((λ i. first_frame now (size i) (front ++ more)) ∙ same_first now n front more s.0)) s.1,
    )

some_stays : (limit : ℕ) (front more : List ℕ) (o : Option ℕ) (fault : ClientFault) → header_fault limit front ≡ o → option_map Broken o ≡ Some fault → option_map Broken (header_fault limit (front ++ more)) ≡ Some fault
some_stays limit front more None fault h e = absurd (cc)
some_stays limit front more (Some status) fault h e = ap (option_map Broken) (header_fault_stays limit front more status h) ∙ e

refused_further : (config : ClientConfig) (w : Awaiting) (now : ℕ) (front more : List ℕ) (fault : ClientFault) → IsRefused config w now front fault → IsRefused config w now (front ++ more) fault
unfolding client_fault_in_rest
refused_further config w now front more fault (by_header e) = by_header (some_stays (greatest_answer w.known.ack) front more _ fault refl e)
refused_further config w now front more fault (by_frame n h e) = by_frame n (begins_further n front more h) (ap (awaiting_fault (asker_with config) w) (same_first now n front more h) ∙ e)

-- ---- the loop

starts : (old : ClientRunning) (now : ℕ) (bytes : List ℕ) (had : Given) → Hearing old old now bytes had had bytes
starts old now bytes had = record {
  said = [];
  hands = [];
  brings = refl;
  answers = refl;
  added = sym (append-nil had.bytes);
  given = sym (append-nil had.answers);
  fault_is = refl;
  after_is = refl;
  config = refl;
  number = refl;
  rest = refl;
}

pub starts_with : (old : ClientRunning) (now : ℕ) (had : Given) (front piece new : List ℕ) (k : ℕ) → new ≡ front ++ take k piece → Hearing old old now (front ++ piece) had had (new ++ drop k piece)
starts_with old now had front piece new k e =
    subst (λ l. Hearing old old now (front ++ piece) had had l) (sym (ap (λ l. l ++ drop k piece) e ∙ pushed_first k front piece)) (starts old now (front ++ piece) had)

still : {old new : ClientRunning} {now : ℕ} {bytes : List ℕ} {had has : Given} {left : List ℕ} →
    Hearing old new now bytes had has left → BeginsNoFrame left → client_fault_in_rest new.waits.known left ≡ None → Hears old new now bytes had has left
still {old} {new} {now} {bytes} {had} {has} {left} h none fine =
    let a = asker_with new.config in
    let r : brought new now left ≡ client_run a new.waits [] left = run_waits a new.waits now left none in
    let all : (brought old now bytes).says ≡ h.said = h.brings ∙ (λ i. h.said ++ (r i).says) ∙ append-nil h.said in
    let given : (brought old now bytes).answers ≡ h.hands = h.answers ∙ (λ i. h.hands ++ (r i).answers) ∙ append-nil h.hands in
    record {
      fine = h.fault_is ∙ (λ i. (r i).fault) ∙ fine;
      said = h.added ∙ ap (λ xs. had.bytes ++ sent_next old.next xs) (sym all);
      given = h.given ∙ ap (λ xs. had.answers ++ xs) (sym given);
      config = h.config;
      waits = sym (h.after_is ∙ (λ i. (r i).after));
      number = h.number ∙ ap (next_sent old.next) (sym all);
      rest = sym (h.rest ∙ (at_once_stop now left none).1);
    }

waits : {old new new2 : ClientRunning} {now : ℕ} {bytes : List ℕ} {had has has2 : Given} {left : List ℕ} →
    Hearing old new now bytes had has left → Steps new new2 now left has has2 (Ok false) → Hears old new2 now bytes had has2 left
waits {old} {new} {new2} {now} {bytes} {had} {has} {has2} {left} h s =
    subst (λ (o : ClientRunning). Hears old o now bytes had has2 left) (sym s.2) (subst (λ (g : Given). Hears old new now bytes had g left) (sym s.3) (still h s.0 s.1))

pub waits_whole : {old new new2 : ClientRunning} {now : ℕ} {bytes : List ℕ} {had has has2 : Given} {front left : List ℕ} →
    Hearing old new now bytes had has left → left ≡ front → Steps new new2 now front has has2 (Ok false) → Hears old new2 now bytes had has2 front
waits_whole {old} {new} {new2} {now} {bytes} {had} {has} {has2} {front} {left} h e s = waits (subst (λ l. Hearing old new now bytes had has l) e h) s

-- where there is more to read, and it is read
pub reads_on : {old new new2 : ClientRunning} {now : ℕ} {bytes : List ℕ} {had has has2 : Given} {front left : List ℕ} →
    Hearing old new now bytes had has left → Steps new new2 now front has has2 (Ok false) → (left2 : List ℕ) → left2 ≡ left → Hearing old new2 now bytes had has2 left2
reads_on {old} {new} {new2} {now} {bytes} {had} {has} {has2} {front} {left} h s left2 e =
    subst (λ (o : ClientRunning). Hearing old o now bytes had has2 left2) (sym s.2) (subst (λ (g : Given). Hearing old new now bytes had g left2) (sym s.3) (subst (λ l. Hearing old new now bytes had has l) (sym e) h))

goes_on_at : {old new new2 : ClientRunning} {now : ℕ} {bytes : List ℕ} {had has has2 : Given} {left : List ℕ} →
    Hearing old new now bytes had has left → Steps new new2 now left has has2 (Ok true) → Hearing old new2 now bytes had has2 (drop (size_of left) left)
goes_on_at {old} {new} {new2} {now} {bytes} {had} {has} {has2} {left} h s =
    let n = size_of left in
    let f = first_frame now n left in
    let xs = frame_says (asker_with new.config) new.waits f in
    let ys = frame_answers new.waits f in
    let next = brought new2 now (drop n left) in
    let r : brought new now left ≡ ahead_of xs ys next = run_stands new new2 now n left has has2 s.0 s.1 in
    record {
      said = h.said ++ xs;
      hands = h.hands ++ ys;
      brings = h.brings ∙ (λ i. h.said ++ (r i).says) ∙ sym (append_assoc h.said xs next.says);
      answers = h.answers ∙ (λ i. h.hands ++ (r i).answers) ∙ sym (append_assoc h.hands ys next.answers);
      added = says_more old.next new.next had.bytes has.bytes has2.bytes h.said xs h.added h.number s.1.said;
      given = s.1.given ∙ ap (λ l. l ++ ys) h.given ∙ append_assoc had.answers h.hands ys;
      fault_is = h.fault_is ∙ (λ i. (r i).fault);
      after_is = h.after_is ∙ (λ i. (r i).after);
      config = s.1.config ∙ h.config;
      number = s.1.number ∙ ap (λ k. next_sent k xs) h.number ∙ sym (next_sent_append old.next h.said xs);
      rest = h.rest ∙ ap plain (at_once_step now left n s.0.within s.0.frame).1;
    }

pub goes_on : {old new new2 : ClientRunning} {now : ℕ} {bytes : List ℕ} {had has has2 : Given} {front : List ℕ} (more : List ℕ) →
    Hearing old new now bytes had has (front ++ more) → Steps new new2 now front has has2 (Ok true) → Hearing old new2 now bytes had has2 (drop (size_of front) front ++ more)
goes_on {old} {new} {new2} {now} {bytes} {had} {has} {has2} {front} more h s =
    let n = size_of front in
    let there : drop (size_of (front ++ more)) (front ++ more) ≡ drop n front ++ more =
    (λ i. drop (same_size n front more s.0 i) (front ++ more)) ∙ left_behind n front more s.0 in
    subst (λ l. Hearing old new2 now bytes had has2 l) there (goes_on_at h (goes_on_further new new2 now front more has has2 s))

stopped : {old new : ClientRunning} {now : ℕ} {bytes : List ℕ} {had has : Given} {left : List ℕ} {out : List ℕ} {fault : ClientFault} →
    Hearing old new now bytes had has left → IsRefused new.config new.waits now left fault → out ≡ has.bytes → Breaks old now bytes had.bytes out fault
stopped {old} {new} {now} {bytes} {had} {has} {left} {out} {fault} h s e =
    let r = run_refuses new.config new.waits now left fault s in
    let all : (brought old now bytes).says ≡ h.said = h.brings ∙ (λ i. h.said ++ (r i).says) ∙ append-nil h.said in
    record {
      fault_is = h.fault_is ∙ (λ i. (r i).fault);
      said = e ∙ h.added ∙ ap (λ xs. had.bytes ++ sent_next old.next xs) (sym all);
    }

-- whatever the fault is
pub breaks : {old new : ClientRunning} {now : ℕ} {bytes : List ℕ} {had has : Given} (front more : List ℕ) (new2 : ClientRunning) (has2 : Given) (fault : ClientFault) →
    Hearing old new now bytes had has (front ++ more) → Steps new new2 now front has has2 (Err fault) → BreaksBy old now bytes had.bytes has2.bytes fault
breaks {new = new} {now = now} front more new2 has2 (ServerSaid status reason) h s = stopped h (refused_further new.config new.waits now front more (ServerSaid status reason) s.0) s.1
breaks {new = new} {now = now} front more new2 has2 (Broken status) h s = stopped h (refused_further new.config new.waits now front more (Broken status) s.0) s.1
breaks front more new2 has2 NoMemory h s = record { said = h.said; left = _; begins = h.brings; added = s.1 ∙ h.added }
breaks front more new2 has2 Ended h s = absurd s.0
