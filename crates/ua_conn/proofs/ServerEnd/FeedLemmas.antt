-- Frames taken one after another from bytes that came at one moment.
use Rattle.std.proofs.Common.{◌≡◌, ℕ, ◌≤◌, Bool, true, false, cond, ◌&&◌, ◌==◌, nat_le, List, [], ◌∷◌, ◌++◌, map, take, drop, length, Option, Some, None, refl, sym, ap, subst, ◌∙◌, append_assoc, arith, ◌⊎◌, inl, inr}
use Rattle.std.proofs.lemmas.List.{append-nil, length-take-le}
use Rattle.std.proofs.lemmas.Bool.{leb-true, leb-false}
use Rattle.ua_frame.specs.Streams.{at, plain, size_of, rest_of}
use Rattle.ua_frame.specs.StreamLaws.{front_is_frame, frame_size}
use Rattle.ua_frame.specs.Layout.{Frame, frames_of, kind_of, flag_of}
use Rattle.ua_frame.specs.MomentLaws.{at_once_step, at_once_stop}
use Rattle.ua_frame.specs.Rows.{first_row, or_else}
use Rattle.ua_frame.specs.HeaderLaws.{header_fault_take, header_fault_stays}
use Rattle.ua_frame.specs.Hello.{error_frame}
use Rattle.ua_frame.specs.declared.kind.Kind.{Kind}
use Rattle.ua_frame.specs.declared.kind.Kind.TheVariants as kinds
use Rattle.ua_chunk.specs.Half.{body_of}
use Rattle.ua_service.specs.Requests.{request_of}
use Rattle.ua_conn.specs.server.Site.{Site}
use Rattle.ua_conn.specs.Past.{Known, is_message, is_close, carried}
use Rattle.ua_conn.specs.server.Faults.{fault_at, fault_in_rest, greatest_frame, frame_rows}
use Rattle.ua_conn.specs.server.Replies.{Reply, Failed, ended, failing, reply_by, reply_to, to_list, handed_at, spelled}
use Rattle.ua_conn.specs.server.Held.{stop}
use Rattle.ua_conn.specs.server.Machine.{Run, run, run_on, behind, known_after, number_then, spelled_next, next_after}
use Rattle.ua_conn.specs.server.Taking.{Running, Gained, Stands, Closes}
use Rattle.ua_conn.specs.server.Feeding.{BeginsFrame, BeginsNoFrame, first_frame, IsRefused, by_header, by_frame, Steps, brought, Hears, HearsPart, Hearing}
use Rattle.ua_conn.specs.declared.server.hearing.Step.TheVariants as steps
use Rattle.ua_conn.specs.declared.outcome.End.TheVariants.{Closed, Refused}
use Rattle.ua_conn.proofs.BufferedLemmas.{begins_further, same_first, same_size, left_behind, pushed_first}

-- ---- what is spelled one after another

pub spelled_next_append : (site : Site) (n : ℕ) (rs qs : List Reply) → spelled_next site n (rs ++ qs) ≡ spelled_next site n rs ++ spelled_next site (next_after n rs) qs
spelled_next_append site n [] qs = refl
spelled_next_append site n (r ∷ rs) qs = ap (λ s. spelled site n r ++ s) (spelled_next_append site (number_then n r) rs qs) ∙ sym (append_assoc (spelled site n r) _ _)

pub next_append : (n : ℕ) (rs qs : List Reply) → next_after n (rs ++ qs) ≡ next_after (next_after n rs) qs
next_append n [] qs = refl
next_append n (r ∷ rs) qs = next_append (number_then n r) rs qs

failed_spelled : (site : Site) (n status : ℕ) → spelled_next site n (Failed status ∷ []) ≡ error_frame (record { status = status; reason = None })
unfolding spelled
failed_spelled site n status = append-nil _

-- more is said behind what was
says_more : (site : Site) (n m : ℕ) (out mid new : List ℕ) (said rs : List Reply) → mid ≡ out ++ spelled_next site n said → m ≡ next_after n said → new ≡ mid ++ spelled_next site m rs →
    new ≡ out ++ spelled_next site n (said ++ rs)
says_more site n m out mid new said rs e k h =
    h ∙ (λ i. e i ++ spelled_next site (k i) rs) ∙ append_assoc out (spelled_next site n said) (spelled_next site (next_after n said) rs)
    ∙ ap (λ t. out ++ t) (sym (spelled_next_append site n said rs))

-- ---- the run over what stands at the front

goes_cases : (o : Option ℕ) (b : Bool) (site : Site) (k : Known) (f : Frame) (r : Run) → o ≡ None → b ≡ false →
    (let one : Run = elim o [
      | Some status ↦ record { replies = Failed status ∷ []; asked = []; ending = Refused status; known = k }
      | None ↦ cond b (record { replies = reply_to site k f; asked = handed_at k f; ending = Closed; known = known_after site k f }) (behind (reply_to site k f) (handed_at k f) r)
    ] in one ≡ behind (reply_to site k f) (handed_at k f) r)
goes_cases None false site k f r p q = refl
goes_cases None true site k f r p q = absurd (cc)
goes_cases (Some status) b site k f r p q = absurd (cc)

closes_cases : (o : Option ℕ) (b : Bool) (site : Site) (k : Known) (f : Frame) (r : Run) → o ≡ None → b ≡ true →
    (let one : Run = elim o [
      | Some status ↦ record { replies = Failed status ∷ []; asked = []; ending = Refused status; known = k }
      | None ↦ cond b (record { replies = reply_to site k f; asked = handed_at k f; ending = Closed; known = known_after site k f }) r
    ] in one ≡ record { replies = reply_to site k f; asked = handed_at k f; ending = Closed; known = known_after site k f })
closes_cases None true site k f r p q = refl
closes_cases None false site k f r p q = absurd (cc)
closes_cases (Some status) b site k f r p q = absurd (cc)

refuses_cases : (o : Option ℕ) (k : Known) (r : Run) (status : ℕ) → o ≡ Some status →
    (let one : Run = elim o [ Some status ↦ record { replies = Failed status ∷ []; asked = []; ending = Refused status; known = k } | None ↦ r ] in
    one ≡ record { replies = Failed status ∷ []; asked = []; ending = Refused status; known = k })
refuses_cases (Some other) k r status e = let same : other ≡ status = cc in λ i. record { replies = Failed (same i) ∷ []; asked = []; ending = Refused (same i); known = k }
refuses_cases None k r status e = absurd (cc)

-- a frame at the front
run_front : (site : Site) (k : Known) (now n : ℕ) (bytes : List ℕ) → BeginsFrame n bytes →
    run_on site k now bytes ≡ run site k (first_frame now n bytes ∷ frames_of (map (at now) (drop n bytes))) (plain (rest_of (map (at now) (drop n bytes))))
run_front site k now n bytes h = let w = at_once_step now bytes n h.within h.frame in λ i. run site k (w.0 i) (plain (w.1 i))

-- one that stands
run_stands : (old new : Running) (now n : ℕ) (bytes : List ℕ) (had has : Gained) → BeginsFrame n bytes → Stands old new (first_frame now n bytes) had has →
    (let f = first_frame now n bytes in
    brought old now bytes ≡ behind (reply_to old.site old.known f) (handed_at old.known f) (brought new now (drop n bytes)))
run_stands old new now n bytes had has h s =
    let f = first_frame now n bytes in
    run_front old.site old.known now n bytes h
    ∙ goes_cases (fault_at old.site old.known f) (is_close (kind_of f.bytes)) old.site old.known f
    (run_on old.site (known_after old.site old.known f) now (drop n bytes)) s.fine s.more
    ∙ (λ i. behind (reply_to old.site old.known f) (handed_at old.known f) (run_on (sym s.site i) (sym s.known i) now (drop n bytes)))

-- A CLO is not answered.
close_unanswered : (site : Site) (k : Known) (f : Frame) (kind : Option Kind) → is_close kind ≡ true → (reply_by site k f kind ≡ []) × (is_message kind ≡ false)
close_unanswered site k f (Some kinds.Close) h = (refl, refl)
close_unanswered site k f (Some kinds.Hello) h = absurd (cc)
close_unanswered site k f (Some kinds.Acknowledge) h = absurd (cc)
close_unanswered site k f (Some kinds.Error) h = absurd (cc)
close_unanswered site k f (Some kinds.ReverseHello) h = absurd (cc)
close_unanswered site k f (Some kinds.Open) h = absurd (cc)
close_unanswered site k f (Some kinds.Message) h = absurd (cc)
close_unanswered site k f None h = absurd (cc)

close_is_silent : (site : Site) (k : Known) (f : Frame) → is_close (kind_of f.bytes) ≡ true → (reply_to site k f ≡ []) × (handed_at k f ≡ [])
unfolding reply_to handed_at
close_is_silent site k f h =
    let c = close_unanswered site k f (kind_of f.bytes) h in
    (c.0, λ i. to_list (cond (c.1 i && flag_of f.bytes == 70) (request_of (body_of k.half ++ (carried f).body)) None))

run_closes : (site : Site) (k : Known) (now n : ℕ) (bytes : List ℕ) → BeginsFrame n bytes → fault_at site k (first_frame now n bytes) ≡ None → is_close (kind_of (take n bytes)) ≡ true →
    run_on site k now bytes ≡ record { replies = []; asked = []; ending = Closed; known = known_after site k (first_frame now n bytes) }
run_closes site k now n bytes h fine close =
    let f = first_frame now n bytes in
    let silent = close_is_silent site k f close in
    run_front site k now n bytes h
    ∙ closes_cases (fault_at site k f) (is_close (kind_of f.bytes)) site k f
    (behind (reply_to site k f) (handed_at k f) (run_on site (known_after site k f) now (drop n bytes))) fine close
    ∙ (λ i. record { replies = silent.0 i; asked = silent.1 i; ending = Closed; known = known_after site k f })

-- no frame
run_waits : (site : Site) (k : Known) (now : ℕ) (bytes : List ℕ) → BeginsNoFrame bytes → run_on site k now bytes ≡ run site k [] bytes
run_waits site k now bytes h = let w = at_once_stop now bytes h in λ i. run site k (w.0 i) (w.1 i)

-- a frame that is refused
run_refuses_frame : (site : Site) (k : Known) (now n : ℕ) (bytes : List ℕ) (status : ℕ) → BeginsFrame n bytes → fault_at site k (first_frame now n bytes) ≡ Some status →
    run_on site k now bytes ≡ record { replies = Failed status ∷ []; asked = []; ending = Refused status; known = k }
run_refuses_frame site k now n bytes status h e =
    run_front site k now n bytes h ∙ refuses_cases (fault_at site k (first_frame now n bytes)) k _ status e

begins_or_by : (u v : Bool) (bytes : List ℕ) → nat_le 8 (size_of bytes) ≡ u → nat_le (size_of bytes) (length bytes) ≡ v → BeginsFrame (size_of bytes) bytes ⊎ BeginsNoFrame bytes
begins_or_by true true bytes p q = inl (record { within = leb-true _ _ q; frame = front_is_frame bytes (leb-true 8 _ p) (leb-true _ _ q) })
begins_or_by true false bytes p q = inr (λ n le is. let z = frame_size n bytes le is in let short = leb-false _ _ q in absurd (omega (arith, z.1, short, le)))
begins_or_by false v bytes p q = inr (λ n le is. let z = frame_size n bytes le is in let small = leb-false _ _ p in absurd (omega (arith, z.0, z.1, small)))

pub begins_or : (bytes : List ℕ) → BeginsFrame (size_of bytes) bytes ⊎ BeginsNoFrame bytes
begins_or bytes = begins_or_by (nat_le 8 (size_of bytes)) (nat_le (size_of bytes) (length bytes)) bytes refl refl

-- a header that is refused in the bytes is refused in the frame that they begin with
refused_whole : (site : Site) (k : Known) (bytes : List ℕ) (n now status : ℕ) → BeginsFrame n bytes → fault_in_rest k bytes ≡ Some status → fault_at site k (first_frame now n bytes) ≡ Some status
unfolding fault_at fault_in_rest
refused_whole site k bytes n now status h e =
    let f = first_frame now n bytes in
    ap (λ o. or_else o (first_row (frame_rows site k f (kind_of f.bytes) (flag_of f.bytes))))
    (header_fault_take (greatest_frame k.limits) n bytes (omega (arith, h.frame.header, length-take-le n bytes h.within)) ∙ e)

run_refuses : (site : Site) (k : Known) (now : ℕ) (bytes : List ℕ) (status : ℕ) → IsRefused site k now bytes status →
    run_on site k now bytes ≡ record { replies = Failed status ∷ []; asked = []; ending = Refused status; known = k }
run_refuses site k now bytes status (by_frame n h e) = run_refuses_frame site k now n bytes status h e
run_refuses site k now bytes status (by_header e) =
    elim (begins_or bytes) [
      | inl h ↦ run_refuses_frame site k now _ bytes status h (refused_whole site k bytes _ now status h e)
      | inr none ↦ run_waits site k now bytes none ∙ (λ i. record { replies = failing (ended (e i) bytes); asked = []; ending = ended (e i) bytes; known = k })
    ]

-- ---- more of a piece behind the bytes of the buffer

goes_on_further : (old new : Running) (now : ℕ) (front more : List ℕ) (had has : Gained) → Steps old new now front had has steps.GoesOn → Steps old new now (front ++ more) had has steps.GoesOn
goes_on_further old new now front more had has s =
    let n = size_of front in
    let size : size_of (front ++ more) ≡ n = same_size n front more s.0 in (
      subst (λ z. BeginsFrame z (front ++ more)) (sym size) (begins_further n front more s.0),
      subst (λ (f : Frame). Stands old new f had has) (sym ((λ i. first_frame now (size i) (front ++ more)) ∙ same_first now n front more s.0)) s.1,
    )

closes_further : (old new : Running) (now : ℕ) (front more : List ℕ) (had has : Gained) → Steps old new now front had has steps.Closed → Steps old new now (front ++ more) had has steps.Closed
closes_further old new now front more had has s =
    (s.0, begins_further s.0 front more s.1, subst (λ (f : Frame). Closes old f had has) (sym (same_first now s.0 front more s.1)) s.2)

refused_further : (site : Site) (k : Known) (now : ℕ) (front more : List ℕ) (status : ℕ) → IsRefused site k now front status → IsRefused site k now (front ++ more) status
unfolding fault_in_rest
refused_further site k now front more status (by_header e) = by_header (header_fault_stays (greatest_frame k.limits) front more status e)
refused_further site k now front more status (by_frame n h e) = by_frame n (begins_further n front more h) (ap (fault_at site k) (same_first now n front more h) ∙ e)

-- ---- the loop

starts : (old : Running) (now : ℕ) (bytes : List ℕ) (had : Gained) → Hearing old old now bytes had had bytes
starts old now bytes had = record {
  said = [];
  hands = [];
  brings = refl;
  asks = refl;
  added = sym (append-nil had.bytes);
  asked = sym (append-nil had.asked);
  ending = refl;
  site = refl;
  known = refl;
  number = refl;
  rest = refl;
}

pub starts_with : (old : Running) (now : ℕ) (had : Gained) (front piece new : List ℕ) (k : ℕ) → new ≡ front ++ take k piece → Hearing old old now (front ++ piece) had had (new ++ drop k piece)
starts_with old now had front piece new k e =
    subst (λ l. Hearing old old now (front ++ piece) had had l) (sym (ap (λ l. l ++ drop k piece) e ∙ pushed_first k front piece)) (starts old now (front ++ piece) had)

quiet : (o : Option ℕ) (bytes : List ℕ) → o ≡ None → (failing (ended o bytes) ≡ []) × (stop (ended o bytes) ≡ None)
quiet None [] h = (refl, refl)
quiet None (b ∷ bytes) h = (refl, refl)
quiet (Some status) bytes h = absurd (cc)

still : {old new : Running} {now : ℕ} {bytes : List ℕ} {had has : Gained} {left : List ℕ} →
    Hearing old new now bytes had has left → BeginsNoFrame left → fault_in_rest new.known left ≡ None → Hears old new now bytes had has left None
still {old} {new} {now} {bytes} {had} {has} {left} h none fine =
    let r : brought new now left ≡ run new.site new.known [] left = run_waits new.site new.known now left none in
    let q = quiet (fault_in_rest new.known left) left fine in
    let all : (brought old now bytes).replies ≡ h.said = h.brings ∙ (λ i. h.said ++ (r i).replies) ∙ ap (λ rs. h.said ++ rs) q.0 ∙ append-nil h.said in
    let asks : (brought old now bytes).asked ≡ h.hands = h.asks ∙ (λ i. h.hands ++ (r i).asked) ∙ append-nil h.hands in
    record {
      said = h.added ∙ ap (λ rs. had.bytes ++ spelled_next old.site old.next rs) (sym all);
      asked = h.asked ∙ ap (λ qs. had.asked ++ qs) (sym asks);
      came_is = sym (ap stop h.ending ∙ (λ i. stop (r i).ending) ∙ q.1);
      site = λ _. h.site;
      known = λ _. sym (h.known ∙ (λ i. (r i).known));
      number = λ _. h.number ∙ ap (next_after old.next) (sym all);
      rest = λ _. sym (h.rest ∙ (at_once_stop now left none).1);
    }

waits : {old new new2 : Running} {now : ℕ} {bytes : List ℕ} {had has has2 : Gained} {left : List ℕ} →
    Hearing old new now bytes had has left → Steps new new2 now left has has2 steps.Waits → Hears old new2 now bytes had has2 left None
waits {old} {new} {new2} {now} {bytes} {had} {has} {has2} {left} h s =
    subst (λ (o : Running). Hears old o now bytes had has2 left None) (sym s.2) (subst (λ (g : Gained). Hears old new now bytes had g left None) (sym s.3) (still h s.0 s.1))

pub waits_whole : {old new new2 : Running} {now : ℕ} {bytes : List ℕ} {had has has2 : Gained} {front left : List ℕ} →
    Hearing old new now bytes had has left → left ≡ front → Steps new new2 now front has has2 steps.Waits → Hears old new2 now bytes had has2 front None
waits_whole {old} {new} {new2} {now} {bytes} {had} {has} {has2} {front} {left} h e s = waits (subst (λ l. Hearing old new now bytes had has l) e h) s

-- where there is more to read, and it is read
pub reads_on : {old new new2 : Running} {now : ℕ} {bytes : List ℕ} {had has has2 : Gained} {front left : List ℕ} →
    Hearing old new now bytes had has left → Steps new new2 now front has has2 steps.Waits → (left2 : List ℕ) → left2 ≡ left → Hearing old new2 now bytes had has2 left2
reads_on {old} {new} {new2} {now} {bytes} {had} {has} {has2} {front} {left} h s left2 e =
    subst (λ (o : Running). Hearing old o now bytes had has2 left2) (sym s.2) (subst (λ (g : Gained). Hearing old new now bytes had g left2) (sym s.3) (subst (λ l. Hearing old new now bytes had has l) (sym e) h))

pub closes : {old new new2 : Running} {now : ℕ} {bytes : List ℕ} {had has has2 : Gained} {front left : List ℕ} (more : List ℕ) →
    Hearing old new now bytes had has (front ++ more) → Steps new new2 now front has has2 steps.Closed → Hears old new2 now bytes had has2 left (Some Closed)
closes {old} {new} {new2} {now} {bytes} {had} {has} {has2} {front} {left} more h at_front =
    let s = closes_further new new2 now front more has has2 at_front in
    let r = run_closes new.site new.known now s.0 (front ++ more) s.1 s.2.fine s.2.close in
    let all : (brought old now bytes).replies ≡ h.said = h.brings ∙ (λ i. h.said ++ (r i).replies) ∙ append-nil h.said in
    let asks : (brought old now bytes).asked ≡ h.hands = h.asks ∙ (λ i. h.hands ++ (r i).asked) ∙ append-nil h.hands in
    record {
      said = ap (λ (g : Gained). g.bytes) s.2.unchanged ∙ h.added ∙ ap (λ rs. had.bytes ++ spelled_next old.site old.next rs) (sym all);
      asked = ap (λ (g : Gained). g.asked) s.2.unchanged ∙ h.asked ∙ ap (λ qs. had.asked ++ qs) (sym asks);
      came_is = sym (ap stop h.ending ∙ (λ i. stop (r i).ending));
      site = λ n. absurd (cc);
      known = λ n. absurd (cc);
      number = λ n. absurd (cc);
      rest = λ n. absurd (cc);
    }

pub refuses : {old new new2 : Running} {now : ℕ} {bytes : List ℕ} {had has has2 : Gained} {front left : List ℕ} {status : ℕ} {out : List ℕ} (more : List ℕ) →
    Hearing old new now bytes had has (front ++ more) → Steps new new2 now front has has2 (steps.Refused status) → out ≡ has2.bytes ++ error_frame (record { status = status; reason = None }) →
    Hears old new2 now bytes had (record { bytes = out; asked = has2.asked }) left (Some (Refused status))
refuses {old} {new} {new2} {now} {bytes} {had} {has} {has2} {front} {left} {status} {out} more h s e =
    let one : List Reply = Failed status ∷ [] in
    let r = run_refuses new.site new.known now (front ++ more) status (refused_further new.site new.known now front more status s.0) in
    let all : (brought old now bytes).replies ≡ h.said ++ one = h.brings ∙ (λ i. h.said ++ (r i).replies) in
    let asks : (brought old now bytes).asked ≡ h.hands = h.asks ∙ (λ i. h.hands ++ (r i).asked) ∙ append-nil h.hands in
    let written : out ≡ has.bytes ++ spelled_next old.site (next_after old.next h.said) one =
    e ∙ (λ i. (s.1 i).bytes ++ sym (failed_spelled old.site (next_after old.next h.said) status) i) in
    record {
      said = says_more old.site old.next _ had.bytes has.bytes out h.said one h.added refl written ∙ ap (λ rs. had.bytes ++ spelled_next old.site old.next rs) (sym all);
      asked = ap (λ (g : Gained). g.asked) s.1 ∙ h.asked ∙ ap (λ qs. had.asked ++ qs) (sym asks);
      came_is = sym (ap stop h.ending ∙ (λ i. stop (r i).ending));
      site = λ n. absurd (cc);
      known = λ n. absurd (cc);
      number = λ n. absurd (cc);
      rest = λ n. absurd (cc);
    }

goes_on_at : {old new new2 : Running} {now : ℕ} {bytes : List ℕ} {had has has2 : Gained} {left : List ℕ} →
    Hearing old new now bytes had has left → Steps new new2 now left has has2 steps.GoesOn → Hearing old new2 now bytes had has2 (drop (size_of left) left)
goes_on_at {old} {new} {new2} {now} {bytes} {had} {has} {has2} {left} h s =
    let n = size_of left in
    let f = first_frame now n left in
    let rs = reply_to new.site new.known f in
    let qs = handed_at new.known f in
    let next = brought new2 now (drop n left) in
    let r : brought new now left ≡ behind rs qs next = run_stands new new2 now n left has has2 s.0 s.1 in
    record {
      said = h.said ++ rs;
      hands = h.hands ++ qs;
      brings = h.brings ∙ (λ i. h.said ++ (r i).replies) ∙ sym (append_assoc h.said rs next.replies);
      asks = h.asks ∙ (λ i. h.hands ++ (r i).asked) ∙ sym (append_assoc h.hands qs next.asked);
      added = says_more old.site old.next new.next had.bytes has.bytes has2.bytes h.said rs h.added h.number
          (s.1.said ∙ (λ i. has.bytes ++ spelled_next (h.site i) new.next rs));
      asked = s.1.handed ∙ ap (λ l. l ++ qs) h.asked ∙ append_assoc had.asked h.hands qs;
      ending = h.ending ∙ (λ i. (r i).ending);
      site = s.1.site ∙ h.site;
      known = h.known ∙ (λ i. (r i).known);
      number = s.1.number ∙ ap (λ k. next_after k rs) h.number ∙ sym (next_append old.next h.said rs);
      rest = h.rest ∙ ap plain (at_once_step now left n s.0.within s.0.frame).1;
    }

pub goes_on : {old new new2 : Running} {now : ℕ} {bytes : List ℕ} {had has has2 : Gained} {front : List ℕ} (more : List ℕ) →
    Hearing old new now bytes had has (front ++ more) → Steps new new2 now front has has2 steps.GoesOn → Hearing old new2 now bytes had has2 (drop (size_of front) front ++ more)
goes_on {old} {new} {new2} {now} {bytes} {had} {has} {has2} {front} more h s =
    let n = size_of front in
    let there : drop (size_of (front ++ more)) (front ++ more) ≡ drop n front ++ more =
    (λ i. drop (same_size n front more s.0 i) (front ++ more)) ∙ left_behind n front more s.0 in
    subst (λ l. Hearing old new2 now bytes had has2 l) there (goes_on_at h (goes_on_further new new2 now front more has has2 s))

-- what stands in the output where memory ran out
pub part : {old new : Running} {now : ℕ} {bytes : List ℕ} {had has : Gained} {left : List ℕ} {out : List ℕ} →
    Hearing old new now bytes had has left → out ≡ has.bytes → HearsPart old now bytes had.bytes out
part h e = record { said = h.said; left = _; begins = h.brings; added = e ∙ h.added }

-- and where the error could not be written
pub part_refused : {old new : Running} {now : ℕ} {bytes : List ℕ} {had has : Gained} (new2 : Running) {has2 : Gained} {front left : List ℕ} {status : ℕ} {out : List ℕ} →
    Hearing old new now bytes had has left → Steps new new2 now front has has2 (steps.Refused status) → out ≡ has2.bytes → HearsPart old now bytes had.bytes out
part_refused new2 h s e = part h (e ∙ ap (λ (g : Gained). g.bytes) s.1)

-- each frame has bytes
pub falls : (old new : Running) (now : ℕ) (front : List ℕ) (had has : Gained) → Steps old new now front had has steps.GoesOn → (8 ≤ size_of front) × (size_of front ≤ length front)
falls old new now front had has s = (omega (arith, s.0.frame.header, length-take-le (size_of front) front s.0.within), s.0.within)
