-- Faithful streams: after every schedule, what was delivered is a beginning of what was sent, each way.
use mathlib.Core.List.{IsPrefix}
use Rattle.std.proofs.Common.{◌≡◌, ℕ, ◌≤◌, Bool, true, false, cond, List, [], ◌∷◌, ◌++◌, map, take, drop, length, Option, Some, None, refl, sym, ap, subst, ◌∙◌, arith, append_assoc, ◌⊎◌, inl, inr}
use Rattle.std.specs.Prelude.{ℤ, ◌==◌, ◌&&◌, not, is_some, option_map}
use Rattle.std.proofs.lemmas.List.{append-nil, take-append-drop, length-append}
use Rattle.std.proofs.lemmas.Bool.{not-false}
use Rattle.ua_frame.specs.Rows.{first_row}
use Rattle.ua_frame.specs.Streams.{TimedByte, at, plain, moment_of, rest_of}
use Rattle.ua_frame.specs.StreamLaws.{plain_at, plain_append, length_plain}
use Rattle.ua_frame.specs.Layout.{Frame, kind_of, flag_of, frames_of}
use Rattle.ua_frame.specs.HeaderRows.{header_fault}
use Rattle.ua_frame.specs.declared.kind.Kind.TheVariants as kinds
use Rattle.ua_chunk.specs.Numbers.{number_after}
use Rattle.ua_channel.specs.declared.token.Token.{Token}
use Rattle.ua_service.specs.declared.request.Request.{Request}
use Rattle.ua_conn.specs.Past.{Past, is_open, carried}
use Rattle.ua_conn.specs.server.Replies.{reply_bytes}
use Rattle.ua_conn.specs.server.Held.{newest_first}
use Rattle.ua_conn.specs.client.Asker.{Asker, hello_by}
use Rattle.ua_conn.specs.client.Commands.{Act, Ask, Renew, Close, Command, Commands, next_id, is_closed}
use Rattle.ua_conn.specs.client.Past.{client_known, granted_in, ack_by, or_frame, acknowledge_frame_in, is_acknowledge_frame, awaits_reverse}
use Rattle.ua_conn.specs.client.Pending.{bytes_in, come_by, due_at, wanted_at}
use Rattle.ua_conn.specs.client.Faults.{greatest_answer, client_rows, client_fault_by, is_awaited, token_usable}
use Rattle.ua_conn.specs.client.Reading.{ClientReading, client_fault_at, client_reading, client_reading_of, client_fault}
use Rattle.ua_conn.specs.client.Sending.{Sent, Greeting, sent_bytes, more_sent, sent_after, sent_all, greets, opens, opens_by, act_says, commands_say, sent_by, client_bytes}
use Rattle.ua_conn.specs.client.Asking.{standing, act_rows, ask_fault}
use Rattle.ua_conn.specs.Story.{Setup, World, begun, client_stream, server_stream, delivered, told_by, came_by, happens, run, final}
use Rattle.ua_conn.specs.BothEnds.{Faithful}
use Rattle.ua_conn.specs.declared.schedule.Step.{Step}
use Rattle.ua_conn.specs.declared.schedule.Step.TheVariants as steps
use Rattle.ua_conn.specs.declared.client.ask_fault.AskFault.{AskFault}
use Rattle.ua_conn.specs.declared.client.fault.ClientFault.{ClientFault}
use Rattle.ua_conn.specs.declared.client.fault.ClientFault.TheVariants.{Broken}
use Rattle.ua_conn.specs.declared.client.ask_fault.AskFault.TheVariants.{Ended, NotOpen}
use Rattle.ua_conn.proofs.KindLemmas.{is_open_tells}
use Rattle.ua_conn.proofs.TableLemmas.{all_no, or_none}
use Rattle.ua_conn.proofs.ServerEnd.GrowthLemmas.{reply_grows}
use Rattle.ua_conn.proofs.ClientEnd.PlaceLemmas.{AllBehind, AllWithin, frames_within, later_frames, come_by_same, behind_less, behind_weaker}
use Rattle.ua_conn.proofs.ClientEnd.ReadingLemmas.{ReadsOn, reads_more, reads_same, along_reading}
use Rattle.ua_conn.proofs.ClientEnd.GreetingLemmas.{IsGreeted, unheard, greeted, greeted_of, greeted_acked, greets_along}

-- ---- beginnings

pub prefix_self : {A : Type 0} (xs : List A) → IsPrefix xs xs
prefix_self xs = ([], append-nil xs)

pub prefix_trans : {A : Type 0} (xs ys zs : List A) → IsPrefix xs ys → IsPrefix ys zs → IsPrefix xs zs
prefix_trans xs ys zs p q = (p.0 ++ q.0, sym (append_assoc xs p.0 q.0) ∙ ap (λ w. w ++ q.0) p.1 ∙ q.1)

prefix_next : {A : Type 0} (n : ℕ) (xs ys : List A) → IsPrefix xs ys → IsPrefix (xs ++ take n (drop (length xs) ys)) ys
prefix_next n [] ys p = (drop n ys, take-append-drop n ys)
prefix_next n (x ∷ xs) [] p = absurd (cc (p.1))
prefix_next n (x ∷ xs) (y ∷ ys) p =
    let rest = prefix_next n xs ys (p.0, cc (p.1)) in
    let heads : x ≡ y = cc (p.1) in
    (rest.0, cc (heads, rest.1))

delivered_prefix : (clock : ℤ) (s : List TimedByte) (n : ℕ) (stream : List ℕ) → IsPrefix (plain s) stream → IsPrefix (plain (delivered clock s n stream)) stream
delivered_prefix clock s n stream p =
    let next = take n (drop (length s) stream) in
    let e : plain s ++ take n (drop (length (plain s)) stream) ≡ plain (delivered clock s n stream) =
    ap (λ (k : ℕ). plain s ++ take n (drop k stream)) (length_plain s)
    ∙ ap (λ (bs : List ℕ). plain s ++ bs) (sym (plain_at (moment_of clock) next)) ∙ sym (plain_append s (map (at (moment_of clock)) next)) in
    subst (λ (bs : List ℕ). IsPrefix bs stream) e (prefix_next n (plain s) stream p)

-- ---- what is sent

pub sent_append : (first n : ℕ) (xs ys : List Sent) → sent_all first n (xs ++ ys) ≡ sent_all first n xs ++ sent_all first (sent_after n xs) ys
sent_append first n [] ys = refl
sent_append first n (x ∷ xs) ys =
    ap (λ b. sent_bytes (number_after first n) x ++ b) (sent_append first (more_sent n x) xs ys)
    ∙ sym (append_assoc (sent_bytes (number_after first n) x) (sent_all first (more_sent n x) xs) (sent_all first (sent_after (more_sent n x) xs) ys))

bytes_prefix : (a : Asker) (xs ys : List Sent) → IsPrefix xs ys → IsPrefix (sent_all a.first_sequence 0 xs) (sent_all a.first_sequence 0 ys)
bytes_prefix a xs ys p = (sent_all a.first_sequence (sent_after 0 xs) p.0, sym (sent_append a.first_sequence 0 xs p.0) ∙ ap (sent_all a.first_sequence 0) p.1)

-- every command was given by the time that n bytes had come
unfoldable pub AllSeen : ℕ → Commands → Type 0
AllSeen n [] = Unit {0}
AllSeen n (c ∷ cmds) = (c.seen ≤ n) × AllSeen n cmds

pub seen_later : (n m : ℕ) (cmds : Commands) → n ≤ m → AllSeen n cmds → AllSeen m cmds
unfolding AllSeen
seen_later n m [] le h = tt
seen_later n m (c ∷ cmds) le h = (omega (arith, h.0), seen_later n m cmds le h.1)

-- frames that come later change nothing of what the commands say
pub commands_same : (a : Asker) (n : ℕ) (cmds : Commands) (fs : List Frame) (past : Past) → AllSeen n cmds → AllBehind n past fs → commands_say a cmds (newest_first fs past) ≡ commands_say a cmds past
unfolding AllSeen
commands_same a n [] fs past h b = refl
commands_same a n (c ∷ cmds) fs past h b = λ i.
    commands_same a n cmds fs past h.1 b i ++ act_says a (next_id cmds) c.moment (client_known (come_by_same c.seen fs past (behind_weaker n c.seen past fs h.0 b) i)) c.act

pub or_some : (o : Option Frame) (f g : Frame) (b : Bool) → o ≡ Some f → or_frame o b g ≡ Some f
or_some (Some h) f g b e = e
or_some None f g b e = absurd (cc e)

-- the first Acknowledge stays the first
pub acknowledge_same : (fs : List Frame) (past : Past) (f : Frame) → acknowledge_frame_in past ≡ Some f → acknowledge_frame_in (newest_first fs past) ≡ Some f
acknowledge_same [] past f e = e
acknowledge_same (g ∷ fs) past f e = acknowledge_same fs (g ∷ past) f (or_some (acknowledge_frame_in past) f g (is_acknowledge_frame g) e)

-- either nothing was told yet, or the Acknowledge has come
pub data IsStarted (cmds : Commands) (past : Past) : Type 0 where
  untold : cmds ≡ [] → IsStarted cmds past
  acknowledged : (f : Frame) → acknowledge_frame_in past ≡ Some f → IsStarted cmds past

-- behind the Acknowledge, frames that come later change nothing of what is sent
pub sent_same : (a : Asker) (n : ℕ) (cmds : Commands) (fs : List Frame) (past : Past) (f : Frame) → AllSeen n cmds → AllBehind n past fs → IsGreeted a past → acknowledge_frame_in past ≡ Some f →
    sent_by a cmds past ≡ sent_by a cmds (newest_first fs past)
sent_same a n cmds fs past f h b g e = λ i. sym (greets_along a fs past (greeted_acked a past f g e)) i ++ (opens_by a ((e ∙ sym (acknowledge_same fs past f e)) i) ++ sym (commands_same a n cmds fs past h b) i)

pub nothing_said : (a : Asker) → awaits_reverse a.reverse [] ≡ true → sent_by a [] [] ≡ []
nothing_said a h = by a.reverse h
  where
    by : (b : Bool) → (b && true) ≡ true → (cond b [] (Greeting (hello_by a) ∷ []) ++ []) ≡ []
    by true h = refl
    by false h = absurd (cc h)

sent_more : (a : Asker) (n : ℕ) (cmds : Commands) (fs : List Frame) (past : Past) → AllSeen n cmds → AllBehind n past fs → IsGreeted a past → IsStarted cmds past → IsPrefix (sent_by a cmds past) (sent_by a cmds (newest_first fs past))
sent_more a n cmds fs past h b g (acknowledged f e) = subst (λ (xs : List Sent). IsPrefix (sent_by a cmds past) xs) (sent_same a n cmds fs past f h b g e) (prefix_self (sent_by a cmds past))
sent_more a n cmds fs past h b g (untold e) = subst (λ (cs : Commands). IsPrefix (sent_by a cs past) (sent_by a cs (newest_first fs past))) (sym e) (by g)
  where
    later : Past
    later = newest_first fs past

    -- once the Hello was said
    said : awaits_reverse a.reverse past ≡ false → (o : Option Frame) → acknowledge_frame_in past ≡ o → IsPrefix (sent_by a [] past) (sent_by a [] later)
    said w None k = (
      opens a later ++ [],
      ap (λ o. (greets a past ++ (opens_by a o ++ [])) ++ (opens a later ++ [])) k ∙ ap (λ l. l ++ (opens a later ++ [])) (append-nil (greets a past)) ∙ ap (λ l. l ++ (opens a later ++ [])) (sym (greets_along a fs past w)),
    )
    said w (Some f) k =
        let same : sent_by a [] past ≡ sent_by a [] later = λ i. sym (greets_along a fs past w) i ++ (opens_by a ((k ∙ sym (acknowledge_same fs past f k)) i) ++ []) in
        subst (λ (xs : List Sent). IsPrefix (sent_by a [] past) xs) same (prefix_self (sent_by a [] past))

    -- before any frame: a Hello, or nothing yet
    unsaid : (b : Bool) → awaits_reverse a.reverse past ≡ b → past ≡ [] → IsPrefix (sent_by a [] past) (sent_by a [] later)
    unsaid false w none = said w (acknowledge_frame_in past) refl
    unsaid true w none =
        let silent : sent_by a [] past ≡ [] = ap (sent_by a []) none ∙ nothing_said a (ap (awaits_reverse a.reverse) (sym none) ∙ w) in
        subst (λ (xs : List Sent). IsPrefix xs (sent_by a [] later)) (sym silent) (sent_by a [] later, refl)

    by : IsGreeted a past → IsPrefix (sent_by a [] past) (sent_by a [] later)
    by (greeted w) = said w (acknowledge_frame_in past) refl
    by (unheard none) = unsaid (awaits_reverse a.reverse past) refl none

-- ---- more comes

-- the frames that come to stand later end behind all that came
pub stands_behind : (a : Asker) (cmds : Commands) (v t : List TimedByte) → (r : ReadsOn [] (frames_of v) (frames_of (rest_of v ++ t)) (client_reading_of a cmds v) (client_reading_of a cmds (v ++ t)))
    → AllBehind (length v) (client_reading_of a cmds v).past r.more
stands_behind a cmds v t r = behind r.first
  where
    P : Past
    P = (client_reading_of a cmds v).past

    behind : (r.more ≡ []) ⊎ ((P ≡ newest_first (frames_of v) []) × IsPrefix r.more (frames_of (rest_of v ++ t))) → AllBehind (length v) P r.more
    behind (inl e) = subst (λ (fs : List Frame). AllBehind (length v) P fs) (sym e) tt
    behind (inr h) =
        let all = subst (λ (fs : List Frame). AllBehind (length v) (newest_first (frames_of v) []) fs) (sym h.1.1) (later_frames v t) in
        subst (λ (past : Past). AllBehind (length v) past r.more) (sym h.0) (behind_less (length v) (newest_first (frames_of v) []) r.more h.1.0 all)

come_grows : (a : Asker) (cmds : Commands) (v t : List TimedByte) → AllSeen (length v) cmds → IsStarted cmds (client_reading_of a cmds v).past → IsPrefix (client_bytes a cmds v) (client_bytes a cmds (v ++ t))
come_grows a cmds v t seen started =
    let P = (client_reading_of a cmds v).past in
    let r = reads_more a cmds v t in
    subst (λ (past : Past). IsPrefix (client_bytes a cmds v) (sent_all a.first_sequence 0 (sent_by a cmds past))) (sym r.behind)
    (bytes_prefix a (sent_by a cmds P) (sent_by a cmds (newest_first r.more P)) (sent_more a (length v) cmds r.more P seen (stands_behind a cmds v t r) (greeted_of a cmds v) started))

pub started_later : (a : Asker) (cmds : Commands) (v t : List TimedByte) → IsStarted cmds (client_reading_of a cmds v).past → IsStarted cmds (client_reading_of a cmds (v ++ t)).past
started_later a cmds v t (untold e) = untold e
started_later a cmds v t (acknowledged f e) =
    let r = reads_more a cmds v t in
    acknowledged f (ap acknowledge_frame_in r.behind ∙ acknowledge_same r.more (client_reading_of a cmds v).past f e)

-- ---- an open channel was acknowledged

-- no token was granted yet, or the Acknowledge has come
abbrev IsAcked : Past → Type 0
IsAcked past = (granted_in past ≡ []) ⊎ ((f : Frame) × (acknowledge_frame_in past ≡ Some f))

-- an OPN is awaited behind an Acknowledge alone
awaited_open : (a : Asker) (reverse : Bool) (past : Past) (due : Option ℕ) (wanted : Option Request) (usable : Bool) (f : Frame) → client_fault_by a reverse (client_known past) due wanted usable f ≡ None → kind_of f.bytes ≡ Some kinds.Open →
    (g : Frame) × (acknowledge_frame_in past ≡ Some g)
unfolding client_fault_by client_known
awaited_open a reverse past due wanted usable f h kind = by (acknowledge_frame_in past) refl
  where
    rows : first_row (client_rows a reverse (client_known past) due wanted usable f (flag_of f.bytes) (Some kinds.Open)) ≡ None
    rows = ap (λ k. first_row (client_rows a reverse (client_known past) due wanted usable f (flag_of f.bytes) k)) (sym kind) ∙ or_none (option_map Broken (header_fault (greatest_answer (client_known past).ack) f.bytes)) (first_row (client_rows a reverse (client_known past) due wanted usable f (flag_of f.bytes) (kind_of f.bytes))) h

    awaited : is_awaited reverse (client_known past) due (Some kinds.Open) ≡ true
    awaited = not-false (is_awaited reverse (client_known past) due (Some kinds.Open)) (all_no (client_rows a reverse (client_known past) due wanted usable f (flag_of f.bytes) (Some kinds.Open)) rows).0

    either : (b : Bool) → cond b false false ≡ false
    either true = refl
    either false = refl

    by : (o : Option Frame) → acknowledge_frame_in past ≡ o → (g : Frame) × (acknowledge_frame_in past ≡ Some g)
    by (Some g) e = (g, e)
    by None e =
        let none : is_awaited reverse (client_known past) due (Some kinds.Open) ≡ false = ap (λ o. is_awaited reverse (record (client_known past) { ack = ack_by o }) due (Some kinds.Open)) e ∙ either reverse in
        absurd (let c : true ≡ false = sym awaited ∙ none in cc)

acked_step : (a : Asker) (cmds : Commands) (past : Past) (f : Frame) → client_fault_at a cmds past f ≡ None → IsAcked past → IsAcked (f ∷ past)
acked_step a cmds past f h (inr g) = inr (g.0, or_some (acknowledge_frame_in past) g.0 f (is_acknowledge_frame f) g.1)
acked_step a cmds past f h (inl e) = by (is_open (kind_of f.bytes)) refl
  where
    by : (b : Bool) → is_open (kind_of f.bytes) ≡ b → IsAcked (f ∷ past)
    by true o =
        let end = bytes_in (f ∷ past) in
        let g = awaited_open a (awaits_reverse a.reverse past) past (due_at cmds past end) (wanted_at cmds past end (carried f).request_id) (token_usable (client_known past) f) f h (is_open_tells _ o) in
        inr (g.0, or_some (acknowledge_frame_in past) g.0 f (is_acknowledge_frame f) g.1)
    by false o = inl (rw o e)

acked : (a : Asker) (cmds : Commands) (past : Past) (fs : List Frame) (rest : List ℕ) → IsAcked past → IsAcked (client_reading a cmds past fs rest).past
acked a cmds past fs rest h = along_reading IsAcked a cmds (acked_step a cmds) past fs rest h

-- a command that is accepted comes behind the Acknowledge
pub accepted_acked : (a : Asker) (cmds : Commands) (v : List TimedByte) (act : Act) → ask_fault a cmds v act ≡ None → (f : Frame) × (acknowledge_frame_in (client_reading_of a cmds v).past ≡ Some f)
unfolding client_known
accepted_acked a cmds v act h = by (acked a cmds [] (frames_of v) (plain (rest_of v)) (inl refl))
  where
    P : Past
    P = (client_reading_of a cmds v).past

    is_there : (standing cmds P).channel_open ≡ true
    is_there = not-false (standing cmds P).channel_open
        (all_no ((is_some (client_reading_of a cmds v).fault, Ended) ∷ (not (standing cmds P).channel_open, NotOpen) ∷ act_rows (standing cmds P) act) h).1.0

    by : IsAcked P → (f : Frame) × (acknowledge_frame_in P ≡ Some f)
    by (inr g) = g
    by (inl e) =
        let none : (standing cmds P).channel_open ≡ false = ap (λ (ts : List Token). not (length (take 2 ts) == 0) && not (is_closed cmds)) e in
        absurd (let c : true ≡ false = sym is_there ∙ none in cc)

-- ---- every schedule

pub record Flow (s : Setup) (w : World) : Type 0 where
  pub up : IsPrefix (plain w.up) (client_stream s w)
  pub down : IsPrefix (plain w.down) (server_stream s w)
  pub seen : AllSeen (length w.down) w.cmds
  pub started : IsStarted w.cmds (client_reading_of s.asker w.cmds w.down).past

told_grows : (a : Asker) (c : Command) (cmds : Commands) (v : List TimedByte) → length v ≤ c.seen → IsPrefix (client_bytes a cmds v) (client_bytes a (c ∷ cmds) v)
told_grows a c cmds v le =
    let P = (client_reading_of a cmds v).past in
    let same = reads_same a c cmds v (weaker (length v) c.seen [] (frames_of v) le (frames_within v)) in
    let says = act_says a (next_id cmds) c.moment (client_known (come_by c.seen P)) c.act in
    let all : sent_by a cmds P ++ says ≡ sent_by a (c ∷ cmds) P = append_assoc (greets a P) (opens a P ++ commands_say a cmds P) says ∙ ap (λ l. greets a P ++ l) (append_assoc (opens a P) (commands_say a cmds P) says) in
    subst (λ (R : ClientReading). IsPrefix (client_bytes a cmds v) (sent_all a.first_sequence 0 (sent_by a (c ∷ cmds) R.past))) (sym same) (bytes_prefix a (sent_by a cmds P) (sent_by a (c ∷ cmds) P) (says, all))
  where
    weaker : (n m : ℕ) (past : Past) (fs : List Frame) → n ≤ m → AllWithin n past fs → AllWithin m past fs
    weaker n m past [] k h = tt
    weaker n m past (f ∷ fs) k h = (omega (arith, k, h.0), weaker n m (f ∷ past) fs k h.1)

pub seen_one : (n : ℕ) (c : Command) (cmds : Commands) → c.seen ≤ n → AllSeen n cmds → AllSeen n (c ∷ cmds)
unfolding AllSeen
seen_one n c cmds le h = (le, h)

flow_told : (s : Setup) (w : World) → Flow s w → (act : Act) (o : Option AskFault) → ask_fault s.asker w.cmds w.down act ≡ o → Flow s (told_by w act o)
flow_told s w i act (Some reason) e = i
flow_told s w i act None e =
    let c : Command = record { act = act; moment = moment_of w.clock; seen = length w.down } in
    let a = accepted_acked s.asker w.cmds w.down act e in
    record {
      up = prefix_trans (plain w.up) (client_stream s w) (client_bytes s.asker (c ∷ w.cmds) w.down) i.up (told_grows s.asker c w.cmds w.down (omega arith));
      down = i.down;
      seen = seen_one (length w.down) c w.cmds (omega arith) i.seen;
      started = acknowledged a.0 (ap (λ (R : ClientReading). acknowledge_frame_in R.past) (reads_same s.asker c w.cmds w.down (frames_within w.down)) ∙ a.1);
    }

flow_down : (s : Setup) (w : World) → Flow s w → (n : ℕ) (o : Option ClientFault) → Flow s (came_by w (delivered w.clock w.down n (server_stream s w)) o)
flow_down s w i n o = by o
  where
    t : List TimedByte
    t = map (at (moment_of w.clock)) (take n (drop (length w.down) (server_stream s w)))

    up : IsPrefix (plain w.up) (client_bytes s.asker w.cmds (w.down ++ t))
    up = prefix_trans (plain w.up) (client_stream s w) (client_bytes s.asker w.cmds (w.down ++ t)) i.up (come_grows s.asker w.cmds w.down t i.seen i.started)

    seen : AllSeen (length (w.down ++ t)) w.cmds
    seen = seen_later (length w.down) (length (w.down ++ t)) w.cmds (omega (arith, length-append w.down t)) i.seen

    by : (p : Option ClientFault) → Flow s (came_by w (w.down ++ t) p)
    by (Some fault) = record { up = up; down = delivered_prefix w.clock w.down n (server_stream s w) i.down; seen = seen; started = started_later s.asker w.cmds w.down t i.started }
    by None = record { up = up; down = delivered_prefix w.clock w.down n (server_stream s w) i.down; seen = seen; started = started_later s.asker w.cmds w.down t i.started }

pub flow_kept : (s : Setup) (w : World) → Flow s w → (e : Step) → Flow s (happens s w e)
flow_kept s w i (steps.Ask request part) = flow_told s w i (Ask request part) (ask_fault s.asker w.cmds w.down (Ask request part)) refl
flow_kept s w i steps.Renew = flow_told s w i Renew (ask_fault s.asker w.cmds w.down Renew) refl
flow_kept s w i steps.Close = flow_told s w i Close (ask_fault s.asker w.cmds w.down Close) refl
flow_kept s w i (steps.Tick n) = record { up = i.up; down = i.down; seen = i.seen; started = i.started }
flow_kept s w i (steps.Up n) = record {
  up = delivered_prefix w.clock w.up n (client_stream s w) i.up;
  down = prefix_trans (plain w.down) (server_stream s w) (reply_bytes s.asker.reverse s.site (delivered w.clock w.up n (client_stream s w))) i.down
      (reply_grows s.asker.reverse s.site w.up (map (at (moment_of w.clock)) (take n (drop (length w.up) (client_stream s w)))));
  seen = i.seen;
  started = i.started;
}
flow_kept s w i (steps.Down n) = flow_down s w i n (client_fault s.asker w.cmds (delivered w.clock w.down n (server_stream s w)))

flow_run : (s : Setup) (es : List Step) (w : World) → Flow s w → Flow s (run s w es)
flow_run s [] w i = i
flow_run s (e ∷ es) w i = flow_run s es (happens s w e) (flow_kept s w i e)

pub flow : (s : Setup) (schedule : List Step) → Flow s (final s schedule)
unfolding AllSeen
flow s schedule = flow_run s schedule (begun s) (record { up = (client_stream s (begun s), refl); down = (server_stream s (begun s), refl); seen = tt; started = untold refl })

pub faithful : Faithful
faithful s schedule = let i = flow s schedule in (i.up, i.down)
