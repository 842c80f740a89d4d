-- One command: from what a client shows to what its whole log says.
use Rattle.std.proofs.Common.{◌≡◌, ℕ, ◌+◌, ◌≤◌, max, Bool, true, false, List, [], ◌∷◌, ◌++◌, map, length, Option, Some, None, refl, sym, ap, subst, ◌∙◌, true≢false, arith}
use Rattle.std.specs.Prelude.{not, if◌then◌else◌}
use Rattle.std.proofs.lemmas.List.{append-nil}
use Rattle.ua_frame.specs.Rows.{first_row}
use Rattle.ua_chunk.specs.Numbers.{number_after}
use Rattle.ua_chunk.specs.NumberLaws.{IsNumber, number_is, number_after_none, number_after_more}
use Rattle.ua_chunk.specs.Cut.{Part, part_count, fill}
use Rattle.ua_chunk.specs.CutLaws.{length-fill}
use Rattle.ua_chunk.specs.Written.{open_frame, part_frame, close_frame, message_frames}
use Rattle.ua_channel.specs.Token.{newest_id}
use Rattle.ua_service.specs.declared.request.Request.{Request}
use Rattle.ua_service.specs.Requests.{canon_request}
use Rattle.ua_conn.specs.client.Asker.{Asker}
use Rattle.ua_conn.specs.client.Commands.{Act, Ask, Renew, Close, Commands, next_id, asked_in, request_under}
use Rattle.ua_conn.specs.client.Pending.{is_among, ended_ids, pending_in}
use Rattle.ua_conn.specs.Past.{Past}
use Rattle.ua_conn.specs.client.Questions.{open_asked_body, close_asked_body}
use Rattle.ua_conn.specs.client.Reading.{client_reading_of}
use Rattle.ua_conn.specs.client.Sending.{Opening, Asking, Closing, sent_bytes}
use Rattle.ua_conn.specs.client.Asking.{act_rows, refusal}
use Rattle.ua_conn.specs.client.Held.{Told, Log, IsLog, commands_of, stream_of, refused_in, ClientHeld, client_held, waiting_in, standing_of, ClientGains}
use Rattle.ua_conn.specs.client.Machine.{Awaiting, waiting_under, sent_next, next_sent, client_gain}
use Rattle.ua_conn.specs.client.Feeding.{ClientShown, Lived, AcceptsAll, RefusedBy}
use Rattle.ua_conn.specs.client.Taking.{ClientRunning}
use Rattle.ua_conn.specs.client.Telling.{against, waits_for, waits_open, numbered_to, waiting_to, shown_of}
use Rattle.ua_conn.specs.declared.client.ask_fault.AskFault.{AskFault}
use Rattle.ua_conn.specs.declared.client.ask_fault.AskFault.TheVariants as reasons
use Rattle.ua_conn.proofs.ClientEnd.FreshLemmas.{find_new, asked_below, below_filter}
use Rattle.ua_conn.proofs.ClientEnd.RecordLemmas.{refused_by_record, under_same}
use Rattle.ua_conn.proofs.ClientEnd.GainLemmas.{told_gained}

-- ---- frames

one_opening : (n channel id : ℕ) (body : List ℕ) → sent_next n (Opening channel id body ∷ []) ≡ open_frame channel n id body
unfolding sent_bytes
one_opening n channel id body = append-nil (open_frame channel n id body)

one_closing : (n channel token id : ℕ) (body : List ℕ) → sent_next n (Closing channel token id body ∷ []) ≡ close_frame channel token n id body
unfolding sent_bytes
one_closing n channel token id body = append-nil (close_frame channel token n id body)

frames_from : (channel token first n : ℕ) (parts : List Part) → 1 ≤ first →
    message_frames channel token first n parts ≡ sent_next (number_after first n) (map (Asking channel token) parts)
unfolding sent_bytes
frames_from channel token first n [] h = refl
frames_from channel token first n (p ∷ parts) h =
    ap (λ bytes. part_frame channel token (number_after first n) p ++ bytes)
    (frames_from channel token first (n + 1) parts h ∙ ap (λ m. sent_next m (map (Asking channel token) parts)) (sym (number_after_more first n 1 h)))

next_from : (channel token first n : ℕ) (parts : List Part) → 1 ≤ first → next_sent (number_after first n) (map (Asking channel token) parts) ≡ number_after first (n + length parts)
next_from channel token first n [] h = ap (number_after first) (omega arith)
next_from channel token first n (p ∷ parts) h =
    ap (λ m. next_sent m (map (Asking channel token) parts)) (number_after_more first n 1 h)
    ∙ next_from channel token first (n + 1) parts h
    ∙ ap (number_after first) (omega arith)

-- the frames of a request, from the number of the first, and the number behind them
request_frames : (channel token n : ℕ) (parts : List Part) → IsNumber n → message_frames channel token n 0 parts ≡ sent_next n (map (Asking channel token) parts)
request_frames channel token n parts h = frames_from channel token n 0 parts h.some ∙ ap (λ m. sent_next m (map (Asking channel token) parts)) (number_after_none n h)

request_next : (channel token n id part : ℕ) (body : List ℕ) → IsNumber n → number_after n (part_count (length body) part) ≡ next_sent n (map (Asking channel token) (fill id body part))
request_next channel token n id part body h =
    let parts = fill id body part in
    let count : part_count (length body) part ≡ 0 + length parts = sym (length-fill id part body) ∙ omega arith in
    ap (number_after n) count ∙ sym (next_from channel token n 0 parts h.some) ∙ ap (λ m. next_sent m (map (Asking channel token) parts)) (number_after_none n h)

-- ---- what a log says of what is held

-- no request is pending under the next id
fresh_held : (cmds : Commands) (past : Past) → waiting_under (next_id cmds) (waiting_in cmds past) ≡ None
fresh_held cmds past =
    let asked = pending_in cmds past in
    let below = below_filter (next_id cmds) (λ a. not (is_among (ended_ids past) a.id)) (asked_in cmds) (asked_below cmds) in
    under_same (next_id cmds) asked ∙ ap (λ l. request_under (next_id cmds) l) (sym (append-nil asked)) ∙ find_new (next_id cmds) asked [] below

pub fresh_id : (a : Asker) (log : Log) (shown : ClientShown) → Lived a log shown → waiting_under shown.held.next_id shown.held.pending ≡ None
unfolding client_held
fresh_id a log shown l =
    let cmds = commands_of log in
    subst (λ (h : ClientHeld). waiting_under h.next_id h.pending ≡ None) l.held_is (fresh_held cmds (client_reading_of a cmds (stream_of log)).past)

number_held : (a : Asker) (log : Log) (shown : ClientShown) → Lived a log shown → IsNumber shown.held.next
unfolding client_held
number_held a log shown l = subst (λ (h : ClientHeld). IsNumber h.next) l.held_is (number_is a.first_sequence _)

-- ---- a reason

goes_on : (failed : Bool) (o : Option AskFault) → (if failed then Some reasons.Ended else o) ≡ None → (failed ≡ false) × (o ≡ None)
goes_on true o h = absurd (cc h)
goes_on false o h = (refl, h)

-- no row of a command says that the client has ended
abbrev is_end : AskFault → Bool
is_end reasons.Ended = true
is_end fault = false

abbrev is_end_or_none : Option AskFault → Bool
is_end_or_none None = true
is_end_or_none (Some fault) = is_end fault

abbrev NoEnds : List (Bool × AskFault) → Type 0
NoEnds [] = Unit {0}
NoEnds (row ∷ rows) = (is_end row.1 ≡ false) × NoEnds rows

no_end : (rows : List (Bool × AskFault)) → NoEnds rows → first_row rows ≡ Some reasons.Ended → ⊥
no_end [] all h = absurd (cc h)
no_end ((b, x) ∷ rows) all h = by b (no_end rows all.1) h
  where
    by : (b : Bool) → (first_row rows ≡ Some reasons.Ended → ⊥) → first_row ((b, x) ∷ rows) ≡ Some reasons.Ended → ⊥
    by true later e = true≢false (sym (ap is_end_or_none e) ∙ all.0)
    by false later e = later e

never_ended : (h : ClientHeld) (act : Act) → refusal (standing_of h) act ≡ Some reasons.Ended → ⊥
never_ended h (Ask request part) e = no_end ((not (standing_of h).channel_open, reasons.NotOpen) ∷ act_rows (standing_of h) (Ask request part)) (refl, (refl, (refl, (refl, (refl, tt))))) e
never_ended h Renew e = no_end ((not (standing_of h).channel_open, reasons.NotOpen) ∷ act_rows (standing_of h) Renew) (refl, (refl, (refl, tt))) e
never_ended h Close e = no_end ((not (standing_of h).channel_open, reasons.NotOpen) ∷ act_rows (standing_of h) Close) (refl, (refl, (refl, (refl, tt)))) e

refused_alive : (old : ClientShown) (act : Act) (fault : AskFault) → old.failed ≡ false → refusal (standing_of old.held) act ≡ Some fault →
    (old.failed ≡ false) × ((a : Asker) (log : Log) → Lived a log old → refused_in a log act ≡ Some fault)
refused_alive old act fault alive e = (alive, λ a log l. refused_by_record a log act (l.accepted, l.fine) ∙ ap (λ h. refusal (standing_of h) act) l.held_is ∙ e)

refused_by : (old : ClientShown) (act : Act) (fault : AskFault) → old.failed ≡ false → refusal (standing_of old.held) act ≡ Some fault → RefusedBy old act fault
refused_by old act reasons.NoMemory alive e = alive
refused_by old act reasons.Ended alive e = absurd (never_ended old.held act e)
refused_by old act reasons.NotOpen alive e = refused_alive old act reasons.NotOpen alive e
refused_by old act reasons.TooLarge alive e = refused_alive old act reasons.TooLarge alive e
refused_by old act reasons.TooManyPending alive e = refused_alive old act reasons.TooManyPending alive e
refused_by old act reasons.IdsSpent alive e = refused_alive old act reasons.IdsSpent alive e
refused_by old act reasons.RenewPending alive e = refused_alive old act reasons.RenewPending alive e
refused_by old act reasons.StillPending alive e = refused_alive old act reasons.StillPending alive e
refused_by old act reasons.BadPartLimit alive e = refused_alive old act reasons.BadPartLimit alive e

some_inner : {A : Type 0} (x y : A) → Some x ≡ Some y → x ≡ y
some_inner x y e = cc e

pub refused : (old : ClientShown) (act : Act) (fault : AskFault) → against old act ≡ Some fault → RefusedBy old act fault
refused old act fault e = by old.failed refl e
  where
    by : (failed : Bool) → old.failed ≡ failed → (if failed then Some reasons.Ended else refusal (standing_of old.held) act) ≡ Some fault → RefusedBy old act fault
    by true p k = subst (λ f. RefusedBy old act f) (some_inner reasons.Ended fault k) p
    by false p k = refused_by old act fault p k

-- ---- a command is accepted

record Tells (a : Asker) (old : ClientShown) (now : ℕ) (act : Act) (new : ClientShown) : Type 0 where
  pub shows : new ≡ record old { held = (client_gain a old.held (Told now act)).after; output = new.output }
  pub sent : new.output ≡ old.output ++ (client_gain a old.held (Told now act)).bytes

accepts : (old new : ClientShown) (now : ℕ) (act : Act) → against old act ≡ None → ((a : Asker) (log : Log) → Lived a log old → Tells a old now act new) → AcceptsAll old now act new
unfolding client_gain
accepts old new now act none tells =
    let alive = goes_on old.failed (refusal (standing_of old.held) act) none in (
      alive.0,
      λ a log l.
          (let fine : refused_in a log act ≡ None = refused_by_record a log act (l.accepted, l.fine) ∙ ap (λ h. refusal (standing_of h) act) l.held_is ∙ alive.1 in
          let is : IsLog a (Told now act ∷ log) = (fine, l.accepted) in
          let gains = subst (λ h. ClientGains a log (Told now act) (client_gain a h (Told now act))) l.held_is (told_gained a log now act l.first is l.fine) in
          let t = tells a log l in
          record {
            fine = fine;
            sends = record { added = (client_gain a old.held (Told now act)).bytes; out_is = t.sent; sent = gains.sent };
            shows = t.shows ∙ (λ i. record old { held = sym (gains.after_is refl) i; output = new.output });
          }),
    )

abbrev with_pending : Awaiting → Option ℕ → List (ℕ × Request) → Awaiting
with_pending w due pending = record { reverse = w.reverse; known = w.known; pending = pending; due = due }

pub asks : (r r' : ClientRunning) (closed failed : Bool) (id moment now part : ℕ) (rest out out' : List ℕ) (request : Request) →
    against (shown_of r closed id moment rest out failed) (Ask request part) ≡ None →
    out' ≡ out ++ message_frames r.waits.known.channel (newest_id r.waits.known.tokens) r.next 0 (fill id (canon_request request) part) →
    (waiting_under id r.waits.pending ≡ None → r' ≡ waiting_to r (waits_for r.waits id request) (number_after r.next (part_count (length (canon_request request)) part))) →
    AcceptsAll (shown_of r closed id moment rest out failed) now (Ask request part) (shown_of r' closed (id + 1) (max moment now) rest out' failed)
unfolding client_gain
asks r r' closed failed id moment now part rest out out' request none said after =
    accepts (shown_of r closed id moment rest out failed) (shown_of r' closed (id + 1) (max moment now) rest out' failed) now (Ask request part) none
    (λ a log l.
    (let n = number_held a log (shown_of r closed id moment rest out failed) l in
    let fresh = after (fresh_id a log (shown_of r closed id moment rest out failed) l) in
    let next = request_next r.waits.known.channel (newest_id r.waits.known.tokens) r.next id part (canon_request request) n in
    record {
      shows = (λ i. shown_of (fresh i) closed (id + 1) (max moment now) rest out' failed) ∙ (λ i. shown_of (waiting_to r (waits_for r.waits id request) (next i)) closed (id + 1) (max moment now) rest out' failed);
      sent = said ∙ ap (λ bytes. out ++ bytes) (request_frames r.waits.known.channel (newest_id r.waits.known.tokens) r.next (fill id (canon_request request) part) n);
    }))

pub renews : (r r' : ClientRunning) (closed failed : Bool) (id moment now : ℕ) (rest out out' : List ℕ) →
    against (shown_of r closed id moment rest out failed) Renew ≡ None →
    out' ≡ out ++ open_frame r.waits.known.channel r.next id (open_asked_body (max moment now) id 1 r.config.lifetime) →
    r' ≡ waiting_to r (waits_open r.waits id) (number_after r.next 1) →
    AcceptsAll (shown_of r closed id moment rest out failed) now Renew (shown_of r' closed (id + 1) (max moment now) rest out' failed)
unfolding client_gain
renews r r' closed failed id moment now rest out out' none said after =
    accepts (shown_of r closed id moment rest out failed) (shown_of r' closed (id + 1) (max moment now) rest out' failed) now Renew none
    (λ a log l. record {
      shows = (λ i. shown_of (after i) closed (id + 1) (max moment now) rest out' failed)
          ∙ (λ i. shown_of (waiting_to r (with_pending r.waits (Some id) (sym (append-nil r.waits.pending) i)) (number_after r.next 1)) closed (id + 1) (max moment now) rest out' failed);
      sent = said
          ∙ ap (λ c. out ++ open_frame r.waits.known.channel r.next id (open_asked_body (max moment now) id 1 c.lifetime)) (sym l.config)
          ∙ ap (λ bytes. out ++ bytes) (sym (one_opening r.next r.waits.known.channel id (open_asked_body (max moment now) id 1 a.config.lifetime)));
    })

pub closes : (r r' : ClientRunning) (closed failed : Bool) (id moment now : ℕ) (rest out out' : List ℕ) →
    against (shown_of r closed id moment rest out failed) Close ≡ None →
    out' ≡ out ++ close_frame r.waits.known.channel (newest_id r.waits.known.tokens) r.next id (close_asked_body (max moment now) id) →
    r' ≡ numbered_to r (number_after r.next 1) →
    AcceptsAll (shown_of r closed id moment rest out failed) now Close (shown_of r' true (id + 1) (max moment now) rest out' failed)
unfolding client_gain
closes r r' closed failed id moment now rest out out' none said after =
    accepts (shown_of r closed id moment rest out failed) (shown_of r' true (id + 1) (max moment now) rest out' failed) now Close none
    (λ a log l. record {
      shows = (λ i. shown_of (after i) true (id + 1) (max moment now) rest out' failed)
          ∙ (λ i. shown_of (waiting_to r (with_pending r.waits r.waits.due (sym (append-nil r.waits.pending) i)) (number_after r.next 1)) true (id + 1) (max moment now) rest out' failed);
      sent = said ∙ ap (λ bytes. out ++ bytes) (sym (one_closing r.next r.waits.known.channel (newest_id r.waits.known.tokens) id (close_asked_body (max moment now) id)));
    })
