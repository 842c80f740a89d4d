-- A client that the server called: behind the ReverseHello all is to it as to a client that opened the connection itself and named that url, at places that are later by this one frame.
use Rattle.std.proofs.Common.{◌≡◌, ℕ, ◌+◌, ◌≤◌, Bool, true, false, cond, not, List, [], ◌∷◌, ◌++◌, map, length, Option, Some, None, is_some, refl, sym, ap, ◌∙◌, arith}
use Rattle.std.specs.Prelude.{◌==◌, ◌||◌, ◌&&◌, nat_lt, nat_le, option_map}
use Rattle.std.specs.List.{filter, find, AllByRecursion}
use Rattle.std.proofs.lemmas.List.{append-nil}
use Rattle.std.proofs.lemmas.List.Elements.{filter-append}
use Rattle.std.proofs.lemmas.Bool.{ltb-true, ltb-false, leb-true, leb-false, lt-ltb, le-ltb, le-leb, lt-leb}
use Rattle.ua_frame.specs.Streams.{TimedByte, IsFrame, plain, rest_of}
use Rattle.ua_frame.specs.Layout.{Frame, frame_by, frames_of, kind_of, flag_of}
use Rattle.ua_frame.specs.LayoutLaws.{frames_behind}
use Rattle.ua_frame.specs.Beginnings.{AreFrames, bytes_of, each_is}
use Rattle.ua_frame.specs.Rows.{first_row, or_else}
use Rattle.ua_frame.specs.Hello.{is_long}
use Rattle.ua_frame.specs.HeaderRows.{header_fault}
use Rattle.ua_frame.specs.declared.kind.Kind.TheVariants as kinds
use Rattle.ua_frame.specs.declared.reverse_hello.ReverseHello.{ReverseHello}
use Rattle.ua_chunk.specs.Half.{ends_message}
use Rattle.ua_channel.specs.Token.{two_newest}
use Rattle.ua_service.specs.declared.request.Request.{Request}
use Rattle.ua_conn.specs.Past.{Past, is_open, is_message, has_number, number_of, carried, open_in, until, half_by}
use Rattle.ua_conn.specs.client.Asker.{Asker, hello_to, hello_by}
use Rattle.ua_conn.specs.client.Commands.{Act, Ask, Renew, Close, Commands, Asked, OpenAsked, asked, asked_in, asked_by, opens_asked, opens_by, next_id, request_under, closes, is_closed}
use Rattle.ua_conn.specs.client.Past.{ClientKnown, client_known, is_acknowledge, is_acknowledge_frame, acknowledge_in, acknowledge_frame_in, or_frame, ack_by, is_reverse_frame, reverse_in, reverse_frame_in, awaits_reverse, url_named, granted_by, response_in, granted_in, channel_by}
use Rattle.ua_conn.specs.client.Pending.{bytes_in, come_by, is_among, ends_one, ended_ids, opening_id, opened_ids, pending_in, wanted_at, opening_in, due_in, due_at, first_id}
use Rattle.ua_conn.specs.client.Faults.{broken, reverse_rows, client_rows, client_fault_by, client_fault_in_rest, token_usable}
use Rattle.ua_conn.specs.client.Reading.{ClientReading, client_fault_at, client_reading, client_reading_of, answer_with, result_by, answer_at, answers}
use Rattle.ua_conn.specs.client.Sending.{Sent, Greeting, greets_by, opens_by as says_open, act_says, commands_say, sent_by}
use Rattle.ua_conn.specs.client.Asking.{Standing, standing_by, standing, act_rows, ask_fault}
use Rattle.ua_conn.specs.declared.client.fault.ClientFault.{ClientFault}
use Rattle.ua_conn.specs.declared.client.fault.ClientFault.TheVariants.{Broken}
use Rattle.ua_conn.specs.declared.client.ask_fault.AskFault.{AskFault}
use Rattle.ua_conn.specs.declared.client.ask_fault.AskFault.TheVariants.{Ended, NotOpen}
use Rattle.ua_conn.proofs.ClientEnd.GreetingLemmas.{is_one}

-- a ReverseHello
pub record IsCall (c : Frame) : Type 0 where
  pub kind : kind_of c.bytes ≡ Some kinds.ReverseHello
  pub layout : is_some (reverse_in c) ≡ true

-- the frames behind it
abbrev pub behind : Frame → Past → Past
behind c past = past ++ c ∷ []

-- the client that opens the connection itself
abbrev pub plainly : Asker → Option (List ℕ) → Asker
plainly a url = record { config = a.config; url = url; first_sequence = a.first_sequence; reverse = false }

-- ---- what is known

filter_behind : (test : Frame → Bool) (c : Frame) (past : Past) → test c ≡ false → filter test (behind c past) ≡ filter test past
filter_behind test c past e = filter-append test past (c ∷ []) ∙ ap (λ b. filter test past ++ cond b (c ∷ []) []) e ∙ append-nil (filter test past)

find_behind : (test : Frame → Bool) (c : Frame) (past : Past) → test c ≡ false → find test (behind c past) ≡ find test past
find_behind test c [] e = ap (λ b. cond b (Some c) None) e
find_behind test c (f ∷ past) e = ap (λ o. cond (test f) (Some f) o) (find_behind test c past e)

ack_behind : (c : Frame) → IsCall c → (past : Past) → acknowledge_frame_in (behind c past) ≡ acknowledge_frame_in past
ack_behind c h [] = ap (λ k. or_frame None (is_acknowledge k && is_some (acknowledge_in c)) c) h.kind
ack_behind c h (f ∷ past) = ap (λ o. or_frame o (is_acknowledge_frame f) f) (ack_behind c h past)

call_found : (c : Frame) → IsCall c → (past : Past) → reverse_frame_in (behind c past) ≡ Some c
call_found c h [] = ap (λ t. or_frame None t c) (is_one c (h.kind, h.layout))
call_found c h (f ∷ past) = ap (λ o. or_frame o (is_reverse_frame f) f) (call_found c h past)

known_behind : (c : Frame) → IsCall c → (past : Past) → client_known (behind c past) ≡ client_known past
unfolding client_known
known_behind c h past = λ i. record {
  ack = ack_by (ack_behind c h past i);
  channel = channel_by (find_behind (λ f. is_open (kind_of f.bytes)) c past (ap is_open h.kind) i);
  tokens = two_newest (map (λ f. granted_by (response_in f) f.moment) (filter_behind (λ f. is_open (kind_of f.bytes)) c past (ap is_open h.kind) i));
  last = option_map number_of (find_behind (λ f. has_number (kind_of f.bytes)) c past (ap has_number h.kind) i);
  half = half_by (until (λ f. ends_message (flag_of f.bytes)) (filter_behind (λ f. is_message (kind_of f.bytes)) c past (ap is_message h.kind) i));
}

pub granted_behind : (c : Frame) → IsCall c → (past : Past) → granted_in (behind c past) ≡ granted_in past
granted_behind c h past = ap (map (λ f. granted_by (response_in f) f.moment)) (filter_behind (λ f. is_open (kind_of f.bytes)) c past (ap is_open h.kind))

ended_behind : (c : Frame) → IsCall c → (past : Past) → ended_ids (behind c past) ≡ ended_ids past
ended_behind c h past = ap (map (λ f. (carried f).request_id)) (filter_behind ends_one c past (ap (λ k. is_message k && ends_message (flag_of c.bytes)) h.kind))

opened_behind : (c : Frame) → IsCall c → (past : Past) → opened_ids (behind c past) ≡ opened_ids past
opened_behind c h past = ap (map (λ f. opening_id (open_in f))) (filter_behind (λ f. is_open (kind_of f.bytes)) c past (ap is_open h.kind))

bytes_behind : (c : Frame) (past : Past) → bytes_in (behind c past) ≡ bytes_in past + length c.bytes
bytes_behind c [] = omega arith
bytes_behind c (f ∷ past) = omega (arith, bytes_behind c past)

-- ---- commands at later places

abbrev pub later : ℕ → Commands → Commands
later n [] = []
later n (k ∷ cmds) = record { act = k.act; moment = k.moment; seen = k.seen + n } ∷ later n cmds

length_later : (n : ℕ) (cmds : Commands) → length (later n cmds) ≡ length cmds
length_later n [] = refl
length_later n (k ∷ cmds) = omega (arith, length_later n cmds)

next_later : (n : ℕ) (cmds : Commands) → next_id (later n cmds) ≡ next_id cmds
next_later n cmds = omega (arith, length_later n cmds)

closed_later : (n : ℕ) (cmds : Commands) → is_closed (later n cmds) ≡ is_closed cmds
closed_later n [] = refl
closed_later n (k ∷ cmds) = ap (λ b. closes k.act || b) (closed_later n cmds)

abbrev shifted : ℕ → Asked → Asked
shifted n a = record { id = a.id; request = a.request; seen = a.seen + n }

abbrev pub asked_later : ℕ → List Asked → List Asked
asked_later n [] = []
asked_later n (a ∷ xs) = shifted n a ∷ asked_later n xs

later_join : (n : ℕ) (xs ys : List Asked) → asked_later n (xs ++ ys) ≡ asked_later n xs ++ asked_later n ys
later_join n [] ys = refl
later_join n (x ∷ xs) ys = ap (λ (l : List Asked). shifted n x ∷ l) (later_join n xs ys)

one_later : (n id seen : ℕ) (act : Act) → asked_by id (seen + n) act ≡ asked_later n (asked_by id seen act)
one_later n id seen (Ask request part) = refl
one_later n id seen Renew = refl
one_later n id seen Close = refl

pub all_later : (n : ℕ) (cmds : Commands) → asked_in (later n cmds) ≡ asked_later n (asked_in cmds)
all_later n [] = refl
all_later n (k ∷ cmds) =
    (λ i. all_later n cmds i ++ asked_by (next_later n cmds i) (k.seen + n) k.act)
    ∙ ap (λ l. asked_later n (asked_in cmds) ++ l) (one_later n (next_id cmds) k.seen k.act)
    ∙ sym (later_join n (asked_in cmds) (asked_by (next_id cmds) k.seen k.act))

requests_later : (n : ℕ) (xs : List Asked) → map (λ (a : Asked). a.request) (asked_later n xs) ≡ map (λ (a : Asked). a.request) xs
requests_later n [] = refl
requests_later n (x ∷ xs) = ap (λ (l : List Request). x.request ∷ l) (requests_later n xs)

pub asked_same : (n : ℕ) (cmds : Commands) → asked (later n cmds) ≡ asked cmds
asked_same n cmds = ap (map (λ (a : Asked). a.request)) (all_later n cmds) ∙ requests_later n (asked_in cmds)

-- ---- places

lt_later : (a b n : ℕ) → nat_lt (a + n) (b + n) ≡ nat_lt a b
lt_later a b n = by (nat_lt a b) refl
  where
    by : (t : Bool) → nat_lt a b ≡ t → nat_lt (a + n) (b + n) ≡ nat_lt a b
    by true e = lt-ltb (a + n) (b + n) (omega (arith, ltb-true a b e)) ∙ sym e
    by false e = le-ltb (a + n) (b + n) (omega (arith, ltb-false a b e)) ∙ sym e

le_later : (a b n : ℕ) → nat_le (a + n) (b + n) ≡ nat_le a b
le_later a b n = by (nat_le a b) refl
  where
    by : (t : Bool) → nat_le a b ≡ t → nat_le (a + n) (b + n) ≡ nat_le a b
    by true e = le-leb (a + n) (b + n) (omega (arith, leb-true a b e)) ∙ sym e
    by false e = lt-leb (a + n) (b + n) (omega (arith, leb-false a b e)) ∙ sym e

-- ---- what is wanted

wanted_later : (n end id : ℕ) (ended : List ℕ) (xs : List Asked) →
    request_under id (filter (λ a. nat_lt a.seen (end + n)) (filter (λ a. not (is_among ended a.id)) (asked_later n xs))) ≡ request_under id (filter (λ a. nat_lt a.seen end) (filter (λ a. not (is_among ended a.id)) xs))
wanted_later n end id ended [] = refl
wanted_later n end id ended (x ∷ xs) = by (is_among ended x.id) (wanted_later n end id ended xs)
  where
    there : List Asked
    there = filter (λ a. not (is_among ended a.id)) (asked_later n xs)

    here : List Asked
    here = filter (λ a. not (is_among ended a.id)) xs

    in_time : Asked → Bool
    in_time a = nat_lt a.seen (end + n)

    was : Asked → Bool
    was a = nat_lt a.seen end

    under : (d : Bool) → request_under id (filter in_time there) ≡ request_under id (filter was here) →
        option_map (λ (a : Asked). a.request) (cond d (Some (shifted n x)) (find (λ a. a.id == id) (filter in_time there))) ≡ option_map (λ (a : Asked). a.request) (cond d (Some x) (find (λ a. a.id == id) (filter was here)))
    under true h = refl
    under false h = h

    both : (q : Bool) → request_under id (filter in_time there) ≡ request_under id (filter was here) →
        request_under id (cond q (shifted n x ∷ filter in_time there) (filter in_time there)) ≡ request_under id (cond q (x ∷ filter was here) (filter was here))
    both true h = under (x.id == id) h
    both false h = h

    by : (b : Bool) → request_under id (filter in_time there) ≡ request_under id (filter was here) →
        request_under id (filter in_time (cond (not b) (shifted n x ∷ there) there)) ≡ request_under id (filter was (cond (not b) (x ∷ here) here))
    by true h = h
    by false h = ap (λ q. request_under id (cond q (shifted n x ∷ filter in_time there) (filter in_time there))) (lt_later x.seen end n) ∙ both (nat_lt x.seen end) h

wanted_behind : (c : Frame) → IsCall c → (cmds : Commands) (past : Past) (end id : ℕ) → wanted_at (later (length c.bytes) cmds) (behind c past) (end + length c.bytes) id ≡ wanted_at cmds past end id
wanted_behind c h cmds past end id =
    let n = length c.bytes in
    (λ i. request_under id (filter (λ a. nat_lt a.seen (end + n)) (filter (λ a. not (is_among (ended_behind c h past i) a.id)) (all_later n cmds i))))
    ∙ wanted_later n end id (ended_ids past) (asked_in cmds)

kept_later : (n : ℕ) (ended : List ℕ) (xs : List Asked) → length (filter (λ a. not (is_among ended a.id)) (asked_later n xs)) ≡ length (filter (λ a. not (is_among ended a.id)) xs)
kept_later n ended [] = refl
kept_later n ended (x ∷ xs) = by (is_among ended x.id) (kept_later n ended xs)
  where
    there : List Asked
    there = filter (λ a. not (is_among ended a.id)) (asked_later n xs)

    here : List Asked
    here = filter (λ a. not (is_among ended a.id)) xs

    by : (b : Bool) → length there ≡ length here → length (cond (not b) (shifted n x ∷ there) there) ≡ length (cond (not b) (x ∷ here) here)
    by true h = h
    by false h = omega (arith, h)

pending_behind : (c : Frame) → IsCall c → (cmds : Commands) (past : Past) → length (pending_in (later (length c.bytes) cmds) (behind c past)) ≡ length (pending_in cmds past)
pending_behind c h cmds past =
    let n = length c.bytes in
    (λ i. length (filter (λ a. not (is_among (ended_behind c h past i) a.id)) (all_later n cmds i))) ∙ kept_later n (ended_ids past) (asked_in cmds)

-- ---- what is due

-- The first open request was asked for before all; each other one is later by so much.
abbrev Alike : ℕ → List OpenAsked → List OpenAsked → Type 0
Alike n [] [] = Unit {0}
Alike n [] (y ∷ ys) = ⊥
Alike n (x ∷ xs) [] = ⊥
Alike n (x ∷ xs) (y ∷ ys) = (x.id ≡ y.id) × ((end : ℕ) → 1 ≤ end → nat_lt x.seen (end + n) ≡ nat_lt y.seen end) × Alike n xs ys

alike_join : (n : ℕ) (xs ys ps qs : List OpenAsked) → Alike n xs ys → Alike n ps qs → Alike n (xs ++ ps) (ys ++ qs)
alike_join n [] [] ps qs h k = k
alike_join n [] (y ∷ ys) ps qs h k = absurd h
alike_join n (x ∷ xs) [] ps qs h k = absurd h
alike_join n (x ∷ xs) (y ∷ ys) ps qs h k = (h.0, h.1, alike_join n xs ys ps qs h.2 k)

one_opens : (n id id' seen : ℕ) (act : Act) → id ≡ id' → Alike n (opens_by id (seen + n) act) (opens_by id' seen act)
one_opens n id id' seen (Ask request part) e = tt
one_opens n id id' seen Renew e = (e, (λ end some. lt_later seen end n), tt)
one_opens n id id' seen Close e = tt

opens_later : (n : ℕ) (cmds : Commands) → Alike n (opens_asked (later n cmds)) (opens_asked cmds)
opens_later n [] = (refl, (λ end some. lt-ltb 0 (end + n) (omega (arith, some)) ∙ sym (lt-ltb 0 end (omega (arith, some)))), tt)
opens_later n (k ∷ cmds) =
    alike_join n (opens_asked (later n cmds)) (opens_asked cmds) (opens_by (next_id (later n cmds)) (k.seen + n) k.act) (opens_by (next_id cmds) k.seen k.act)
    (opens_later n cmds) (one_opens n (next_id (later n cmds)) (next_id cmds) k.seen k.act (next_later n cmds))

first_due : (n end : ℕ) (opened : List ℕ) (xs ys : List OpenAsked) → 1 ≤ end → Alike n xs ys →
    first_id (filter (λ r. nat_lt r.seen (end + n)) (filter (λ r. not (is_among opened r.id)) xs)) ≡ first_id (filter (λ r. nat_lt r.seen end) (filter (λ r. not (is_among opened r.id)) ys))
first_due n end opened [] [] some h = refl
first_due n end opened [] (y ∷ ys) some h = absurd h
first_due n end opened (x ∷ xs) [] some h = absurd h
first_due n end opened (x ∷ xs) (y ∷ ys) some h =
    ap (λ id. first_id (filter in_time (cond (not (is_among opened id)) (x ∷ there) there))) h.0 ∙ by (is_among opened y.id) (first_due n end opened xs ys some h.2)
  where
    there : List OpenAsked
    there = filter (λ r. not (is_among opened r.id)) xs

    here : List OpenAsked
    here = filter (λ r. not (is_among opened r.id)) ys

    in_time : OpenAsked → Bool
    in_time r = nat_lt r.seen (end + n)

    was : OpenAsked → Bool
    was r = nat_lt r.seen end

    both : (q : Bool) → first_id (filter in_time there) ≡ first_id (filter was here) → first_id (cond q (x ∷ filter in_time there) (filter in_time there)) ≡ first_id (cond q (y ∷ filter was here) (filter was here))
    both true k = ap Some h.0
    both false k = k

    by : (b : Bool) → first_id (filter in_time there) ≡ first_id (filter was here) → first_id (filter in_time (cond (not b) (x ∷ there) there)) ≡ first_id (filter was (cond (not b) (y ∷ here) here))
    by true k = k
    by false k = ap (λ q. first_id (cond q (x ∷ filter in_time there) (filter in_time there))) (h.1 end some) ∙ both (nat_lt y.seen end) k

due_behind : (c : Frame) → IsCall c → (cmds : Commands) (past : Past) (end : ℕ) → 1 ≤ end → due_at (later (length c.bytes) cmds) (behind c past) (end + length c.bytes) ≡ due_at cmds past end
due_behind c h cmds past end some =
    let n = length c.bytes in
    (λ i. first_id (filter (λ r. nat_lt r.seen (end + n)) (filter (λ r. not (is_among (opened_behind c h past i) r.id)) (opens_asked (later n cmds)))))
    ∙ first_due n end (opened_ids past) (opens_asked (later n cmds)) (opens_asked cmds) some (opens_later n cmds)

first_left : (n : ℕ) (opened : List ℕ) (xs ys : List OpenAsked) → Alike n xs ys → first_id (filter (λ r. not (is_among opened r.id)) xs) ≡ first_id (filter (λ r. not (is_among opened r.id)) ys)
first_left n opened [] [] h = refl
first_left n opened [] (y ∷ ys) h = absurd h
first_left n opened (x ∷ xs) [] h = absurd h
first_left n opened (x ∷ xs) (y ∷ ys) h = ap (λ id. first_id (cond (not (is_among opened id)) (x ∷ there) there)) h.0 ∙ by (is_among opened y.id) (first_left n opened xs ys h.2)
  where
    there : List OpenAsked
    there = filter (λ r. not (is_among opened r.id)) xs

    here : List OpenAsked
    here = filter (λ r. not (is_among opened r.id)) ys

    by : (b : Bool) → first_id there ≡ first_id here → first_id (cond (not b) (x ∷ there) there) ≡ first_id (cond (not b) (y ∷ here) here)
    by true k = k
    by false k = ap Some h.0

left_behind : (c : Frame) → IsCall c → (cmds : Commands) (past : Past) → due_in (later (length c.bytes) cmds) (behind c past) ≡ due_in cmds past
left_behind c h cmds past =
    let n = length c.bytes in
    (λ i. first_id (filter (λ r. not (is_among (opened_behind c h past i) r.id)) (opens_asked (later n cmds))))
    ∙ first_left n (opened_ids past) (opens_asked (later n cmds)) (opens_asked cmds) (opens_later n cmds)

-- ---- frames

and_off : (b : Bool) → (b && false) ≡ false
and_off true = refl
and_off false = refl

awaited_off : (reverse : Bool) (c : Frame) → IsCall c → (past : Past) → awaits_reverse reverse (behind c past) ≡ false
awaited_off reverse c h past = ap (λ o. reverse && not (is_some o)) (call_found c h past) ∙ and_off reverse

-- The table says the same of a frame.
fault_behind : (a : Asker) (url : Option (List ℕ)) (cmds : Commands) (c : Frame) → IsCall c → (past : Past) (f : Frame) → 1 ≤ length f.bytes →
    client_fault_at a (later (length c.bytes) cmds) (behind c past) f ≡ client_fault_at (plainly a url) cmds past f
unfolding client_fault_by
fault_behind a url cmds c h past f some =
    let n = length c.bytes in
    let id = (carried f).request_id in
    let end = bytes_in (f ∷ past) in
    let place : bytes_in (f ∷ behind c past) ≡ end + n = bytes_behind c (f ∷ past) in
    let least : 1 ≤ end = omega (arith, some) in
    (λ i. client_fault_by a (awaited_off a.reverse c h past i) (known_behind c h past i) (due_at (later n cmds) (behind c past) (place i)) (wanted_at (later n cmds) (behind c past) (place i) id) (token_usable (known_behind c h past i) f) f)
    ∙ (λ i. client_fault_by a false (client_known past) (due_behind c h cmds past end least i) (wanted_behind c h cmds past end id i) (token_usable (client_known past) f) f)

abbrev HaveBytes : List Frame → Type 0
HaveBytes fs = AllByRecursion (λ (f : Frame). 1 ≤ length f.bytes) fs

have_bytes : (s : List TimedByte) → HaveBytes (frames_of s)
have_bytes s = by (frames_of s) (each_is s)
  where
    by : (fs : List Frame) → AreFrames (bytes_of fs) → HaveBytes fs
    by [] h = tt
    by (f ∷ fs) h = (omega (arith, h.0.header), by fs h.1)

abbrev pub moved : Frame → ClientReading → ClientReading
moved c R = record { past = behind c R.past; fault = R.fault }

reading_behind : (a : Asker) (url : Option (List ℕ)) (cmds : Commands) (c : Frame) → IsCall c → (past : Past) (fs : List Frame) (rest : List ℕ) → HaveBytes fs →
    client_reading a (later (length c.bytes) cmds) (behind c past) fs rest ≡ moved c (client_reading (plainly a url) cmds past fs rest)
reading_behind a url cmds c h past [] rest some = λ i. record { past = behind c past; fault = client_fault_in_rest (known_behind c h past i) rest }
reading_behind a url cmds c h past (f ∷ fs) rest some =
    (λ i. elim (fault_behind a url cmds c h past f some.0 i) [
      | Some fault ↦ record { past = behind c past; fault = Some fault }
      | None ↦ reading_behind a url cmds c h (f ∷ past) fs rest some.1 i
    ])
    ∙ by (client_fault_at (plainly a url) cmds past f)
  where
    R : ClientReading
    R = client_reading (plainly a url) cmds (f ∷ past) fs rest

    by : (o : Option ClientFault) →
        (let first : ClientReading = elim o [ Some fault ↦ record { past = behind c past; fault = Some fault } | None ↦ moved c R ] in
        let second : ClientReading = elim o [ Some fault ↦ record { past = past; fault = Some fault } | None ↦ R ] in
        first ≡ moved c second)
    by (Some fault) = refl
    by None = refl

-- ---- the ReverseHello itself

-- It stands before all, whatever is told.
pub call_stands : (a : Asker) (cmds : Commands) (c : Frame) (hello : ReverseHello) → a.reverse ≡ true → kind_of c.bytes ≡ Some kinds.ReverseHello → header_fault 8192 c.bytes ≡ None → reverse_in c ≡ Some hello →
    is_long hello.endpoint_url ≡ false → client_fault_at a cmds [] c ≡ None
unfolding client_fault_by client_known
call_stands a cmds c hello own kind head says short =
    let k = client_known [] in
    let end = bytes_in (c ∷ []) in
    let due = due_at cmds [] end in
    let wanted = wanted_at cmds [] end (carried c).request_id in
    let usable = token_usable k c in
    (λ i. client_fault_by a (own i && true) k due wanted usable c)
    ∙ (λ i. or_else (option_map Broken (head i)) (first_row (client_rows a true k due wanted usable c (flag_of c.bytes) (kind i))))
    ∙ ap (λ o. first_row (broken (reverse_rows o))) says
    ∙ ap (λ b. cond b (Some (Broken 0x80830000)) None) short

goes_on : (o : Option ClientFault) (past : Past) (R : ClientReading) → o ≡ None → (let all : ClientReading = elim o [ Some fault ↦ record { past = past; fault = Some fault } | None ↦ R ] in all ≡ R)
goes_on None past R e = refl
goes_on (Some fault) past R e = absurd (cc e)

-- a stream that begins with it
pub stream_behind : (a : Asker) (url : Option (List ℕ)) (cmds : Commands) (t v : List TimedByte) → IsFrame (plain t) → IsCall (frame_by t) → client_fault_at a (later (length (plain t)) cmds) [] (frame_by t) ≡ None →
    client_reading_of a (later (length (plain t)) cmds) (t ++ v) ≡ moved (frame_by t) (client_reading_of (plainly a url) cmds v)
stream_behind a url cmds t v frame h stands =
    let c = frame_by t in
    let all = later (length (plain t)) cmds in
    let m = frames_behind t v frame in
    (λ i. client_reading a all [] (m.0 i) (plain (m.1 i)))
    ∙ goes_on (client_fault_at a all [] c) [] (client_reading a all (c ∷ []) (frames_of v) (plain (rest_of v))) stands
    ∙ reading_behind a url cmds c h [] (frames_of v) (plain (rest_of v)) (have_bytes v)

-- ---- what is answered

pub answers_behind : (cmds : Commands) (c : Frame) → IsCall c → (past : Past) → answers (later (length c.bytes) cmds) (behind c past) ≡ answers cmds past
unfolding answer_at
answers_behind cmds c h [] =
    let n = length c.bytes in
    let wanted = wanted_at (later n cmds) [] (bytes_in (c ∷ [])) (carried c).request_id in
    λ i. cond (is_message (h.kind i)) (answer_with (carried c).request_id wanted (result_by (client_known []) (flag_of c.bytes) (carried c))) []
answers_behind cmds c h (f ∷ past) =
    let n = length c.bytes in
    let id = (carried f).request_id in
    let wanted : wanted_at (later n cmds) (behind c past) (bytes_in (f ∷ behind c past)) id ≡ wanted_at cmds past (bytes_in (f ∷ past)) id =
    ap (λ end. wanted_at (later n cmds) (behind c past) end id) (bytes_behind c (f ∷ past)) ∙ wanted_behind c h cmds past (bytes_in (f ∷ past)) id in
    λ i. answers_behind cmds c h past i ++ answer_at (known_behind c h past i) (wanted i) f

-- ---- what is sent

come_behind : (n : ℕ) (c : Frame) (past : Past) → come_by (n + length c.bytes) (behind c past) ≡ behind c (come_by n past)
come_behind n c [] = ap (λ b. cond b (c ∷ []) []) (le-leb (bytes_in (c ∷ [])) (n + length c.bytes) (omega arith))
come_behind n c (f ∷ past) =
    let came : nat_le (bytes_in (f ∷ behind c past)) (n + length c.bytes) ≡ nat_le (bytes_in (f ∷ past)) n = ap (λ m. nat_le m (n + length c.bytes)) (bytes_behind c (f ∷ past)) ∙ le_later (bytes_in (f ∷ past)) n (length c.bytes) in
    (λ i. cond (came i) (f ∷ behind c past) (come_behind n c past i)) ∙ by (nat_le (bytes_in (f ∷ past)) n)
  where
    by : (b : Bool) → cond b (f ∷ behind c past) (behind c (come_by n past)) ≡ behind c (cond b (f ∷ past) (come_by n past))
    by true = refl
    by false = refl

says_behind : (a : Asker) (url : Option (List ℕ)) (cmds : Commands) (c : Frame) → IsCall c → (past : Past) → commands_say a (later (length c.bytes) cmds) (behind c past) ≡ commands_say (plainly a url) cmds past
says_behind a url [] c h past = refl
says_behind a url (k ∷ cmds) c h past =
    let n = length c.bytes in
    let knew : client_known (come_by (k.seen + n) (behind c past)) ≡ client_known (come_by k.seen past) = ap client_known (come_behind k.seen c past) ∙ known_behind c h (come_by k.seen past) in
    λ i. says_behind a url cmds c h past i ++ act_says a (next_later n cmds i) k.moment (knew i) k.act

pub sent_behind : (a : Asker) (url : Option (List ℕ)) (cmds : Commands) (c : Frame) → IsCall c → (past : Past) → a.reverse ≡ true → url_named (reverse_in c) ≡ url →
    sent_by a (later (length c.bytes) cmds) (behind c past) ≡ sent_by (plainly a url) cmds past
sent_behind a url cmds c h past own named =
    (λ i. cond (own i) (greets_by a (call_found c h past i)) (Greeting (hello_by a) ∷ []) ++ (says_open a (ack_behind c h past i) ++ says_behind a url cmds c h past i))
    ∙ (λ i. (Greeting (hello_to a.config (named i)) ∷ []) ++ (says_open a (acknowledge_frame_in past) ++ commands_say (plainly a url) cmds past))

-- ---- whether a command is accepted

standing_behind : (c : Frame) → IsCall c → (cmds : Commands) (past : Past) → standing (later (length c.bytes) cmds) (behind c past) ≡ standing cmds past
standing_behind c h cmds past =
    let n = length c.bytes in
    λ i. standing_by (known_behind c h past i) (closed_later n cmds i) (pending_behind c h cmds past i) (left_behind c h cmds past i) (next_later n cmds i)

pub asks_behind : (a : Asker) (url : Option (List ℕ)) (cmds : Commands) (t v : List TimedByte) (act : Act) → IsFrame (plain t) → IsCall (frame_by t) → client_fault_at a (later (length (plain t)) cmds) [] (frame_by t) ≡ None →
    ask_fault a (later (length (plain t)) cmds) (t ++ v) act ≡ ask_fault (plainly a url) cmds v act
asks_behind a url cmds t v act frame h stands =
    let all = later (length (plain t)) cmds in
    let R = client_reading_of (plainly a url) cmds v in
    let rows : Option ClientFault → Standing → Option AskFault = λ o s. first_row ((is_some o, Ended) ∷ (not s.channel_open, NotOpen) ∷ act_rows s act) in
    ap (λ (r : ClientReading). rows r.fault (standing all r.past)) (stream_behind a url cmds t v frame h stands)
    ∙ ap (rows R.fault) (standing_behind (frame_by t) h cmds R.past)
