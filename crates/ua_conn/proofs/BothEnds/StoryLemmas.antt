-- What was delivered each way in a story, as frames: the first of what was sent, and less than the next.
use mathlib.Core.List.{IsPrefix}
use Rattle.std.proofs.Common.{◌≡◌, ℕ, ◌+◌, ◌<◌, ◌≤◌, ◌^◌, Bool, true, false, cond, not, is_some, List, [], ◌∷◌, ◌++◌, map, length, Option, Some, None, refl, sym, ap, subst, ◌∙◌, arith}
use Rattle.std.specs.List.{AllByRecursion}
use Rattle.std.specs.Prelude.{◌==◌, nat_le, nat_lt, IfSome, option_map}
use Rattle.std.proofs.lemmas.Bool.{and_parts, leb-true, ltb-false, not-false, or_parts}
use Rattle.ua_frame.specs.Rows.{first_row}
use Rattle.ua_frame.specs.Layout.{kind_of, flag_of, frames_of, Frame}
use Rattle.ua_frame.specs.Streams.{rest_of, TimedByte, plain}
use Rattle.ua_frame.specs.HeaderRows.{header_fault}
use Rattle.ua_frame.specs.declared.kind.Kind.TheVariants as kinds
use Rattle.ua_frame.specs.declared.acknowledge.Ack.{Ack}
use Rattle.ua_conn.specs.Past.{carried, Past}
use Rattle.ua_conn.specs.client.Past.{is_acknowledge, is_acknowledge_frame, acknowledge_in, ClientKnown, client_known, acknowledge_frame_in, reverse_frame_in, awaits_reverse}
use Rattle.ua_conn.specs.client.Machine.{or_ack, client_known_after}
use Rattle.ua_conn.specs.client.Faults.{broken, greatest_answer, is_awaited, acknowledge_rows, client_rows, client_fault_by, token_usable}
use Rattle.ua_conn.specs.client.Reading.{client_fault_at, client_reading, client_fault, client_reading_of}
use Rattle.ua_conn.specs.client.Pending.{bytes_in, due_at, wanted_at, come_by}
use Rattle.ua_conn.specs.client.Asking.{standing, asking_rows, greatest_part, ask_fault}
use Rattle.ua_conn.specs.Story.{delivered, told_by, came_by, happens, Setup, World, client_stream, server_stream}
use Rattle.ua_conn.specs.declared.schedule.Step.TheVariants as steps
use Rattle.ua_conn.specs.declared.client.ask_fault.AskFault.{AskFault}
use Rattle.ua_conn.specs.declared.client.ask_fault.AskFault.TheVariants.{Ended, NotOpen}
use Rattle.ua_conn.specs.declared.client.fault.ClientFault.{ClientFault}
use Rattle.ua_conn.specs.declared.client.fault.ClientFault.TheVariants.{Broken}
use Rattle.ua_conn.proofs.ClientEnd.ReadingLemmas.{along_reading}
use Rattle.ua_conn.proofs.KindLemmas.{is_acknowledge_tells}
use Rattle.ua_conn.proofs.TableLemmas.{all_no, or_none, first_passes}
use Rattle.ua_conn.proofs.ClientEnd.KnownLemmas.{client_known_step}
use Rattle.ua_frame.specs.Hello.{is_long, is_acceptable, is_size}
use Rattle.ua_frame.specs.Beginnings.{joined}
use Rattle.ua_chunk.specs.Cut.{Part, fill}
use Rattle.ua_chunk.specs.Numbers.{number_after}
use Rattle.ua_chunk.specs.FrameLaws.{IsPartOf, fill_parts}
use Rattle.ua_channel.specs.Token.{newest_id}
use Rattle.ua_service.specs.Requests.{canon_request}
use Rattle.ua_conn.specs.client.Asker.{Asker, hello_by}
use Rattle.ua_conn.specs.client.Commands.{Act, Ask, Renew, Close, Command, Commands, next_id}
use Rattle.ua_conn.specs.client.Sending.{Sent, Greeting, Opening, Asking, Closing, sent_bytes, more_sent, sent_all, greets_by, greets, opens_by, act_says, commands_say, sent_by, client_sent}
use Rattle.ua_conn.specs.declared.schedule.Step.{Step}
use Rattle.ua_conn.proofs.ClientEnd.QuestionLemmas.{open_length, close_length}
use Rattle.ua_conn.proofs.BothEnds.SpokenLemmas.{Spoken, Greets, Opens, Tells, Closes, spell, AreSized, spelled_list, BeginsSpoken, begins_spoken}

-- ---- what a client sends, as values

abbrev pub sent_spoken : ℕ → Sent → Spoken
sent_spoken n (Greeting hello) = Greets hello
sent_spoken n (Opening channel id body) = Opens channel n id body
sent_spoken n (Asking channel token part) = Tells channel token n part
sent_spoken n (Closing channel token id body) = Closes channel token n id body

pub sent_spelled : (n : ℕ) (x : Sent) → sent_bytes n x ≡ spell (sent_spoken n x)
unfolding sent_bytes
sent_spelled n (Greeting hello) = refl
sent_spelled n (Opening channel id body) = refl
sent_spelled n (Asking channel token part) = refl
sent_spelled n (Closing channel token id body) = refl

abbrev pub all_spoken : ℕ → ℕ → List Sent → List Spoken
all_spoken first n [] = []
all_spoken first n (x ∷ xs) = sent_spoken (number_after first n) x ∷ all_spoken first (more_sent n x) xs

pub all_spelled : (first n : ℕ) (xs : List Sent) → sent_all first n xs ≡ joined (spelled_list (all_spoken first n xs))
all_spelled first n [] = refl
all_spelled first n (x ∷ xs) = λ i. sent_spelled (number_after first n) x i ++ all_spelled first (more_sent n x) xs i

-- ---- their sizes

abbrev pub HasSize : Sent → Type 0
HasSize (Greeting hello) = is_long hello.url ≡ false
HasSize (Opening channel id body) = 79 + length body < 2 ^ 32
HasSize (Asking channel token part) = 24 + length part.bytes < 2 ^ 32
HasSize (Closing channel token id body) = 24 + length body < 2 ^ 32

abbrev pub HaveSizes : List Sent → Type 0
HaveSizes xs = AllByRecursion HasSize xs

sizes_both : (xs ys : List Sent) → HaveSizes xs → HaveSizes ys → HaveSizes (xs ++ ys)
sizes_both [] ys h k = k
sizes_both (x ∷ xs) ys h k = (h.0, sizes_both xs ys h.1 k)

pub all_sized : (first n : ℕ) (xs : List Sent) → HaveSizes xs → AreSized (all_spoken first n xs)
all_sized first n [] h = tt
all_sized first n (Greeting hello ∷ xs) h = (h.0, all_sized first (more_sent n (Greeting hello)) xs h.1)
all_sized first n (Opening channel id body ∷ xs) h = (h.0, all_sized first (more_sent n (Opening channel id body)) xs h.1)
all_sized first n (Asking channel token part ∷ xs) h = (h.0, all_sized first (more_sent n (Asking channel token part)) xs h.1)
all_sized first n (Closing channel token id body ∷ xs) h = (h.0, all_sized first (more_sent n (Closing channel token id body)) xs h.1)

-- each request is cut into parts that fit the size field
abbrev pub IsCut : Act → Type 0
IsCut (Ask request part) = 24 + part < 2 ^ 32
IsCut Renew = Unit {0}
IsCut Close = Unit {0}

abbrev pub AreCut : Commands → Type 0
AreCut cmds = AllByRecursion (λ (c : Command). IsCut c.act) cmds

parts_sized : (channel token id k : ℕ) (parts : List Part) → 24 + k < 2 ^ 32 → AllByRecursion (IsPartOf id k) parts → HaveSizes (map (Asking channel token) parts)
parts_sized channel token id k [] lt h = tt
parts_sized channel token id k (p ∷ parts) lt h = (omega (arith, lt, h.0.size), parts_sized channel token id k parts lt h.1)

act_sized : (a : Asker) (id now : ℕ) (k : ClientKnown) (act : Act) → IsCut act → HaveSizes (act_says a id now k act)
act_sized a id now k (Ask request part) h = parts_sized k.channel (newest_id k.tokens) id part (fill id (canon_request request) part) h (fill_parts id part (canon_request request))
act_sized a id now k Renew h = (omega (arith, open_length now id 1 a.config.lifetime), tt)
act_sized a id now k Close h = (omega (arith, close_length now id), tt)

commands_sized : (a : Asker) (cmds : Commands) (past : Past) → AreCut cmds → HaveSizes (commands_say a cmds past)
commands_sized a [] past h = tt
commands_sized a (c ∷ cmds) past h =
    sizes_both (commands_say a cmds past) (act_says a (next_id cmds) c.moment (client_known (come_by c.seen past)) c.act)
    (commands_sized a cmds past h.1) (act_sized a (next_id cmds) c.moment (client_known (come_by c.seen past)) c.act h.0)

opens_sized : (a : Asker) (o : Option Frame) → HaveSizes (opens_by a o)
opens_sized a None = tt
opens_sized a (Some f) = (omega (arith, open_length f.moment 1 0 a.config.lifetime), tt)

greets_sized : (a : Asker) (b : Bool) (o : Option Frame) → b ≡ false → is_long a.url ≡ false → HaveSizes (cond b (greets_by a o) (Greeting (hello_by a) ∷ []))
greets_sized a true o plain url = absurd (cc plain)
greets_sized a false o plain url = (url, tt)

pub sent_sized : (a : Asker) (cmds : Commands) (past : Past) → a.reverse ≡ false → is_long a.url ≡ false → AreCut cmds → HaveSizes (sent_by a cmds past)
sent_sized a cmds past plain url cut =
    sizes_both (greets a past) (opens_by a (acknowledge_frame_in past) ++ commands_say a cmds past) (greets_sized a a.reverse (reverse_frame_in past) plain url)
    (sizes_both (opens_by a (acknowledge_frame_in past)) (commands_say a cmds past) (opens_sized a (acknowledge_frame_in past)) (commands_sized a cmds past cut))

-- ---- each way

-- What was delivered to the server: the first frames that the client sends, and less than the next.
pub up_begins : (s : Setup) (w : World) → IsPrefix (plain w.up) (client_stream s w) → s.asker.reverse ≡ false → is_long s.asker.url ≡ false → AreCut w.cmds
    → BeginsSpoken w.up (all_spoken s.asker.first_sequence 0 (client_sent s.asker w.cmds w.down))
up_begins s w p own url cut =
    let xs = client_sent s.asker w.cmds w.down in
    begins_spoken (all_spoken s.asker.first_sequence 0 xs) w.up p.0 (all_sized s.asker.first_sequence 0 xs (sent_sized s.asker w.cmds (client_reading_of s.asker w.cmds w.down).past own url cut))
    (p.1 ∙ all_spelled s.asker.first_sequence 0 xs)

-- ---- the parts of every request fit

Within : Asker → ClientKnown → Type 0
Within a k = IfSome k.ack (λ ack. ack.receive ≤ a.config.buffer)

accepted_ack : (a : Asker) (o : Option Ack) → first_row (broken (acknowledge_rows a o)) ≡ None → IfSome o (λ ack. ack.receive ≤ a.config.buffer)
accepted_ack a None h = tt
accepted_ack a (Some ack) h =
    let fine : is_acceptable (hello_by a) ack ≡ true = not-false (is_acceptable (hello_by a) ack) (all_no (broken (acknowledge_rows a (Some ack))) h).0 in
    let sizes = and_parts (is_size a.config.buffer ack.receive) (is_size a.config.buffer ack.send) fine in
    let ends = and_parts (nat_le 8192 ack.receive) (nat_le ack.receive a.config.buffer) sizes.0 in
    leb-true ack.receive a.config.buffer ends.1

or_within : (a : Asker) (o n : Option Ack) (test : Bool) → IfSome o (λ ack. ack.receive ≤ a.config.buffer) → (test ≡ true → IfSome n (λ ack. ack.receive ≤ a.config.buffer)) → IfSome (or_ack o test n) (λ ack. ack.receive ≤ a.config.buffer)
or_within a None n true h k = k refl
or_within a None n false h k = tt
or_within a (Some ack) n test h k = h

known_ack : (past : Past) (f : Frame) → (client_known (f ∷ past)).ack ≡ or_ack (client_known past).ack (is_acknowledge_frame f) (acknowledge_in f)
unfolding client_known_after
known_ack past f = ap (λ (k : ClientKnown). k.ack) (client_known_step f past)

step_within : (a : Asker) (cmds : Commands) (past : Past) (f : Frame) → client_fault_at a cmds past f ≡ None → Within a (client_known past) → Within a (client_known (f ∷ past))
unfolding Within client_fault_by
step_within a cmds past f h w =
    let k = client_known past in
    let first = awaits_reverse a.reverse past in
    let end = bytes_in (f ∷ past) in
    let due = due_at cmds past end in
    let wanted = wanted_at cmds past end (carried f).request_id in
    let usable = token_usable k f in
    let rows = or_none (option_map Broken (header_fault (greatest_answer k.ack) f.bytes)) (first_row (client_rows a first k due wanted usable f (flag_of f.bytes) (kind_of f.bytes))) h in
    let new : is_acknowledge_frame f ≡ true → IfSome (acknowledge_in f) (λ ack. ack.receive ≤ a.config.buffer) = λ t.
    (let kind : kind_of f.bytes ≡ Some kinds.Acknowledge = is_acknowledge_tells (kind_of f.bytes) (and_parts (is_acknowledge (kind_of f.bytes)) (is_some (acknowledge_in f)) t).0 in
    let there : first_row (client_rows a first k due wanted usable f (flag_of f.bytes) (Some kinds.Acknowledge)) ≡ None = ap (λ o. first_row (client_rows a first k due wanted usable f (flag_of f.bytes) o)) (sym kind) ∙ rows in
    accepted_ack a (acknowledge_in f) (first_passes (not (is_awaited first k due (Some kinds.Acknowledge))) (Broken 0x807E0000) (first_row (broken (acknowledge_rows a (acknowledge_in f)))) there).1) in
    subst (λ o. IfSome o (λ ack. ack.receive ≤ a.config.buffer)) (sym (known_ack past f)) (or_within a k.ack (acknowledge_in f) (is_acknowledge_frame f) w new)

reading_within : (a : Asker) (cmds : Commands) (past : Past) (fs : List Frame) (rest : List ℕ) → Within a (client_known past) → Within a (client_known (client_reading a cmds past fs rest).past)
reading_within a cmds past fs rest h = along_reading (λ before. Within a (client_known before)) a cmds (λ before f e. step_within a cmds before f e) past fs rest h

nothing_within : (a : Asker) → Within a (client_known [])
unfolding Within client_known
nothing_within a = tt

part_fits : (a : Asker) (k : ClientKnown) (part : ℕ) → a.config.buffer ≤ 1048576 → Within a k → part ≤ greatest_part k.ack → 24 + part < 2 ^ 32
unfolding Within
part_fits a k part most w le = by k.ack w le
  where
    by : (o : Option Ack) → IfSome o (λ ack. ack.receive ≤ a.config.buffer) → part ≤ greatest_part o → 24 + part < 2 ^ 32
    by None w le = omega (arith, le)
    by (Some ack) w le = omega (arith, le, w, most)

told_cut : (a : Asker) (cmds : Commands) (v : List TimedByte) (act : Act) → a.config.buffer ≤ 1048576 → ask_fault a cmds v act ≡ None → IsCut act
told_cut a cmds v (Ask request part) most h =
    let r = client_reading_of a cmds v in
    let s = standing cmds r.past in
    let no = all_no ((is_some r.fault, Ended) ∷ (not s.channel_open, NotOpen) ∷ asking_rows s request part) h in
    let short : part ≤ greatest_part s.ack = ltb-false (greatest_part s.ack) part (or_parts (part == 0) (nat_lt (greatest_part s.ack) part) no.1.1.0).1 in
    part_fits a (client_known r.past) part most (reading_within a cmds [] (frames_of v) (plain (rest_of v)) (nothing_within a)) short
told_cut a cmds v Renew most h = tt
told_cut a cmds v Close most h = tt

cut_told : (s : Setup) (w : World) (act : Act) (o : Option AskFault) → s.asker.config.buffer ≤ 1048576 → ask_fault s.asker w.cmds w.down act ≡ o → AreCut w.cmds → AreCut (told_by w act o).cmds
cut_told s w act (Some reason) most e h = h
cut_told s w act None most e h = (told_cut s.asker w.cmds w.down act most e, h)

cut_came : (w : World) (v : List TimedByte) (o : Option ClientFault) → AreCut w.cmds → AreCut (came_by w v o).cmds
cut_came w v (Some fault) h = h
cut_came w v None h = h

pub cut_kept : (s : Setup) (w : World) (e : Step) → s.asker.config.buffer ≤ 1048576 → AreCut w.cmds → AreCut (happens s w e).cmds
cut_kept s w (steps.Ask request part) most h = cut_told s w (Ask request part) (ask_fault s.asker w.cmds w.down (Ask request part)) most refl h
cut_kept s w steps.Renew most h = cut_told s w Renew (ask_fault s.asker w.cmds w.down Renew) most refl h
cut_kept s w steps.Close most h = cut_told s w Close (ask_fault s.asker w.cmds w.down Close) most refl h
cut_kept s w (steps.Tick n) most h = h
cut_kept s w (steps.Up n) most h = h
cut_kept s w (steps.Down n) most h =
    let v = delivered w.clock w.down n (server_stream s w) in
    cut_came w v (client_fault s.asker w.cmds v) h
