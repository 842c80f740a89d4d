-- What a client makes of the Acknowledge and of the open responses of our server.
use Rattle.std.proofs.Common.{◌≡◌, ℕ, ◌+◌, ◌<◌, ◌≤◌, ◌^◌, Bool, true, false, cond, not, ◌&&◌, ◌||◌, List, [], ◌∷◌, ◌++◌, length, Option, Some, None, refl, sym, ap, ◌∙◌, arith, lit<}
use Rattle.std.specs.Prelude.{◌==◌, nat_le, nat_lt, is_some}
use Rattle.std.specs.List.{filter}
use Rattle.std.proofs.lemmas.Bool.{eq-eqb, ne_eqb, lt-ltb}
use Rattle.std.proofs.lemmas.List.{append-nil}
use Rattle.ua_frame.specs.Layout.{Frame, kind_of, flag_of}
use Rattle.ua_frame.specs.Hello.{acknowledge_layout, negotiated}
use Rattle.ua_frame.specs.declared.acknowledge.Ack.{Ack}
use Rattle.ua_chunk.specs.Half.{half_after, ends_message}
use Rattle.ua_chunk.specs.Numbers.{number_after}
use Rattle.ua_chunk.specs.FrameLaws.{number_fits}
use Rattle.ua_channel.specs.declared.token.Token.{Token}
use Rattle.ua_channel.specs.Token.{two_newest, is_known}
use Rattle.ua_channel.specs.Admission.{follows_last, is_unopened}
use Rattle.ua_channel.specs.ClientChannel.{granted, names_other}
use Rattle.ua_service.specs.declared.channel.OpenResponse.{OpenResponse}
use Rattle.ua_service.specs.declared.request.Request.{Request}
use Rattle.ua_service.specs.ChannelMessages.{open_response_of}
use Rattle.ua_conn.specs.Past.{Past, body_of, carried, open_in, is_open, is_message, has_number, sequence_of}
use Rattle.ua_conn.specs.server.Answers.{opened_response, opened_body}
use Rattle.ua_conn.specs.client.Asker.{Asker, hello_by}
use Rattle.ua_conn.specs.client.Commands.{Commands, OpenAsked, opens_asked, opens_by, next_id}
use Rattle.ua_conn.specs.client.Past.{ClientKnown, client_known, client_channel, is_acknowledge, response_in, granted_by, channel_named}
use Rattle.ua_conn.specs.client.Pending.{bytes_in, is_among, ends_one, opening_id, opened_ids, wanted_at, due_at, first_id}
use Rattle.ua_conn.specs.client.Faults.{client_fault_by}
use Rattle.ua_conn.specs.client.Machine.{client_known_after, or_ack}
use Rattle.ua_conn.specs.client.Reading.{answer_at, answers, result_by, answer_with}
use Rattle.ua_conn.specs.Story.{Setup}
use Rattle.ua_conn.proofs.ServerEnd.LengthLemmas.{opened_length}
use Rattle.ua_conn.proofs.ClientEnd.KnownLemmas.{client_known_step}
use Rattle.ua_conn.proofs.BothEnds.SpokenLemmas.{Acknowledges, Opens, spell, length-spell, IsRead, is_read}
use Rattle.ua_conn.proofs.BothEnds.SpokenAnswerLemmas.{opened_read, agreed_value}
use Rattle.ua_conn.proofs.BothEnds.SpokenTableLemmas.{unacknowledged, hears, acknowledge_heard, opened_heard}
use Rattle.ua_conn.proofs.BothEnds.ClientWalkLemmas.{Stands, Got, got_more, ended_more, opened_more, granted_more}
use Rattle.ua_conn.proofs.BothEnds.PlainForms.{IsPlain}

-- ---- the Acknowledge

pub nothing_came : Stands [] unacknowledged [] [] []
unfolding client_known
nothing_came = record { known = refl; ended = refl; opened = refl; granted = refl }

none_answered : (k : ClientKnown) (wanted : Option Request) (f : Frame) → is_message (kind_of f.bytes) ≡ false → answer_at k wanted f ≡ []
unfolding answer_at
none_answered k wanted f e = λ i. cond (e i) (answer_with (carried f).request_id wanted (result_by k (flag_of f.bytes) (carried f))) []

acknowledge_known : (ack : Ack) (f : Frame) → IsRead f (Acknowledges ack) → client_known_after unacknowledged f ≡ hears ack 0 [] None None
unfolding client_known_after
acknowledge_known ack f h =
    (λ i. record {
      ack = or_ack None (is_acknowledge (h.kind i) && is_some (h.says i)) (h.says i);
      channel = cond (is_open (h.kind i)) (channel_named (open_in f)) 0;
      tokens = cond (is_open (h.kind i)) (two_newest (granted_by (response_in f) f.moment ∷ [])) [];
      last = cond (has_number (h.kind i)) (Some (cond (is_open (h.kind i)) (sequence_of (open_in f)) (carried f).sequence)) None;
      half = cond (is_message (h.kind i)) (half_after None (flag_of f.bytes) (carried f).request_id (carried f).body) None;
    })

pub acknowledge_got : (a : Asker) (cmds : Commands) (ack : Ack) (f : Frame) → f.bytes ≡ spell (Acknowledges ack) → acknowledge_layout.IsValue ack
    → 8192 ≤ ack.receive → ack.receive ≤ a.config.buffer → 8192 ≤ ack.send → ack.send ≤ a.config.buffer → Got a cmds [] (f ∷ []) (hears ack 0 [] None None) [] [] [] []
acknowledge_got a cmds ack f e is p q r s =
    let read = is_read f (Acknowledges ack) e tt is in
    let end = bytes_in (f ∷ []) in
    let wanted = wanted_at cmds [] end (carried f).request_id in
    let due = due_at cmds [] end in
    let at = nothing_came in
    let other : is_open (kind_of f.bytes) ≡ false = ap is_open read.kind in
    let one : ends_one f ≡ false = (λ i. is_message (read.kind i) && ends_message (read.flag i)) in
    record {
      taken = ((λ i. client_fault_by a false (at.known i) due wanted (is_known (client_known []).tokens (carried f).token) f) ∙ acknowledge_heard a due wanted (is_known (client_known []).tokens (carried f).token) ack f e is p q r s, tt);
      answered = none_answered (client_known []) wanted f (ap is_message read.kind);
      stands = record {
        known = client_known_step f [] ∙ ap (λ (x : ClientKnown). client_known_after x f) at.known ∙ acknowledge_known ack f read;
        ended = ended_more f [] false one;
        opened = opened_more f [] false other;
        granted = granted_more f [] false other;
      };
    }

-- ---- an open response

-- while no more open requests were answered than these, this one is due at every place behind this one
abbrev pub Due : Commands → List ℕ → ℕ → ℕ → Type 0
Due cmds opens place id = (past : Past) (end : ℕ) → opened_ids past ≡ opens → place < end → due_at cmds past end ≡ Some id

opened_known : (ack : Ack) (before : ℕ) (tokens : List Token) (last : Option ℕ) (channel number id : ℕ) (body : List ℕ) (r : OpenResponse) (f : Frame) → IsRead f (Opens channel number id body) → open_response_of body ≡ Some r
    → client_known_after (hears ack before tokens last None) f ≡ hears ack channel (two_newest (granted r f.moment ∷ tokens)) (Some number) None
unfolding client_known_after
opened_known ack before tokens last channel number id body r f h is =
    (λ i. record {
      ack = Some ack;
      channel = cond (is_open (h.kind i)) (channel_named (h.says i)) before;
      tokens = cond (is_open (h.kind i)) (two_newest (granted_by (open_response_of (body_of (h.says i))) f.moment ∷ tokens)) tokens;
      last = cond (has_number (h.kind i)) (Some (cond (is_open (h.kind i)) (sequence_of (h.says i)) (carried f).sequence)) last;
      half = cond (is_message (h.kind i)) (half_after None (flag_of f.bytes) (carried f).request_id (carried f).body) None;
    })
    ∙ (λ i. hears ack channel (two_newest (granted_by (is i) f.moment ∷ tokens)) (Some number) None)

pub opened_got : (a : Asker) (cmds : Commands) (past : Past) (ack : Ack) (before channel : ℕ) (tokens : List Token) (last : Option ℕ) (number id : ℕ) (body : List ℕ) (r : OpenResponse) (f : Frame)
    (place : ℕ) (ends opens : List ℕ) (all : List Token) → f.bytes ≡ spell (Opens channel number id body) → length body ≤ 8113 → 8192 ≤ ack.send → channel < 2 ^ 32 → number < 2 ^ 32 → id < 2 ^ 32
    → names_other (client_channel (hears ack before tokens last None)) channel ≡ false → follows_last last number ≡ true
    → open_response_of body ≡ Some r → nat_le 0x80000000 r.header.service_result.0 ≡ false → r.channel_id ≡ channel
    → Stands past (hears ack before tokens last None) ends opens all → place ≤ bytes_in past → Due cmds opens place id
    → Got a cmds past (f ∷ []) (hears ack channel (two_newest (granted r f.moment ∷ tokens)) (Some number) None) [] ends (id ∷ opens) (granted r f.moment ∷ all)
opened_got a cmds past ack before channel tokens last number id body r f place ends opens all e short room c n i own follow is good same at from is_due =
    let x = Opens channel number id body in
    let sized : 79 + length body < 2 ^ 32 = omega (arith, short) in
    let read = is_read f x e sized (c, n, i) in
    let size : length f.bytes ≡ 79 + length body = ap length e ∙ length-spell x in
    let end = bytes_in (f ∷ past) in
    let due : due_at cmds past end ≡ Some id = is_due past end at.opened (omega (arith, from, size)) in
    let wanted = wanted_at cmds past end (carried f).request_id in
    let usable = is_known (client_known past).tokens (carried f).token in
    let other : is_open (kind_of f.bytes) ≡ true = ap is_open read.kind in
    let one : ends_one f ≡ false = (λ j. is_message (read.kind j) && ends_message (read.flag j)) in
    let grants : granted_by (response_in f) f.moment ≡ granted r f.moment = (λ j. granted_by (open_response_of (body_of (read.says j))) f.moment) ∙ (λ j. granted_by (is j) f.moment) in
    record {
      taken = ((λ j. client_fault_by a false (at.known j) (due j) wanted usable f) ∙ opened_heard a ack before channel tokens last wanted usable number id body r f e short room c n i own follow is good same, tt);
      answered = ap (λ l. answers cmds past ++ l) (none_answered (client_known past) wanted f (ap is_message read.kind)) ∙ append-nil (answers cmds past) ∙ sym (append-nil (answers cmds past));
      stands = record {
        known = client_known_step f past ∙ ap (λ (k : ClientKnown). client_known_after k f) at.known ∙ opened_known ack before tokens last channel number id body r f read is;
        ended = ended_more f past false one ∙ at.ended;
        opened = opened_more f past true other ∙ (λ j. opening_id (read.says j) ∷ at.opened j);
        granted = granted_more f past true other ∙ (λ j. grants j ∷ at.granted j);
      };
    }

-- ---- of our server

-- the token as the client counts it, from the moment of the response
abbrev pub token_here : Token → ℕ → Token
token_here token now = record { id = token.id; issued = now; lifetime = token.lifetime }

and_false : (b : Bool) → (b && false) ≡ false
and_false true = refl
and_false false = refl

first_names : (ack : Ack) (channel : ℕ) → 0 < channel → names_other (client_channel (hears ack 0 [] None None)) channel ≡ false
first_names ack channel some =
    let zero : (channel == 0) ≡ false = ne_eqb channel 0 (λ e. omega (arith, e, some)) in
    λ i. zero i || (not (is_unopened (client_channel (hears ack 0 [] None None))) && not (channel == 0))

names_again : (ack : Ack) (channel : ℕ) (tokens : List Token) (last : Option ℕ) → 0 < channel → names_other (client_channel (hears ack channel tokens last None)) channel ≡ false
names_again ack channel tokens last some =
    let zero : (channel == 0) ≡ false = ne_eqb channel 0 (λ e. omega (arith, e, some)) in
    let own : (channel == channel) ≡ true = eq-eqb channel channel refl in
    (λ i. zero i || (not (is_unopened (client_channel (hears ack channel tokens last None))) && not (own i))) ∙ and_false (not (is_unopened (client_channel (hears ack channel tokens last None))))

-- the first open request stands before all others
record First (cmds : Commands) : Type 0 where
  others : List OpenAsked
  are : opens_asked cmds ≡ record { id = 1; seen = 0 } ∷ others

first_asked : (cmds : Commands) → First cmds
first_asked [] = record { others = []; are = refl }
first_asked (c ∷ cmds) =
    let r = first_asked cmds in
    record { others = r.others ++ opens_by (next_id cmds) c.seen c.act; are = ap (λ l. l ++ opens_by (next_id cmds) c.seen c.act) r.are }

pub first_due : (cmds : Commands) → Due cmds [] 0 1
first_due cmds past end none some =
    let r = first_asked cmds in
    let here : nat_lt 0 end ≡ true = lt-ltb 0 end some in
    let one : OpenAsked = record { id = 1; seen = 0 } in
    let rest = filter (λ r. nat_lt r.seen end) (filter (λ r. not (is_among [] r.id)) r.others) in
    (λ i. first_id (filter (λ r. nat_lt r.seen end) (filter (λ r. not (is_among (none i) r.id)) (r.are i))))
    ∙ ap (λ b. first_id (cond b (one ∷ rest) rest)) here

-- The Acknowledge and the first open response: the channel is open at the client, with one token.
pub opening_got : (s : Setup) (cmds : Commands) (now : ℕ) (token : Token) (f g : Frame) → IsPlain s → now < 2 ^ 63 → token.id < 2 ^ 32 → token.lifetime < 2 ^ 32
    → f.bytes ≡ spell (Acknowledges (negotiated s.site.settings.limits (hello_by s.asker))) → g.bytes ≡ spell (Opens s.site.channel (number_after 1 0) 1 (opened_body 1 now s.site.channel token))
    → (let ack = negotiated s.site.settings.limits (hello_by s.asker) in let own = token_here token g.moment in
    Got s.asker cmds [] (f ∷ g ∷ []) (hears ack s.site.channel (own ∷ []) (Some (number_after 1 0)) None) [] [] (1 ∷ []) (own ∷ []))
opening_got s cmds now token f g h clock t l e d =
    let hello = hello_by s.asker in
    let limits = s.site.settings.limits in
    let ack = negotiated limits hello in
    let b = h.site.settings.bounds.limits in
    let c = h.asker.config in
    let r = opened_response 1 now s.site.channel token in
    let send : 8192 ≤ ack.send = omega (arith, b.send_least, c.buffer_least) in
    let one = acknowledge_got s.asker cmds ack f e (agreed_value limits hello b) (omega (arith, b.receive_least, c.buffer_least)) (omega arith) send (omega arith) in
    let two = opened_got s.asker cmds (f ∷ []) ack 0 s.site.channel [] None (number_after 1 0) 1 (opened_body 1 now s.site.channel token) r g 0 [] [] [] d (omega (arith, opened_length 1 now s.site.channel token)) send
    h.site.channel_most (number_fits 1 0) (lit< tt) (first_names ack s.site.channel h.site.channel) refl (opened_read 1 now s.site.channel token clock (lit< tt) h.site.channel_most t l) refl refl one.stands (omega arith) (first_due cmds) in
    got_more s.asker cmds [] f (g ∷ []) _ _ [] [] [] [] [] (1 ∷ []) [] (token_here token g.moment ∷ []) one two

-- The open response to a renewal that is due: one token more.
pub renewal_got : (s : Setup) (cmds : Commands) (past : Past) (tokens : List Token) (last : Option ℕ) (now number id : ℕ) (token : Token) (f : Frame) (place : ℕ) (ends opens : List ℕ) (all : List Token)
    → IsPlain s → now < 2 ^ 63 → number < 2 ^ 32 → id < 2 ^ 32 → token.id < 2 ^ 32 → token.lifetime < 2 ^ 32 → follows_last last number ≡ true
    → f.bytes ≡ spell (Opens s.site.channel number id (opened_body id now s.site.channel token))
    → (let ack = negotiated s.site.settings.limits (hello_by s.asker) in let own = token_here token f.moment in
    Stands past (hears ack s.site.channel tokens last None) ends opens all → place ≤ bytes_in past → Due cmds opens place id
    → Got s.asker cmds past (f ∷ []) (hears ack s.site.channel (two_newest (own ∷ tokens)) (Some number) None) [] ends (id ∷ opens) (own ∷ all))
renewal_got s cmds past tokens last now number id token f place ends opens all h clock n i t l follow e at from due =
    let ack = negotiated s.site.settings.limits (hello_by s.asker) in
    let b = h.site.settings.bounds.limits in
    let c = h.asker.config in
    opened_got s.asker cmds past ack s.site.channel s.site.channel tokens last number id (opened_body id now s.site.channel token) (opened_response id now s.site.channel token) f place ends opens all e
    (omega (arith, opened_length id now s.site.channel token)) (omega (arith, b.send_least, c.buffer_least)) h.site.channel_most n i (names_again ack s.site.channel tokens last h.site.channel) follow
    (opened_read id now s.site.channel token clock i h.site.channel_most t l) refl refl at from due
