-- Before the first command: whatever is on the way is the Hello, and the first open request once the Acknowledge came, and their answers.
use Rattle.std.proofs.Common.{◌≡◌, ℕ, ◌<◌, ◌^◌, Bool, true, false, cond, List, [], ◌∷◌, ◌++◌, length, Option, Some, None, refl, sym, ap, subst, ◌∙◌, arith}
use Rattle.std.proofs.lemmas.List.{map-append}
use Rattle.ua_frame.specs.Streams.{TimedByte}
use Rattle.ua_frame.specs.Layout.{Frame, frames_of, kind_of}
use Rattle.ua_frame.specs.Hello.{negotiated}
use Rattle.ua_frame.specs.Beginnings.{AreMoments}
use Rattle.ua_chunk.specs.Numbers.{number_after}
use Rattle.ua_channel.specs.Token.{next_token}
use Rattle.ua_service.specs.ValueLaws.{open_request_length}
use Rattle.ua_conn.specs.Past.{Past, known, has_token, tokens_in}
use Rattle.ua_conn.specs.server.Answers.{opened_body}
use Rattle.ua_conn.specs.server.Faults.{fault_at}
use Rattle.ua_conn.specs.server.Replies.{Reply, Acknowledge, Opened, spelled, numbered_after, replies, first_fault}
use Rattle.ua_conn.specs.client.Asker.{Asker, hello_by}
use Rattle.ua_conn.specs.client.Commands.{Commands}
use Rattle.ua_conn.specs.client.Past.{acknowledge_frame_in, or_frame, is_acknowledge_frame, reverse_frame_in}
use Rattle.ua_conn.specs.client.Sending.{Sent, Greeting, Opening, sent_bytes, greets_by, opens_by, sent_by}
use Rattle.ua_conn.specs.client.Questions.{open_asked_body}
use Rattle.ua_conn.specs.server.Held.{newest_first}
use Rattle.ua_conn.specs.BothEnds.{AllAfter, IsLive, served_by, AnswersInOrder}
use Rattle.ua_conn.specs.Story.{Setup}
use Rattle.ua_conn.proofs.BothEnds.AliveLemmas.{server_well}
use Rattle.ua_conn.proofs.BothEnds.BaseLemmas.{greeted}
use Rattle.ua_conn.proofs.BothEnds.CommandAddsLemmas.{single, keeps_as}
use Rattle.ua_conn.proofs.BothEnds.FrameListLemmas.{Timely, all_front}
use Rattle.ua_conn.proofs.BothEnds.HoldLemmas.{Keeps}
use Rattle.ua_conn.proofs.BothEnds.InvariantForms.{Comes, Bears, BearsAll, Core, bears_of}
use Rattle.ua_conn.specs.client.Pending.{is_among}
use Rattle.ua_conn.proofs.BothEnds.OnTheWayLemmas.{frames_sent, frames_replied, Are, past_of}
use Rattle.ua_conn.proofs.BothEnds.OpeningKeepLemmas.{client_of, opening_keeps, open_asked_is, sent_are}
use Rattle.ua_conn.proofs.BothEnds.SpokenLemmas.{Greets, Acknowledges, Opens, spell, spell_is, spelled_list, BeginsSpoken}
use Rattle.ua_conn.proofs.BothEnds.SpokenReplyLemmas.{reply_spelled}
use Rattle.ua_conn.proofs.BothEnds.SpokenSessionLemmas.{opening_taken, open_body}
use Rattle.ua_conn.proofs.BothEnds.SpokenRequestLemmas.{replies_go}
use Rattle.ua_conn.proofs.BothEnds.StoryLemmas.{all_spoken, sent_spelled}
use Rattle.ua_conn.proofs.BothEnds.WayLemmas.{way}
use Rattle.ua_conn.proofs.BothEnds.PlainForms.{IsPlain}

-- ---- live tokens are enough for the server

abbrev pub LiveUp : List TimedByte → Type 0
LiveUp u = AllAfter (λ past f. IsLive (tokens_in past) f) [] (frames_of u)

pub stands_if_live : (s : Setup) (cmds : Commands) (xs : List Sent) (u : List TimedByte) → BeginsSpoken u (all_spoken s.asker.first_sequence 0 xs) → AreMoments (λ m. m < 2 ^ 63) u → BearsAll s cmds xs u → LiveUp u
    → AllAfter (λ past f. fault_at s.site (known s.site past) f ≡ None) [] (frames_of u) × (first_fault s.site u ≡ None)
stands_if_live s cmds xs u b clock bears live =
    let first = s.asker.first_sequence in
    let w = way s xs u [] [] [] b clock refl (frames_of u, refl) (replies s.site [], refl) in
    let c = w.comes in
    server_well s.site u w.ps (spelled_list b.front) (spelled_list b.back) (spelled_list (all_spoken first 0 xs)) c.front b.frames
    (sym (map-append spell b.front b.back) ∙ ap spelled_list b.whole) (c.sent ∙ sent_are first 0 xs) b.part (bears w.ps w.tail c).sound live

pub calm_if_live : (s : Setup) (cmds : Commands) (xs : List Sent) (u : List TimedByte) → BeginsSpoken u (all_spoken s.asker.first_sequence 0 xs) → AreMoments (λ m. m < 2 ^ 63) u → BearsAll s cmds xs u → LiveUp u → first_fault s.site u ≡ None
calm_if_live s cmds xs u b clock bears live = (stands_if_live s cmds xs u b clock bears live).1

-- ---- the Hello and the first open request

pair_of : (ps : List Frame) (b c : List ℕ) → Are ps (b ∷ c ∷ []) → (f : Frame) × (g : Frame) × (ps ≡ f ∷ g ∷ []) × (f.bytes ≡ b) × (g.bytes ≡ c)
pair_of [] b c e = absurd (cc e)
pair_of (f ∷ []) b c e = absurd (cc e)
pair_of (f ∷ g ∷ []) b c e = (f, g, refl, cc e, cc e)
pair_of (f ∷ g ∷ h ∷ ps) b c e = absurd (cc e)

abbrev pub opening_sent : Setup → ℕ → List Sent
opening_sent s now = Greeting (hello_by s.asker) ∷ Opening 0 1 (open_asked_body now 1 0 s.asker.config.lifetime) ∷ []

pub opened_core : (s : Setup) → IsPlain s → (o now : ℕ) (u : List TimedByte) → now < 2 ^ 63 → Core s [] o (opening_sent s now) u
opened_core s h o now u clock ps rs c =
    let site = s.site in
    let hello = hello_by s.asker in
    let config = s.asker.config in
    let first = s.asker.first_sequence in
    let lifetime = config.lifetime in
    let number = number_after first 0 in
    let one = pair_of ps (sent_bytes number (Greeting hello)) (sent_bytes number (Opening 0 1 (open_asked_body now 1 0 lifetime))) c.sent in
    let f = one.0 in
    let g = one.1 in
    let moment : g.moment < 2 ^ 63 = (subst Timely one.2 c.clock).1.0 in
    let bytes_f : f.bytes ≡ spell (Greets hello) = one.3 ∙ sent_spelled number (Greeting hello) in
    let bytes_g : g.bytes ≡ spell (Opens 0 number 1 (open_body now 1 0 lifetime)) = one.4 ∙ sent_spelled number (Opening 0 1 (open_asked_body now 1 0 lifetime)) ∙ ap (λ b. spell (Opens 0 number 1 b)) (open_asked_is now 1 0 lifetime) in
    let reply_x : Reply = Acknowledge (negotiated site.settings.limits hello) in
    let reply_y : Reply = Opened 1 (opened_body 1 g.moment site.channel (next_token [] g.moment lifetime)) in
    let taken = opening_taken site config.buffer config.max_message config.max_chunks lifetime first now s.asker.url f g h.site.settings.bounds.limits (client_of s.asker h.asker h.plain) clock bytes_f bytes_g in
    let says : replies site (past_of ps) ≡ reply_x ∷ reply_y ∷ [] = ap (λ l. replies site (past_of l)) one.2 ∙ replies_go site [] (f ∷ g ∷ []) ∙ taken.says in
    let two = pair_of rs (spelled site (number_after 1 0) reply_x) (spelled site (number_after 1 0) reply_y) (c.replied ∙ ap (frames_replied site 0) says) in
    let x = two.0 in
    let y = two.1 in
    let keeps = opening_keeps s o now f g x y h clock moment bytes_f bytes_g (two.3 ∙ reply_spelled site (number_after 1 0) reply_x) (two.4 ∙ reply_spelled site (number_after 1 0) reply_y) in
    subst (λ l. Keeps s [] o 1 1 (numbered_after 0 (replies site (past_of l))) [] [] l rs) (sym one.2)
    (subst (λ l. Keeps s [] o 1 1 (numbered_after 0 (replies site (past_of (f ∷ g ∷ [])))) [] [] (f ∷ g ∷ []) l) (sym two.2)
    (keeps_as s [] o 1 1 1 1 1 [] [] (f ∷ g ∷ []) (x ∷ y ∷ []) refl refl keeps))

-- ---- the Hello alone

greeting_bears : (s : Setup) → IsPlain s → (u : List TimedByte) → BearsAll s [] (Greeting (hello_by s.asker) ∷ []) u
greeting_bears s h u ps rs c =
    let site = s.site in
    let hello = hello_by s.asker in
    let number = number_after s.asker.first_sequence 0 in
    let ack = negotiated site.settings.limits hello in
    let one = single ps (sent_bytes number (Greeting hello)) c.sent in
    let p = one.0 in
    let bytes : p.bytes ≡ spell (Greets hello) = one.2 ∙ sent_spelled number (Greeting hello) in
    let some : Frame = record { bytes = spell (Acknowledges ack); moment = 0 } in
    let says : replies site (past_of ps) ≡ Acknowledge ack ∷ [] = ap (λ l. replies site (past_of l)) one.1 ∙ (greeted s h p some bytes refl).says in
    let two = single rs (spelled site (number_after 1 0) (Acknowledge ack)) (c.replied ∙ ap (frames_replied site 0) says) in
    let r = two.0 in
    let g = greeted s h p r bytes (two.2 ∙ reply_spelled site (number_after 1 0) (Acknowledge ack)) in
    let done : Bears s [] (p ∷ []) (r ∷ []) = record {
      sound = (g.sound, tt);
      taken = (g.accepts [], tt);
      fresh = record { ended = λ id le. ap (λ l. is_among l id) g.ended; opened = λ id le. ap (λ l. is_among l id) g.opened };
      order = subst (λ zs. AnswersInOrder s [] (served_by site (p ∷ [])) zs) (sym (g.answered [])) tt;
      many_served = ap length g.served;
      many_answers = ap length (g.answered []);
    } in
    subst (λ l. Bears s [] l rs) (sym one.1) (subst (λ l. Bears s [] (p ∷ []) l) (sym two.1) done)

-- ---- both

-- before a command: the Hello, and the first open request once the Acknowledge came
plain_sent : (a : Asker) (past : Past) → a.reverse ≡ false → (Greeting (hello_by a) ∷ opens_by a (acknowledge_frame_in past) ++ []) ≡ sent_by a [] past
plain_sent a past plain = ap (λ b. cond b (greets_by a (reverse_frame_in past)) (Greeting (hello_by a) ∷ []) ++ (opens_by a (acknowledge_frame_in past) ++ [])) (sym plain)

-- the moment at which the Acknowledge came is one of a clock
abbrev pub IsAckTimely : Past → Type 0
IsAckTimely past = (f : Frame) → acknowledge_frame_in past ≡ Some f → f.moment < 2 ^ 63

pub ack_timely : (fs : List Frame) (past : Past) → Timely fs → IsAckTimely past → IsAckTimely (newest_first fs past)
ack_timely [] past h k = k
ack_timely (g ∷ fs) past h k = ack_timely fs (g ∷ past) h.1 (λ f e. by f (acknowledge_frame_in past) refl (is_acknowledge_frame g) e)
  where
    by : (f : Frame) (o : Option Frame) → acknowledge_frame_in past ≡ o → (b : Bool) → or_frame o b g ≡ Some f → f.moment < 2 ^ 63
    by f (Some first) p b e = k f (p ∙ e)
    by f None p true e = let same : g ≡ f = cc e in subst (λ (x : Frame). x.moment < 2 ^ 63) same h.0
    by f None p false e = absurd (cc e)

pub first_core : (s : Setup) → IsPlain s → (o : ℕ) (past : Past) (f : Frame) (u : List TimedByte) → IsAckTimely past → acknowledge_frame_in past ≡ Some f → Core s [] o (sent_by s.asker [] past) u
first_core s h o past f u timely e =
    let same : opening_sent s f.moment ≡ sent_by s.asker [] past = ap (λ m. Greeting (hello_by s.asker) ∷ opens_by s.asker m ++ []) (sym e) ∙ plain_sent s.asker past h.plain in
    subst (λ xs. Core s [] o xs u) same (opened_core s h o f.moment u (timely f e))

pub first_bears : (s : Setup) → IsPlain s → (past : Past) (u : List TimedByte) → IsAckTimely past → BearsAll s [] (sent_by s.asker [] past) u
first_bears s h past u timely = by (acknowledge_frame_in past) refl
  where
    by : (o : Option Frame) → acknowledge_frame_in past ≡ o → BearsAll s [] (sent_by s.asker [] past) u
    by (Some f) e = bears_of s [] 0 (sent_by s.asker [] past) u (first_core s h 0 past f u timely e)
    by None e =
        let same : Greeting (hello_by s.asker) ∷ [] ≡ sent_by s.asker [] past = ap (λ m. Greeting (hello_by s.asker) ∷ opens_by s.asker m ++ []) (sym e) ∙ plain_sent s.asker past h.plain in
        subst (λ xs. BearsAll s [] xs u) same (greeting_bears s h u)

-- ---- no frame of them names a token

untokened_live : (past : Past) (fs : List Frame) → AllAfter (λ past f. has_token (kind_of f.bytes) ≡ false) past fs → AllAfter (λ past f. IsLive (tokens_in past) f) past fs
untokened_live past [] h = tt
untokened_live past (f ∷ fs) h = ((λ t. absurd (let clash : true ≡ false = sym t ∙ h.0 in cc clash)), untokened_live (f ∷ past) fs h.1)

hello_untokened : (s : Setup) → IsPlain s → (n : ℕ) (f : Frame) → f.bytes ≡ sent_bytes n (Greeting (hello_by s.asker)) → has_token (kind_of f.bytes) ≡ false
hello_untokened s h n f e = ap has_token (ap kind_of (e ∙ sent_spelled n (Greeting (hello_by s.asker))) ∙ (spell_is (Greets (hello_by s.asker)) (h.asker.url h.plain)).kind)

open_untokened : (s : Setup) (n now : ℕ) (f : Frame) → f.bytes ≡ sent_bytes n (Opening 0 1 (open_asked_body now 1 0 s.asker.config.lifetime)) → has_token (kind_of f.bytes) ≡ false
open_untokened s n now f e =
    let lifetime = s.asker.config.lifetime in
    let body = open_body now 1 0 lifetime in
    let bytes : f.bytes ≡ spell (Opens 0 n 1 body) = e ∙ sent_spelled n (Opening 0 1 (open_asked_body now 1 0 lifetime)) ∙ ap (λ b. spell (Opens 0 n 1 b)) (open_asked_is now 1 0 lifetime) in
    ap has_token (ap kind_of bytes ∙ (spell_is (Opens 0 n 1 body) (omega (arith, open_request_length now 1 0 lifetime))).kind)

first_untokened : (s : Setup) → IsPlain s → (past : Past) (ps rs : List Frame) (u : List TimedByte) → Comes s (sent_by s.asker [] past) u ps rs → AllAfter (λ past f. has_token (kind_of f.bytes) ≡ false) [] ps
first_untokened s h past ps rs u c = by (acknowledge_frame_in past) refl
  where
    number : ℕ
    number = number_after s.asker.first_sequence 0

    sent : Are ps (frames_sent s.asker.first_sequence 0 (Greeting (hello_by s.asker) ∷ opens_by s.asker (acknowledge_frame_in past) ++ []))
    sent = c.sent ∙ ap (frames_sent s.asker.first_sequence 0) (sym (plain_sent s.asker past h.plain))

    by : (o : Option Frame) → acknowledge_frame_in past ≡ o → AllAfter (λ past f. has_token (kind_of f.bytes) ≡ false) [] ps
    by None e =
        let one = single ps (sent_bytes number (Greeting (hello_by s.asker))) (sent ∙ ap (λ m. frames_sent s.asker.first_sequence 0 (Greeting (hello_by s.asker) ∷ opens_by s.asker m ++ [])) e) in
        subst (λ l. AllAfter (λ past f. has_token (kind_of f.bytes) ≡ false) [] l) (sym one.1) (hello_untokened s h number one.0 one.2, tt)
    by (Some f) e =
        let two = pair_of ps (sent_bytes number (Greeting (hello_by s.asker))) (sent_bytes number (Opening 0 1 (open_asked_body f.moment 1 0 s.asker.config.lifetime)))
        (sent ∙ ap (λ m. frames_sent s.asker.first_sequence 0 (Greeting (hello_by s.asker) ∷ opens_by s.asker m ++ [])) e) in
        subst (λ l. AllAfter (λ past f. has_token (kind_of f.bytes) ≡ false) [] l) (sym two.2) (hello_untokened s h number two.0 two.3, (open_untokened s number f.moment two.1 two.4, tt))

-- so the server refuses nothing
pub first_calm : (s : Setup) → IsPlain s → (past : Past) (u : List TimedByte) → BeginsSpoken u (all_spoken s.asker.first_sequence 0 (sent_by s.asker [] past)) → AreMoments (λ m. m < 2 ^ 63) u → IsAckTimely past → first_fault s.site u ≡ None
first_calm s h past u b clock timely =
    let xs = sent_by s.asker [] past in
    let w = way s xs u [] [] [] b clock refl (frames_of u, refl) (replies s.site [], refl) in
    let all = first_untokened s h past w.ps w.tail u w.comes in
    let none = all_front _ [] (frames_of u) w.comes.front.0 (subst (λ l. AllAfter (λ past f. has_token (kind_of f.bytes) ≡ false) [] l) (sym w.comes.front.1) all) in
    calm_if_live s [] xs u b clock (first_bears s h past u timely) (untokened_live [] (frames_of u) none)
