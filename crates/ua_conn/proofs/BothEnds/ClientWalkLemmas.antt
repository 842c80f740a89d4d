-- Frames that come to a client: that it accepts each but for the age of its token, what it knows then, and what they answer.
use Rattle.std.proofs.Common.{◌≡◌, ℕ, ◌+◌, ◌-◌, ◌<◌, ◌≤◌, ◌^◌, Bool, true, false, cond, List, [], ◌∷◌, ◌++◌, map, length, Option, Some, None, refl, ap, subst, ◌∙◌, arith, append_assoc}
use Rattle.std.specs.Prelude.{◌&&◌, ◌==◌}
use Rattle.std.specs.List.{filter}
use Rattle.ua_frame.specs.Layout.{Frame, kind_of}
use Rattle.ua_frame.specs.HeaderRows.{flag_fits}
use Rattle.ua_frame.specs.declared.kind.Kind.TheVariants as kinds
use Rattle.ua_frame.specs.declared.acknowledge.Ack.{Ack}
use Rattle.ua_chunk.specs.Layout.{Chunk, abort_bytes}
use Rattle.ua_chunk.specs.Cut.{Part}
use Rattle.ua_chunk.specs.Half.{Half, body_of, parts_of as half_parts, may_have_id, half_after, ends_message}
use Rattle.ua_chunk.specs.HalfLaws.{no_part_row, half_with, Arrives}
use Rattle.ua_chunk.specs.Numbers.{number_after}
use Rattle.ua_chunk.specs.NumberLaws.{each_follows}
use Rattle.ua_chunk.specs.FrameLaws.{number_fits, abort_length}
use Rattle.ua_channel.specs.declared.token.Token.{Token}
use Rattle.ua_channel.specs.Token.{is_known}
use Rattle.ua_channel.specs.Admission.{follows_last}
use Rattle.ua_service.specs.declared.request.Request.{Request}
use Rattle.ua_service.specs.declared.response.Response.{Response}
use Rattle.ua_service.specs.Responses.{response_of}
use Rattle.ua_conn.specs.Past.{Past, or_empty, carried, is_open, is_message, open_in}
use Rattle.ua_conn.specs.server.Replies.{aborted}
use Rattle.ua_conn.specs.server.Held.{newest_first}
use Rattle.ua_conn.specs.client.Asker.{Asker}
use Rattle.ua_conn.specs.client.Commands.{Commands}
use Rattle.ua_conn.specs.client.Past.{ClientKnown, client_known, response_in, granted_by, granted_in}
use Rattle.ua_conn.specs.client.Pending.{bytes_in, ends_one, ended_ids, opening_id, opened_ids, wanted_at, due_at}
use Rattle.ua_conn.specs.client.Faults.{client_fault_by, fits}
use Rattle.ua_conn.specs.client.Machine.{client_known_after}
use Rattle.ua_conn.specs.client.Reading.{answer_at, answers}
use Rattle.ua_conn.specs.BothEnds.{AllAfter}
use Rattle.ua_conn.specs.declared.client.answer.Answer.{Answer}
use Rattle.ua_conn.specs.declared.client.answer.AnswerResult.TheVariants.{Response as Responds, Aborted}
use Rattle.ua_conn.proofs.BothEnds.OnTheWayLemmas.{Accepts}
use Rattle.ua_conn.proofs.ClientEnd.KnownLemmas.{client_known_step}
use Rattle.ua_conn.proofs.BothEnds.SpokenLemmas.{Tells, spell, length-spell, IsRead, is_read}
use Rattle.ua_conn.proofs.BothEnds.SpokenAnswerLemmas.{abort_arrives}
use Rattle.ua_conn.proofs.BothEnds.SpokenEffectLemmas.{chunk_by}
use Rattle.ua_conn.proofs.BothEnds.SpokenRequestLemmas.{told, AreSpoken, AreWithin}
use Rattle.ua_conn.proofs.BothEnds.SpokenTableLemmas.{hears, IsAnswering, part_heard, known_heard, more_heard, whole_heard, answer_given, abort_given, none_given}

-- ---- what a past comes to

-- what is known, which messages ended and which open requests were answered, and all tokens that were granted
pub record Stands (past : Past) (k : ClientKnown) (ends opens : List ℕ) (tokens : List Token) : Type 0 where
  pub known : client_known past ≡ k
  pub ended : ended_ids past ≡ ends
  pub opened : opened_ids past ≡ opens
  pub granted : granted_in past ≡ tokens

-- the frames come behind the past, and these are their answers
pub record Got (a : Asker) (cmds : Commands) (past : Past) (fs : List Frame) (k : ClientKnown) (items : List Answer) (ends opens : List ℕ) (tokens : List Token) : Type 0 where
  pub taken : AllAfter (Accepts a cmds) past fs
  pub answered : answers cmds (newest_first fs past) ≡ answers cmds past ++ items
  pub stands : Stands (newest_first fs past) k ends opens tokens

pub got_more : (a : Asker) (cmds : Commands) (past : Past) (f : Frame) (fs : List Frame) (k1 k2 : ClientKnown) (is js : List Answer) (ends1 opens1 ends2 opens2 : List ℕ) (tokens1 tokens2 : List Token)
    → Got a cmds past (f ∷ []) k1 is ends1 opens1 tokens1 → Got a cmds (f ∷ past) fs k2 js ends2 opens2 tokens2 → Got a cmds past (f ∷ fs) k2 (is ++ js) ends2 opens2 tokens2
got_more a cmds past f fs k1 k2 is js ends1 opens1 ends2 opens2 tokens1 tokens2 one more = record {
  taken = (one.taken.0, more.taken);
  answered = more.answered ∙ ap (λ l. l ++ js) one.answered ∙ append_assoc (answers cmds past) is js;
  stands = more.stands;
}

-- while no more messages have ended than these, this request is wanted under the id, at every place behind this one
abbrev pub Wanted : Commands → List ℕ → ℕ → ℕ → Request → Type 0
Wanted cmds ends place id request = (past : Past) (end : ℕ) → ended_ids past ≡ ends → place < end → wanted_at cmds past end id ≡ Some request

-- ---- one frame more

kept_map : {B : Type 0} (g : Frame → B) (b : Bool) (f : Frame) (fs : List Frame) → map g (cond b (f ∷ fs) fs) ≡ cond b (g f ∷ map g fs) (map g fs)
kept_map g true f fs = refl
kept_map g false f fs = refl

pub ended_more : (f : Frame) (past : Past) (b : Bool) → ends_one f ≡ b → ended_ids (f ∷ past) ≡ cond b ((carried f).request_id ∷ ended_ids past) (ended_ids past)
ended_more f past b e = kept_map (λ g. (carried g).request_id) (ends_one f) f (filter ends_one past) ∙ (λ i. cond (e i) ((carried f).request_id ∷ ended_ids past) (ended_ids past))

pub opened_more : (f : Frame) (past : Past) (b : Bool) → is_open (kind_of f.bytes) ≡ b → opened_ids (f ∷ past) ≡ cond b (opening_id (open_in f) ∷ opened_ids past) (opened_ids past)
opened_more f past b e =
    kept_map (λ g. opening_id (open_in g)) (is_open (kind_of f.bytes)) f (filter (λ g. is_open (kind_of g.bytes)) past)
    ∙ (λ i. cond (e i) (opening_id (open_in f) ∷ opened_ids past) (opened_ids past))

pub granted_more : (f : Frame) (past : Past) (b : Bool) → is_open (kind_of f.bytes) ≡ b → granted_in (f ∷ past) ≡ cond b (granted_by (response_in f) f.moment ∷ granted_in past) (granted_in past)
granted_more f past b e =
    kept_map (λ g. granted_by (response_in g) g.moment) (is_open (kind_of f.bytes)) f (filter (λ g. is_open (kind_of g.bytes)) past)
    ∙ (λ i. cond (e i) (granted_by (response_in f) f.moment ∷ granted_in past) (granted_in past))

-- a part of an answer, or an abort in its place
message_got : (a : Asker) (cmds : Commands) (past : Past) (f : Frame) (ack : Ack) (channel : ℕ) (tokens : List Token) (last : Option ℕ) (half next : Option Half) (request : Request) (token number : ℕ) (p : Part) (items : List Answer) (b : Bool)
    (ends opens : List ℕ) (all : List Token) → Stands past (hears ack channel tokens last half) ends opens all → IsRead f (Tells channel token number p) → wanted_at cmds past (bytes_in (f ∷ past)) p.id ≡ Some request
    → ((due : Option ℕ) → client_fault_by a false (hears ack channel tokens last half) due (Some request) true f ≡ None) → is_known tokens token ≡ true → half_after half p.flag p.id p.bytes ≡ next
    → answer_at (hears ack channel tokens last half) (Some request) f ≡ items → ends_message p.flag ≡ b
    → Got a cmds past (f ∷ []) (hears ack channel tokens (Some number) next) items (cond b (p.id ∷ ends) ends) opens all
message_got a cmds past f ack channel tokens last half next request token number p items b ends opens all at read want fine known put gives flag =
    let k = hears ack channel tokens last half in
    let end = bytes_in (f ∷ past) in
    let car : carried f ≡ chunk_by channel token number p.id p.bytes = ap or_empty read.says in
    let wanted : wanted_at cmds past end (carried f).request_id ≡ Some request = ap (λ (c : Chunk). wanted_at cmds past end c.request_id) car ∙ want in
    let named : is_known (client_known past).tokens (carried f).token ≡ true = (λ i. is_known (at.known i).tokens (car i).token) ∙ known in
    let one : ends_one f ≡ b = (λ i. is_message (read.kind i) && ends_message (read.flag i)) ∙ flag in
    let other : is_open (kind_of f.bytes) ≡ false = ap is_open read.kind in
    record {
      taken = ((λ i. client_fault_by a false (at.known i) (due_at cmds past end) (wanted i) (named i) f) ∙ fine (due_at cmds past end), tt);
      answered = ap (λ l. answers cmds past ++ l) ((λ i. answer_at (at.known i) (wanted i) f) ∙ gives);
      stands = record {
        known = client_known_step f past ∙ ap (λ (x : ClientKnown). client_known_after x f) at.known ∙ known_heard ack channel tokens last half next token number p f read put;
        ended = ended_more f past b one ∙ (λ i. cond b ((car i).request_id ∷ at.ended i) (at.ended i));
        opened = opened_more f past false other ∙ at.opened;
        granted = granted_more f past false other ∙ at.granted;
      };
    }

-- ---- all parts of an answer

-- The frames of an answer that arrives, while its request is wanted: each is accepted, and the last brings the answer.
pub answer_got : (a : Asker) (cmds : Commands) (past : Past) (ack : Ack) (channel : ℕ) (tokens : List Token) (last : Option ℕ) (half : Option Half) (request : Request) (token id first n : ℕ) (body : List ℕ) (r : Response) (parts : List Part) (fs : List Frame)
    (place : ℕ) (ends opens : List ℕ) (all : List Token) → IsAnswering ack channel tokens token id → is_known tokens token ≡ true → 1 ≤ first → AreSpoken fs (told channel token first n parts) → AreWithin ack.send parts → follows_last last (number_after first n) ≡ true
    → Arrives a.config.max_message a.config.max_chunks id body half parts → response_of body ≡ Some r → fits request r ≡ true
    → Stands past (hears ack channel tokens last half) ends opens all → place ≤ bytes_in past → Wanted cmds ends place id request
    → Got a cmds past fs (hears ack channel tokens (Some (number_after first (n + length parts - 1))) None) (record { id = id; request = request; result = Responds r } ∷ []) (id ∷ ends) opens all
answer_got a cmds past ack channel tokens last half request token id first n body r [] fs place ends opens all h known some spoken within follow arrives is fit at from want = absurd arrives
answer_got a cmds past ack channel tokens last half request token id first n body r (p ∷ []) [] place ends opens all h known some spoken within follow arrives is fit at from want = absurd spoken
answer_got a cmds past ack channel tokens last half request token id first n body r (p ∷ []) (f ∷ g ∷ fs) place ends opens all h known some spoken within follow arrives is fit at from want = absurd spoken.1
answer_got a cmds past ack channel tokens last half request token id first n body r (p ∷ q ∷ parts) [] place ends opens all h known some spoken within follow arrives is fit at from want = absurd spoken
answer_got a cmds past ack channel tokens last half request token id first n body r (p ∷ q ∷ parts) (f ∷ []) place ends opens all h known some spoken within follow arrives is fit at from want = absurd spoken.1
answer_got a cmds past ack channel tokens last half request token id first n body r (p ∷ []) (f ∷ []) place ends opens all h known some spoken within follow arrives is fit at from want =
    let x = Tells channel token (number_after first n) p in
    let flag : flag_fits kinds.Message p.flag ≡ true = ap (flag_fits kinds.Message) arrives.1 in
    let own : p.id < 2 ^ 32 = omega (arith, arrives.0, h.id) in
    let sized : 24 + length p.bytes < 2 ^ 32 = omega (arith, within.0, h.send) in
    let rows = no_part_row a.config.max_message a.config.max_chunks half p.flag p.id p.bytes arrives.2 in
    let joined : response_of (body_of half ++ p.bytes) ≡ Some r = ap response_of arrives.4 ∙ is in
    let whole = whole_heard request p.flag (response_of (body_of half ++ p.bytes)) r joined fit in
    let read = is_read f x spoken.0 sized (h.channel_fits, h.token, number_fits first n, own) in
    let size : length f.bytes ≡ 24 + length p.bytes = ap length spoken.0 ∙ length-spell x in
    let count : n ≡ n + 1 - 1 = omega arith in
    let one = message_got a cmds past f ack channel tokens last half None request token (number_after first n) p (record { id = p.id; request = request; result = Responds r } ∷ []) true ends opens all at read
    (ap (wanted_at cmds past (bytes_in (f ∷ past))) arrives.0 ∙ want past (bytes_in (f ∷ past)) at.ended (omega (arith, from, size)))
    (λ due. part_heard a ack channel tokens last half due request token (number_after first n) p f spoken.0 flag within.0 h.send h.channel_fits h.token (number_fits first n) own h.tokens follow rows whole)
    known arrives.3 (answer_given (hears ack channel tokens last half) f channel token (number_after first n) p request r read arrives.1 joined) (ap ends_message arrives.1) in
    let P : ℕ → ℕ → Type 0 = λ m i. Got a cmds past (f ∷ []) (hears ack channel tokens (Some (number_after first m)) None) (record { id = i; request = request; result = Responds r } ∷ []) (i ∷ ends) opens all in
    subst (λ m. P m id) count (subst (λ i. P n i) arrives.0 one)
answer_got a cmds past ack channel tokens last half request token id first n body r (p ∷ q ∷ parts) (f ∷ g ∷ fs) place ends opens all h known some spoken within follow arrives is fit at from want =
    let x = Tells channel token (number_after first n) p in
    let next : Half = half_with id (body_of half ++ p.bytes) (half_parts half + 1) in
    let flag : flag_fits kinds.Message p.flag ≡ true = ap (flag_fits kinds.Message) arrives.1 in
    let own : p.id < 2 ^ 32 = omega (arith, arrives.0, h.id) in
    let sized : 24 + length p.bytes < 2 ^ 32 = omega (arith, within.0, h.send) in
    let rows = no_part_row a.config.max_message a.config.max_chunks half p.flag p.id p.bytes arrives.2 in
    let whole = more_heard request p.flag (response_of (body_of half ++ p.bytes)) (ap (λ (m : ℕ). m == 70) arrives.1) in
    let read = is_read f x spoken.0 sized (h.channel_fits, h.token, number_fits first n, own) in
    let size : length f.bytes ≡ 24 + length p.bytes = ap length spoken.0 ∙ length-spell x in
    let one = message_got a cmds past f ack channel tokens last half (Some next) request token (number_after first n) p [] false ends opens all at read
    (ap (wanted_at cmds past (bytes_in (f ∷ past))) arrives.0 ∙ want past (bytes_in (f ∷ past)) at.ended (omega (arith, from, size)))
    (λ due. part_heard a ack channel tokens last half due request token (number_after first n) p f spoken.0 flag within.0 h.send h.channel_fits h.token (number_fits first n) own h.tokens follow rows whole)
    known arrives.3 (none_given (hears ack channel tokens last half) (Some request) f channel token (number_after first n) p read arrives.1) (ap ends_message arrives.1) in
    let more = answer_got a cmds (f ∷ past) ack channel tokens (Some (number_after first n)) (Some next) request token id first (n + 1) body r (q ∷ parts) (g ∷ fs) place ends opens all h known some spoken.1 within.1 (each_follows first n some) arrives.4 is fit
    one.stands (omega (arith, from)) want in
    let count : n + 1 + length (q ∷ parts) - 1 ≡ n + length (p ∷ q ∷ parts) - 1 = omega arith in
    let P : ℕ → Type 0 = λ m. Got a cmds past (f ∷ g ∷ fs) (hears ack channel tokens (Some (number_after first m)) None) (record { id = id; request = request; result = Responds r } ∷ []) (id ∷ ends) opens all in
    subst P count (got_more a cmds past f (g ∷ fs) _ _ [] (record { id = id; request = request; result = Responds r } ∷ []) ends opens (id ∷ ends) opens all all one more)

-- An abort in the place of an answer brings its status.
pub abort_got : (a : Asker) (cmds : Commands) (past : Past) (ack : Ack) (channel : ℕ) (tokens : List Token) (last : Option ℕ) (half : Option Half) (request : Request) (token number id status : ℕ) (f : Frame)
    (place : ℕ) (ends opens : List ℕ) (all : List Token) → IsAnswering ack channel tokens token id → is_known tokens token ≡ true → f.bytes ≡ spell (Tells channel token number (aborted id status)) → 8192 ≤ ack.send → number < 2 ^ 32 → status < 2 ^ 32
    → may_have_id half id ≡ true → follows_last last number ≡ true
    → Stands past (hears ack channel tokens last half) ends opens all → place ≤ bytes_in past → Wanted cmds ends place id request
    → Got a cmds past (f ∷ []) (hears ack channel tokens (Some number) None) (record { id = id; request = request; result = Aborted status } ∷ []) (id ∷ ends) opens all
abort_got a cmds past ack channel tokens last half request token number id status f place ends opens all h known e room n lt same follow at from want =
    let p = aborted id status in
    let x = Tells channel token number p in
    let long : 24 + length p.bytes ≡ 32 = omega (arith, abort_length status) in
    let arrives = abort_arrives a.config.max_message a.config.max_chunks id status half lt same in
    let rows = no_part_row a.config.max_message a.config.max_chunks half 65 id (abort_bytes status) arrives.0 in
    let read = is_read f x e (omega (arith, long)) (h.channel_fits, h.token, n, h.id) in
    let size : length f.bytes ≡ 24 + length p.bytes = ap length e ∙ length-spell x in
    message_got a cmds past f ack channel tokens last half None request token number p (record { id = id; request = request; result = Aborted status } ∷ []) true ends opens all at read
    (want past (bytes_in (f ∷ past)) at.ended (omega (arith, from, size)))
    (λ due. part_heard a ack channel tokens last half due request token number p f e refl (omega (arith, long, room)) h.send h.channel_fits h.token n h.id h.tokens follow rows (more_heard request 65 (response_of (body_of half ++ p.bytes)) refl))
    known arrives.1 (abort_given (hears ack channel tokens last half) f channel token number id status request read lt) refl
