-- What both ends hold between two commands, once all that was sent has come each way; and how a request keeps it.
use Rattle.std.proofs.Common.{◌≡◌, ℕ, ◌+◌, ◌-◌, ◌<◌, ◌≤◌, ◌^◌, Bool, true, false, cond, not, ◌||◌, List, [], ◌∷◌, ◌++◌, map, take, length, Option, Some, None, is_some, refl, sym, ap, subst, ◌∙◌, arith}
use Rattle.std.specs.Prelude.{◌==◌, IfSome}
use Rattle.std.specs.List.{filter, find}
use Rattle.std.proofs.lemmas.Bool.{eq-eqb}
use Rattle.std.proofs.lemmas.List.{append-nil, length-append, length-map}
use Rattle.ua_frame.specs.Layout.{Frame, kind_of}
use Rattle.ua_chunk.specs.Cut.{Part, part_count, fill}
use Rattle.ua_chunk.specs.Half.{Half}
use Rattle.ua_chunk.specs.HalfLaws.{Arrives, fill_arrives}
use Rattle.ua_chunk.specs.Numbers.{number_after}
use Rattle.ua_chunk.specs.NumberLaws.{each_follows}
use Rattle.ua_chunk.specs.FrameLaws.{fill_parts}
use Rattle.ua_channel.specs.declared.token.Token.{Token}
use Rattle.ua_channel.specs.Token.{is_known, two_newest}
use Rattle.ua_channel.specs.Channel.{most}
use Rattle.ua_channel.specs.Admission.{follows_last}
use Rattle.ua_service.specs.declared.request.Request.{Request}
use Rattle.ua_service.specs.Requests.{IsRequest, canon_request}
use Rattle.ua_service.specs.ValueLaws.{request_read}
use Rattle.ua_conn.specs.Past.{Past, Agreed, agreed, known, is_open, tokens_by, tokens_in}
use Rattle.ua_conn.specs.server.Answers.{answer_body}
use Rattle.ua_conn.specs.server.Replies.{Answer as AnswerPart, numbered_after, answer_parts, is_over_limits, replies}
use Rattle.ua_conn.specs.server.Held.{newest_first}
use Rattle.ua_conn.specs.client.Asker.{hello_by}
use Rattle.ua_conn.specs.client.Commands.{Ask, Command, Commands, Asked, asked_in, opens_asked, next_id}
use Rattle.ua_conn.specs.client.Past.{client_known, granted_in}
use Rattle.ua_conn.specs.client.Pending.{bytes_in, is_among, ended_ids, opened_ids}
use Rattle.ua_conn.specs.client.Reading.{answers}
use Rattle.ua_conn.specs.BothEnds.{AllAfter, Served, served_by, expected, AnswersInOrder}
use Rattle.ua_conn.specs.Story.{Setup}
use Rattle.ua_conn.specs.declared.client.answer.Answer.{Answer}
use Rattle.ua_conn.proofs.ServerEnd.NumberLemmas.{numbered_append}
use Rattle.ua_conn.proofs.BothEnds.OnTheWayLemmas.{Sound, Accepts}
use Rattle.ua_conn.proofs.ClientEnd.FreshLemmas.{AreFresh, unlike}
use Rattle.ua_conn.proofs.BothEnds.SpokenAnswerLemmas.{answer_arrives, answer_aborted}
use Rattle.ua_conn.proofs.BothEnds.SpokenRequestLemmas.{at, IsSending, told, AreSpoken, last_moment}
use Rattle.ua_conn.proofs.BothEnds.SpokenTurnLemmas.{parts_within}
use Rattle.ua_conn.proofs.BothEnds.SpokenTableLemmas.{hears}
use Rattle.ua_conn.proofs.BothEnds.AnswerWalkLemmas.{expected_got}
use Rattle.ua_conn.proofs.ClientEnd.CommandLemmas.{answers_stay, new_wanted}
use Rattle.ua_conn.proofs.BothEnds.OrderLemmas.{order_join}
use Rattle.ua_conn.proofs.BothEnds.ServerWalkLemmas.{Took, request_took}
use Rattle.ua_conn.proofs.BothEnds.PlainForms.{IsPlain}

-- ---- tokens by their ids

abbrev pub ids_of : List Token → List ℕ
ids_of tokens = map (λ t. t.id) tokens

known_ids : (tokens : List Token) (id : ℕ) → is_known tokens id ≡ is_among (ids_of tokens) id
known_ids [] id = refl
known_ids (t ∷ tokens) id = by (t.id == id) (known_ids tokens id)
  where
    by : (b : Bool) → is_known tokens id ≡ is_among (ids_of tokens) id → is_some (cond b (Some t) (find (λ (t : Token). t.id == id) tokens)) ≡ (b || is_among (ids_of tokens) id)
    by true h = refl
    by false h = h

two_ids : (tokens : List Token) → ids_of (two_newest tokens) ≡ take 2 (ids_of tokens)
two_ids [] = refl
two_ids (t ∷ []) = refl
two_ids (t ∷ u ∷ tokens) = refl

-- tokens with the same ids are known alike
pub known_alike : (xs ys : List Token) (id : ℕ) → ids_of xs ≡ ids_of ys → is_known (two_newest xs) id ≡ is_known (two_newest ys) id
known_alike xs ys id e =
    known_ids (two_newest xs) id ∙ ap (λ l. is_among l id) (two_ids xs ∙ ap (take 2) e ∙ sym (two_ids ys)) ∙ sym (known_ids (two_newest ys) id)

or_right : (b : Bool) → (b || true) ≡ true
or_right true = refl
or_right false = refl

known_by : (opens : List Frame) (o : ℕ) → 1 ≤ o → o ≤ length opens → length opens ≤ o + 1 → is_known (two_newest (tokens_by opens)) o ≡ true
known_by [] o some low high = absurd (omega (arith, some, low))
known_by (f ∷ []) o some low high = known_ids (two_newest (tokens_by (f ∷ []))) o ∙ ap (λ b. b || false) (eq-eqb 1 o (omega (arith, some, low)))
known_by (f ∷ g ∷ opens) o some low high = by (length (g ∷ opens) + 1 == o) refl
  where
    by : (b : Bool) → (length (g ∷ opens) + 1 == o) ≡ b → is_known (two_newest (tokens_by (f ∷ g ∷ opens))) o ≡ true
    by true e = known_ids (two_newest (tokens_by (f ∷ g ∷ opens))) o ∙ ap (λ c. c || ((length opens + 1 == o) || false)) e
    by false e =
        let other : length opens + 1 ≡ o = omega (arith, low, high, differs) in
        known_ids (two_newest (tokens_by (f ∷ g ∷ opens))) o ∙ ap (λ c. (length (g ∷ opens) + 1 == o) || (c || false)) (eq-eqb (length opens + 1) o other) ∙ or_right (length (g ∷ opens) + 1 == o)
      where
        differs : length (g ∷ opens) + 1 ≡ o → ⊥
        differs same = (let clash : true ≡ false = sym (eq-eqb (length (g ∷ opens) + 1) o same) ∙ e in cc clash)

pub tokens_count : (opens : List Frame) → length (tokens_by opens) ≡ length opens
tokens_count [] = refl
tokens_count (f ∷ opens) = omega (arith, tokens_count opens)

-- the token with which the client sends is known to the server
pub names_known : (past : Past) (o n : ℕ) → length (tokens_in past) ≡ n → 1 ≤ o → o ≤ n → n ≤ o + 1 → is_known (two_newest (tokens_in past)) o ≡ true
names_known past o n many some low high =
    let opens = filter (λ f. is_open (kind_of f.bytes)) past in
    known_by opens o some (omega (arith, tokens_count opens, many, low)) (omega (arith, tokens_count opens, many, high))

pub some_two : (tokens : List Token) → 1 ≤ length tokens → 0 < length (two_newest tokens)
some_two [] h = absurd (omega (arith, h))
some_two (t ∷ []) h = omega arith
some_two (t ∷ u ∷ tokens) h = omega arith

pub ids_count : (xs ys : List Token) → ids_of xs ≡ ids_of ys → length xs ≡ length ys
ids_count xs ys e = sym (length-map xs (λ t. t.id)) ∙ ap length e ∙ length-map ys (λ t. t.id)

-- ---- what both ends hold

-- The server's past, and the client's with all replies in it. The client sends with token o, n were issued; so many numbered
-- frames were sent and said.
pub record Hold (s : Setup) (cmds : Commands) (o n sent said : ℕ) (there here : Past) : Type 0 where
  pub last : Option ℕ
  pub used : Option ℕ
  pub last_here : Option ℕ
  pub known_is : known s.site there ≡ at (agreed s.site (hello_by s.asker)) (two_newest (tokens_in there)) last None used
  pub next : follows_last last (number_after s.asker.first_sequence sent) ≡ true
  pub many : length (tokens_in there) ≡ n
  pub within : IfSome used (λ u. u ≤ o)
  pub said_is : numbered_after 0 (replies s.site there) ≡ said
  pub hears_is : client_known here ≡ hears (agreed s.site (hello_by s.asker)).ack s.site.channel (two_newest (granted_in here)) last_here None
  pub next_here : follows_last last_here (number_after 1 said) ≡ true
  pub tokens : ids_of (granted_in here) ≡ ids_of (tokens_in there)
  pub none_due : filter (λ r. not (is_among (opened_ids here) r.id)) (opens_asked cmds) ≡ []
  pub fresh : AreFresh (next_id cmds) here
  pub answers_are : AnswersInOrder s (asked_in cmds) (served_by s.site there) (answers cmds here)
  pub many_served : length (served_by s.site there) ≡ length (asked_in cmds)
  pub many_answers : length (answers cmds here) ≡ length (asked_in cmds)

-- what one more command brings: frames qs to the server, and ns to the client
pub record Keeps (s : Setup) (cmds : Commands) (o n sent said : ℕ) (there here : Past) (qs ns : List Frame) : Type 0 where
  pub sound : AllAfter (Sound s.site) there qs
  pub taken : AllAfter (Accepts s.asker cmds) here ns
  pub holds : Hold s cmds o n sent said (newest_first qs there) (newest_first ns here)

-- ---- lemmas

pub most_is : (used : Option ℕ) (o : ℕ) → IfSome used (λ u. u ≤ o) → most used o ≡ o
most_is None o h = refl
most_is (Some u) o h = omega (arith, h)

pub arrives_some : (m c id : ℕ) (body : List ℕ) (half : Option Half) (parts : List Part) → Arrives m c id body half parts → 1 ≤ length parts
arrives_some m c id body half [] h = absurd h
arrives_some m c id body half (p ∷ parts) h = omega arith

-- an answer has at least one frame
pub replied_some : (a : Agreed) (id : ℕ) (body : List ℕ) → 1 ≤ a.answer_bytes → 1 ≤ a.answer_parts → 25 ≤ a.ack.send → 1 ≤ length (answer_parts a id body)
replied_some a id body bytes parts send = by (is_over_limits a body) refl
  where
    by : (b : Bool) → is_over_limits a body ≡ b → 1 ≤ length (answer_parts a id body)
    by true e = omega (arith, ap length (answer_aborted a id body e))
    by false e = arrives_some a.answer_bytes a.answer_parts id body None (answer_parts a id body) (answer_arrives a id body e bytes parts send)

numbered_parts : (n token : ℕ) (parts : List Part) → numbered_after n (map (AnswerPart token) parts) ≡ n + length parts
numbered_parts n token [] = omega arith
numbered_parts n token (p ∷ parts) = numbered_parts (n + 1) token parts ∙ omega arith

-- the next id is answered, and those behind it are fresh
fresh_ended : (n m : ℕ) (here after : Past) → n + 1 ≤ m → AreFresh n here → ended_ids after ≡ n ∷ ended_ids here → opened_ids after ≡ opened_ids here → AreFresh m after
fresh_ended n m here after lt h ended opened = record {
  ended = λ id le. (ap (λ l. is_among l id) ended ∙ ap (λ b. b || is_among (ended_ids here) id) (unlike n id (omega (arith, lt, le))) ∙ h.ended id (omega (arith, lt, le)));
  opened = λ id le. (ap (λ l. is_among l id) opened ∙ h.opened id (omega (arith, lt, le)));
}

-- ---- a request

-- what an accepted request meets
pub record Fits (s : Setup) (cmds : Commands) (request : Request) (part : ℕ) : Type 0 where
  pub value : IsRequest request
  pub some : 1 ≤ part
  pub room : 24 + part ≤ (agreed s.site (hello_by s.asker)).ack.receive
  pub small : length (canon_request request) ≤ s.site.settings.limits.max_message
  pub few : part_count (length (canon_request request)) part ≤ s.site.settings.limits.max_chunks
  pub unspent : next_id cmds < 2 ^ 32

-- what a server makes of its frames
pub ask_took : (s : Setup) (cmds : Commands) (request : Request) (part o n sent said : ℕ) (there here : Past) (qs : List Frame)
    → IsPlain s → Fits s cmds request part → 1 ≤ o → o ≤ n → n ≤ o + 1 → o < 2 ^ 32 → (hold : Hold s cmds o n sent said there here)
    → (let a = agreed s.site (hello_by s.asker) in let id = next_id cmds in let parts = fill id (canon_request request) part in
    AreSpoken qs (told s.site.channel o s.asker.first_sequence sent parts)
    → Took s.site there qs (at a (two_newest (tokens_in there)) (Some (number_after s.asker.first_sequence (sent + length parts - 1))) None (Some (most hold.used o)))
    (map (AnswerPart (most hold.used o)) (answer_parts a id (answer_body s.site.settings request (last_moment qs)))) (record { request = request; moment = last_moment qs } ∷ []) (tokens_in there))
ask_took s cmds request part o n sent said there here qs h fit some low high short hold asked =
    let a = agreed s.site (hello_by s.asker) in
    let id = next_id cmds in
    let parts = fill id (canon_request request) part in
    let limits = s.site.settings.limits in
    let bounds = h.site.settings.bounds.limits in
    let tokens = two_newest (tokens_in there) in
    let sending : IsSending s.site a tokens o id =
    record { channel = h.site.channel_most; token = short; id = fit.unspent; tokens = some_two (tokens_in there) (omega (arith, hold.many, some, low)); receive = omega (arith, bounds.receive_most) } in
    request_took s.site there a tokens hold.last None hold.used o id s.asker.first_sequence sent (canon_request request) request parts qs (tokens_in there) hold.known_is refl (names_known there o n hold.many some low high) sending h.asker.first_least asked
    (parts_within id part a.ack.receive parts fit.room (fill_parts id part (canon_request request))) hold.next (fill_arrives limits.max_message limits.max_chunks id part (canon_request request) fit.some fit.small fit.few) (request_read request fit.value)

-- its frames, and those of its answer, as told
pub ask_keeps : (s : Setup) (cmds : Commands) (request : Request) (part now seen o n sent said : ℕ) (there here : Past) (qs ns : List Frame)
    → IsPlain s → Fits s cmds request part → 1 ≤ o → o ≤ n → n ≤ o + 1 → o < 2 ^ 32 → seen ≤ bytes_in here → last_moment qs < 2 ^ 63 → Hold s cmds o n sent said there here
    → (let id = next_id cmds in let parts = fill id (canon_request request) part in let replied = answer_parts (agreed s.site (hello_by s.asker)) id (answer_body s.site.settings request (last_moment qs)) in
    AreSpoken qs (told s.site.channel o s.asker.first_sequence sent parts) → AreSpoken ns (told s.site.channel o 1 said replied)
    → Keeps s (record { act = Ask request part; moment = now; seen = seen } ∷ cmds) o n (sent + length parts) (said + length replied) there here qs ns)
ask_keeps s cmds request part now seen o n sent said there here qs ns h fit some low high short le clock hold asked spoken =
    let a = agreed s.site (hello_by s.asker) in
    let id = next_id cmds in
    let c : Command = record { act = Ask request part; moment = now; seen = seen } in
    let parts = fill id (canon_request request) part in
    let limits = s.site.settings.limits in
    let bounds = h.site.settings.bounds.limits in
    let replied = answer_parts a id (answer_body s.site.settings request (last_moment qs)) in
    let any = replied_some a id (answer_body s.site.settings request (last_moment qs)) h.asker.config.message_least h.asker.config.chunks_least (omega (arith, bounds.send_least, h.asker.config.buffer_least)) in
    let tokens = two_newest (tokens_in there) in
    let tokens_here = two_newest (granted_in here) in
    let known_there = names_known there o n hold.many some low high in
    let known_here = known_alike (granted_in here) (tokens_in there) o hold.tokens ∙ known_there in
    let arrives = fill_arrives limits.max_message limits.max_chunks id part (canon_request request) fit.some fit.small fit.few in
    let greatest = most_is hold.used o hold.within in
    let took = ask_took s cmds request part o n sent said there here qs h fit some low high short hold asked in
    let got = expected_got s (c ∷ cmds) here tokens_here hold.last_here request (last_moment qs) o id said ns (bytes_in here) (ended_ids here) (opened_ids here) (granted_in here) h fit.value clock short fit.unspent
    (some_two (granted_in here) (omega (arith, ids_count (granted_in here) (tokens_in there) hold.tokens, hold.many, some, low))) known_here hold.next_here spoken
    (record { known = hold.hears_is; ended = refl; opened = refl; granted = refl }) (omega arith) (new_wanted cmds request part now seen (bytes_in here) (ended_ids here) (hold.fresh.ended id (omega arith)) le) in
    let whole = arrives_some limits.max_message limits.max_chunks id (canon_request request) None parts arrives in
    let item : Answer = record { id = id; request = request; result = expected s request (last_moment qs) } in
    let answered : answers (c ∷ cmds) (newest_first ns here) ≡ answers cmds here ++ item ∷ [] = got.answered ∙ ap (λ l. l ++ item ∷ []) (answers_stay c cmds here (hold.fresh.ended id (omega arith))) in
    let question : Asked = record { id = id; request = request; seen = seen } in
    let serving : Served = record { request = request; moment = last_moment qs } in
    record {
      sound = took.sound;
      taken = got.taken;
      holds = record {
        last = Some (number_after s.asker.first_sequence (sent + length parts - 1));
        used = Some (most hold.used o);
        last_here = Some (number_after 1 (said + length replied - 1));
        known_is = took.known_is ∙ ap (λ ts. at a (two_newest ts) (Some (number_after s.asker.first_sequence (sent + length parts - 1))) None (Some (most hold.used o))) (sym took.issued);
        next = subst (λ m. follows_last (Some (number_after s.asker.first_sequence (sent + length parts - 1))) (number_after s.asker.first_sequence m) ≡ true) (omega (arith, whole)) (each_follows s.asker.first_sequence (sent + length parts - 1) h.asker.first_least);
        many = ap length took.issued ∙ hold.many;
        within = omega (arith, greatest);
        said_is = ap (numbered_after 0) took.says ∙ numbered_append 0 (replies s.site there) (map (AnswerPart (most hold.used o)) replied) ∙ numbered_parts (numbered_after 0 (replies s.site there)) (most hold.used o) replied
            ∙ ap (λ m. m + length replied) hold.said_is;
        hears_is = got.stands.known ∙ ap (λ ts. hears a.ack s.site.channel (two_newest ts) (Some (number_after 1 (said + length replied - 1))) None) (sym got.stands.granted);
        next_here = subst (λ m. follows_last (Some (number_after 1 (said + length replied - 1))) (number_after 1 m) ≡ true) (omega (arith, any)) (each_follows 1 (said + length replied - 1) (omega arith));
        tokens = ap ids_of got.stands.granted ∙ hold.tokens ∙ ap ids_of (sym took.issued);
        none_due = (λ i. filter (λ r. not (is_among (got.stands.opened i) r.id)) (append-nil (opens_asked cmds) i)) ∙ hold.none_due;
        fresh = fresh_ended id (next_id (c ∷ cmds)) here (newest_first ns here) (omega arith) hold.fresh got.stands.ended got.stands.opened;
        answers_are = subst (λ zs. AnswersInOrder s (asked_in cmds ++ question ∷ []) (served_by s.site (newest_first qs there)) zs) (sym answered)
            (subst (λ vs. AnswersInOrder s (asked_in cmds ++ question ∷ []) vs (answers cmds here ++ item ∷ [])) (sym took.serves)
            (order_join s (asked_in cmds) (served_by s.site there) (answers cmds here) (question ∷ []) (serving ∷ []) (item ∷ []) hold.many_served hold.many_answers hold.answers_are
            (record { id = refl; request = refl; handed = refl; result = refl }, tt)));
        many_served = ap length took.serves ∙ omega (arith, length-append (served_by s.site there) (serving ∷ []), length-append (asked_in cmds) (question ∷ []), hold.many_served);
        many_answers = ap length answered ∙ omega (arith, length-append (answers cmds here) (item ∷ []), length-append (asked_in cmds) (question ∷ []), hold.many_answers);
      };
    }
