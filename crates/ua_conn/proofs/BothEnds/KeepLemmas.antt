-- How a renewal and a close keep what both ends hold, and what they hold once the channel is open.
use Rattle.std.proofs.Common.{◌≡◌, ℕ, ◌+◌, ◌<◌, ◌≤◌, ◌^◌, Bool, true, false, cond, not, ◌||◌, List, [], ◌∷◌, ◌++◌, length, Some, None, refl, sym, ap, subst, ◌∙◌, arith, lit<}
use Rattle.std.specs.Prelude.{◌==◌, pos}
use Rattle.std.specs.List.{filter}
use Rattle.std.proofs.lemmas.Bool.{eq-eqb}
use Rattle.std.proofs.lemmas.List.{append-nil}
use Rattle.std.proofs.lemmas.List.Elements.{filter-append}
use Rattle.ua_frame.specs.Layout.{Frame, kind_of}
use Rattle.ua_chunk.specs.Numbers.{number_after}
use Rattle.ua_chunk.specs.NumberLaws.{each_follows}
use Rattle.ua_chunk.specs.FrameLaws.{number_fits}
use Rattle.ua_channel.specs.Token.{newest_id, next_token, two_newest}
use Rattle.ua_channel.specs.Admission.{awaited_channel, awaited_type}
use Rattle.ua_channel.specs.Channel.{most}
use Rattle.ua_service.specs.Channel.{open_request_at, close_request_at}
use Rattle.ua_service.specs.ValueLaws.{open_request_read, open_request_length, close_request_read, close_request_length}
use Rattle.ua_conn.specs.server.Site.{Site}
use Rattle.ua_conn.specs.Past.{Past, agreed, is_open, tokens_in}
use Rattle.ua_conn.specs.server.Answers.{opened_body}
use Rattle.ua_conn.specs.server.Faults.{channel_of}
use Rattle.ua_conn.specs.server.Replies.{Opened, numbered_after, replies}
use Rattle.ua_conn.specs.client.Asker.{hello_by}
use Rattle.ua_conn.specs.client.Commands.{Renew, Close, Command, Commands, OpenAsked, asked_in, opens_asked, next_id}
use Rattle.ua_conn.specs.client.Past.{granted_in}
use Rattle.ua_conn.specs.client.Pending.{bytes_in, is_among, ended_ids, opened_ids}
use Rattle.ua_conn.specs.client.Reading.{answers}
use Rattle.ua_conn.specs.BothEnds.{served_by, AnswersInOrder}
use Rattle.ua_conn.specs.Story.{Setup}
use Rattle.ua_conn.proofs.ServerEnd.NumberLemmas.{numbered_append}
use Rattle.ua_conn.proofs.ServerEnd.KnownLemmas.{newest, take_twice}
use Rattle.ua_conn.proofs.ClientEnd.FreshLemmas.{unlike}
use Rattle.ua_conn.proofs.BothEnds.SpokenLemmas.{Opens, Closes, spell, is_read}
use Rattle.ua_conn.proofs.BothEnds.SpokenAnswerLemmas.{revised_fits}
use Rattle.ua_conn.proofs.BothEnds.SpokenRequestLemmas.{at, some_tokens, IsSending}
use Rattle.ua_conn.proofs.BothEnds.SpokenTurnLemmas.{open_taken}
use Rattle.ua_conn.proofs.BothEnds.SpokenSessionLemmas.{open_body, close_body}
use Rattle.ua_conn.proofs.BothEnds.SpokenTableLemmas.{hears}
use Rattle.ua_conn.proofs.BothEnds.OpeningWalkLemmas.{token_here, renewal_got}
use Rattle.ua_conn.proofs.ClientEnd.CommandLemmas.{answers_stay, new_due}
use Rattle.ua_conn.proofs.BothEnds.ServerWalkLemmas.{Took, taken_took, open_any, more_tokens, close_took}
use Rattle.ua_conn.proofs.BothEnds.HoldLemmas.{ids_of, some_two, names_known, most_is, Hold, Keeps, tokens_count}
use Rattle.ua_conn.proofs.BothEnds.PlainForms.{IsPlain}

-- ---- open requests that are answered

-- an answer more leaves none due
less_due : (id : ℕ) (ids : List ℕ) (xs : List OpenAsked) → filter (λ r. not (is_among ids r.id)) xs ≡ [] → filter (λ r. not (is_among (id ∷ ids) r.id)) xs ≡ []
less_due id ids [] h = refl
less_due id ids (x ∷ xs) h = by (is_among ids x.id) refl h (less_due id ids xs)
  where
    either : (b : Bool) → not (b || true) ≡ false
    either true = refl
    either false = refl

    by : (b : Bool) → is_among ids x.id ≡ b → cond (not b) (x ∷ filter (λ r. not (is_among ids r.id)) xs) (filter (λ r. not (is_among ids r.id)) xs) ≡ []
        → (filter (λ r. not (is_among ids r.id)) xs ≡ [] → filter (λ r. not (is_among (id ∷ ids) r.id)) xs ≡ []) → filter (λ r. not (is_among (id ∷ ids) r.id)) (x ∷ xs) ≡ []
    by true e k rest =
        ap (λ b. cond (not ((id == x.id) || b)) (x ∷ filter (λ r. not (is_among (id ∷ ids) r.id)) xs) (filter (λ r. not (is_among (id ∷ ids) r.id)) xs)) e
        ∙ ap (λ b. cond b (x ∷ filter (λ r. not (is_among (id ∷ ids) r.id)) xs) (filter (λ r. not (is_among (id ∷ ids) r.id)) xs)) (either (id == x.id)) ∙ rest k
    by false e k rest = absurd (cc k)

last_due : (id seen : ℕ) (ids : List ℕ) → filter (λ (r : OpenAsked). not (is_among (id ∷ ids) r.id)) (record { id = id; seen = seen } ∷ []) ≡ []
last_due id seen ids = ap (λ b. cond (not (b || is_among ids id)) (record { id = id; seen = seen } ∷ []) []) (eq-eqb id id refl)

-- ---- a renewal

newest_counted : (site : Site) (past : Past) (n : ℕ) → length (tokens_in past) ≡ n → newest_id (two_newest (tokens_in past)) ≡ n
newest_counted site past n many =
    let opens = filter (λ f. is_open (kind_of f.bytes)) past in
    newest site opens ∙ omega (arith, tokens_count opens, many)

-- what a server makes of it
pub renew_took : (s : Setup) (cmds : Commands) (now o n sent said : ℕ) (there here : Past) (q : Frame) → IsPlain s → 1 ≤ n → n + 1 < 2 ^ 32 → next_id cmds < 2 ^ 32 → now < 2 ^ 63 → (hold : Hold s cmds o n sent said there here)
    → (let a = agreed s.site (hello_by s.asker) in let id = next_id cmds in let tokens = two_newest (tokens_in there) in let token = next_token tokens q.moment s.asker.config.lifetime in
    let number = number_after s.asker.first_sequence sent in
    q.bytes ≡ spell (Opens s.site.channel number id (open_body now id 1 s.asker.config.lifetime))
    → Took s.site there (q ∷ []) (at a (two_newest (token ∷ tokens)) (Some number) None hold.used) (Opened id (opened_body id q.moment s.site.channel token) ∷ []) [] (token ∷ tokens_in there))
renew_took s cmds now o n sent said there here q h some few unspent clock hold asked =
    let a = agreed s.site (hello_by s.asker) in
    let id = next_id cmds in
    let lifetime = s.asker.config.lifetime in
    let bounds = h.site.settings.bounds.limits in
    let tokens = two_newest (tokens_in there) in
    let token = next_token tokens q.moment lifetime in
    let number = number_after s.asker.first_sequence sent in
    let body = open_body now id 1 lifetime in
    let request = open_request_at now id 1 lifetime in
    let short = open_request_length now id 1 lifetime in
    let there_some = some_two (tokens_in there) (omega (arith, hold.many, some)) in
    let own : s.site.channel ≡ awaited_channel (channel_of s.site (at a tokens hold.last None hold.used)) = sym (ap (λ b. cond b 0 s.site.channel) (some_tokens tokens there_some)) in
    let type : request.request_type ≡ pos (awaited_type (channel_of s.site (at a tokens hold.last None hold.used))) = sym (ap (λ b. pos (cond b 0 1)) (some_tokens tokens there_some)) in
    let reads = open_request_read now id 1 lifetime clock unspent (lit< tt) h.asker.config.lifetime in
    let one = open_taken s.site a tokens hold.last hold.used s.site.channel number id body request q asked own (omega (arith, short)) (omega (arith, bounds.receive_least, h.asker.config.buffer_least))
    h.site.channel_most (number_fits s.asker.first_sequence sent) unspent hold.next (omega (arith, newest_counted s.site there n hold.many, few)) reads type refl in
    let read = is_read q (Opens s.site.channel number id body) asked (omega (arith, short)) (h.site.channel_most, number_fits s.asker.first_sequence sent, unspent) in
    taken_took s.site there q (at a tokens hold.last None hold.used) _ _ [] (token ∷ tokens_in there) hold.known_is one (open_any s.site (at a tokens hold.last None hold.used) q _ read.kind one.goes.0)
    (more_tokens s.site q there s.site.channel number id body request read reads)

pub renew_keeps : (s : Setup) (cmds : Commands) (now seen o n sent said : ℕ) (there here : Past) (q x : Frame)
    → IsPlain s → 1 ≤ n → n + 1 < 2 ^ 32 → next_id cmds < 2 ^ 32 → now < 2 ^ 63 → q.moment < 2 ^ 63 → seen ≤ bytes_in here → Hold s cmds o n sent said there here
    → (let id = next_id cmds in let token = next_token (two_newest (tokens_in there)) q.moment s.asker.config.lifetime in
    q.bytes ≡ spell (Opens s.site.channel (number_after s.asker.first_sequence sent) id (open_body now id 1 s.asker.config.lifetime))
    → x.bytes ≡ spell (Opens s.site.channel (number_after 1 said) id (opened_body id q.moment s.site.channel token))
    → Keeps s (record { act = Renew; moment = now; seen = seen } ∷ cmds) o (n + 1) (sent + 1) (said + 1) there here (q ∷ []) (x ∷ []))
renew_keeps s cmds now seen o n sent said there here q x h some few unspent clock moment le hold asked opened =
    let a = agreed s.site (hello_by s.asker) in
    let id = next_id cmds in
    let lifetime = s.asker.config.lifetime in
    let c : Command = record { act = Renew; moment = now; seen = seen } in
    let tokens = two_newest (tokens_in there) in
    let token = next_token tokens q.moment lifetime in
    let newest_is = newest_counted s.site there n hold.many in
    let took = renew_took s cmds now o n sent said there here q h some few unspent clock hold asked in
    let number = number_after s.asker.first_sequence sent in
    let got = renewal_got s (c ∷ cmds) here (two_newest (granted_in here)) hold.last_here q.moment (number_after 1 said) id token x (bytes_in here) (ended_ids here) (opened_ids here) (granted_in here)
    h moment (number_fits 1 said) unspent (omega (arith, newest_is, few)) (omega (arith, revised_fits lifetime)) hold.next_here opened
    (record { known = hold.hears_is; ended = refl; opened = refl; granted = refl }) (omega arith) (new_due cmds now seen (bytes_in here) (opened_ids here) hold.none_due (hold.fresh.opened id (omega arith)) le) in
    let mine = token_here token x.moment in
    let answered : answers (c ∷ cmds) (x ∷ here) ≡ answers cmds here = got.answered ∙ append-nil (answers (c ∷ cmds) here) ∙ answers_stay c cmds here (hold.fresh.ended id (omega arith)) in
    let served : served_by s.site (q ∷ there) ≡ served_by s.site there = took.serves ∙ append-nil (served_by s.site there) in
    let same = append-nil (asked_in cmds) in
    record {
      sound = took.sound;
      taken = got.taken;
      holds = record {
        last = Some number;
        used = hold.used;
        last_here = Some (number_after 1 said);
        known_is = took.known_is ∙ ap (λ ts. at a ts (Some number) None hold.used) (take_twice token (tokens_in there) ∙ ap two_newest (sym took.issued));
        next = each_follows s.asker.first_sequence sent h.asker.first_least;
        many = ap length took.issued ∙ omega (arith, hold.many);
        within = hold.within;
        said_is = ap (numbered_after 0) took.says ∙ numbered_append 0 (replies s.site there) (Opened id (opened_body id q.moment s.site.channel token) ∷ []) ∙ ap (λ m. m + 1) hold.said_is;
        hears_is = got.stands.known ∙ ap (λ ts. hears a.ack s.site.channel ts (Some (number_after 1 said)) None) (take_twice mine (granted_in here) ∙ ap two_newest (sym got.stands.granted));
        next_here = each_follows 1 said (omega arith);
        tokens = ap ids_of got.stands.granted ∙ ap (λ l. token.id ∷ l) hold.tokens ∙ ap ids_of (sym took.issued);
        none_due = (λ i. filter (λ r. not (is_among (got.stands.opened i) r.id)) (opens_asked (c ∷ cmds)))
            ∙ filter-append (λ r. not (is_among (id ∷ opened_ids here) r.id)) (opens_asked cmds) (record { id = id; seen = seen } ∷ [])
            ∙ (λ i. less_due id (opened_ids here) (opens_asked cmds) hold.none_due i ++ last_due id seen (opened_ids here) i);
        fresh = record {
          ended = λ m later. (ap (λ l. is_among l m) got.stands.ended ∙ hold.fresh.ended m (omega (arith, later)));
          opened = λ m later. (ap (λ l. is_among l m) got.stands.opened ∙ ap (λ b. b || is_among (opened_ids here) m) (unlike id m (omega (arith, later))) ∙ hold.fresh.opened m (omega (arith, later)));
        };
        answers_are = subst (λ zs. AnswersInOrder s (asked_in cmds ++ []) (served_by s.site (q ∷ there)) zs) (sym answered)
            (subst (λ vs. AnswersInOrder s (asked_in cmds ++ []) vs (answers cmds here)) (sym served) (subst (λ ls. AnswersInOrder s ls (served_by s.site there) (answers cmds here)) (sym same) hold.answers_are));
        many_served = ap length served ∙ hold.many_served ∙ ap length (sym same);
        many_answers = ap length answered ∙ hold.many_answers ∙ ap length (sym same);
      };
    }

-- ---- a close

pub close_keeps : (s : Setup) (cmds : Commands) (now seen o n sent said : ℕ) (there here : Past) (q : Frame)
    → IsPlain s → 1 ≤ o → o ≤ n → n ≤ o + 1 → o < 2 ^ 32 → next_id cmds < 2 ^ 32 → now < 2 ^ 63 → Hold s cmds o n sent said there here
    → q.bytes ≡ spell (Closes s.site.channel o (number_after s.asker.first_sequence sent) (next_id cmds) (close_body now (next_id cmds)))
    → Keeps s (record { act = Close; moment = now; seen = seen } ∷ cmds) o n (sent + 1) said there here (q ∷ []) []
close_keeps s cmds now seen o n sent said there here q h some low high short unspent clock hold asked =
    let a = agreed s.site (hello_by s.asker) in
    let id = next_id cmds in
    let c : Command = record { act = Close; moment = now; seen = seen } in
    let bounds = h.site.settings.bounds.limits in
    let tokens = two_newest (tokens_in there) in
    let number = number_after s.asker.first_sequence sent in
    let greatest = most_is hold.used o hold.within in
    let sending : IsSending s.site a tokens o id =
    record { channel = h.site.channel_most; token = short; id = unspent; tokens = some_two (tokens_in there) (omega (arith, hold.many, some, low)); receive = omega (arith, bounds.receive_most) } in
    let took = close_took s.site there a tokens hold.last hold.used o number id (close_body now id) (close_request_at now id) q (tokens_in there) hold.known_is refl (names_known there o n hold.many some low high) sending asked
    (number_fits s.asker.first_sequence sent) (omega (arith, close_request_length now id, bounds.receive_least, h.asker.config.buffer_least)) hold.next (close_request_read now id clock unspent) in
    let answered = answers_stay c cmds here (hold.fresh.ended id (omega arith)) in
    let served : served_by s.site (q ∷ there) ≡ served_by s.site there = took.serves ∙ append-nil (served_by s.site there) in
    let same = append-nil (asked_in cmds) in
    record {
      sound = took.sound;
      taken = tt;
      holds = record {
        last = Some number;
        used = Some (most hold.used o);
        last_here = hold.last_here;
        known_is = took.known_is ∙ ap (λ ts. at a (two_newest ts) (Some number) None (Some (most hold.used o))) (sym took.issued);
        next = each_follows s.asker.first_sequence sent h.asker.first_least;
        many = ap length took.issued ∙ hold.many;
        within = omega (arith, greatest);
        said_is = ap (numbered_after 0) (took.says ∙ append-nil (replies s.site there)) ∙ hold.said_is;
        hears_is = hold.hears_is;
        next_here = hold.next_here;
        tokens = hold.tokens ∙ ap ids_of (sym took.issued);
        none_due = ap (filter (λ r. not (is_among (opened_ids here) r.id))) (append-nil (opens_asked cmds)) ∙ hold.none_due;
        fresh = record { ended = λ m later. hold.fresh.ended m (omega (arith, later)); opened = λ m later. hold.fresh.opened m (omega (arith, later)) };
        answers_are = subst (λ zs. AnswersInOrder s (asked_in cmds ++ []) (served_by s.site (q ∷ there)) zs) (sym answered)
            (subst (λ vs. AnswersInOrder s (asked_in cmds ++ []) vs (answers cmds here)) (sym served) (subst (λ ls. AnswersInOrder s ls (served_by s.site there) (answers cmds here)) (sym same) hold.answers_are));
        many_served = ap length served ∙ hold.many_served ∙ ap length (sym same);
        many_answers = ap length answered ∙ hold.many_answers ∙ ap length (sym same);
      };
    }
