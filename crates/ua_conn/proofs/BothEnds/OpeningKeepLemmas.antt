-- What both ends hold once the Hello and the first open request came, and their answers; and the frames of commands, as told.
use Rattle.std.proofs.Common.{◌≡◌, ℕ, ◌+◌, ◌<◌, ◌^◌, false, not, ◌||◌, List, [], ◌∷◌, map, length, Some, None, refl, sym, ap, subst, ◌∙◌, arith, lit<}
use Rattle.std.specs.List.{filter}
use Rattle.ua_frame.specs.Layout.{Frame}
use Rattle.ua_frame.specs.Hello.{negotiated}
use Rattle.ua_chunk.specs.Cut.{Part}
use Rattle.ua_chunk.specs.Numbers.{number_after}
use Rattle.ua_chunk.specs.NumberLaws.{each_follows}
use Rattle.ua_chunk.specs.FrameLaws.{number_fits}
use Rattle.ua_channel.specs.Token.{next_token, two_newest}
use Rattle.ua_service.specs.Channel.{open_request_at}
use Rattle.ua_service.specs.ValueLaws.{open_request_read, open_request_length}
use Rattle.ua_conn.specs.server.Site.{Site}
use Rattle.ua_conn.specs.Past.{agreed, is_open}
use Rattle.ua_conn.specs.server.Answers.{opened_body}
use Rattle.ua_conn.specs.server.Replies.{Reply, more_numbered, Acknowledge, Opened, numbered_after}
use Rattle.ua_conn.specs.client.Asker.{Asker, hello_by}
use Rattle.ua_conn.specs.client.Commands.{opens_asked}
use Rattle.ua_conn.specs.client.Pending.{is_among}
use Rattle.ua_conn.specs.client.Questions.{open_asked_body, close_asked_body}
use Rattle.ua_conn.specs.client.Sending.{Sent, Asking, more_sent}
use Rattle.ua_conn.specs.BothEnds.{IsAsker, served_by, AnswersInOrder}
use Rattle.ua_conn.specs.Story.{Setup}
use Rattle.ua_conn.proofs.ClientEnd.FreshLemmas.{unlike}
use Rattle.ua_conn.proofs.BothEnds.SpokenLemmas.{Spoken, Greets, Acknowledges, Opens, Tells, spell, is_read, spelled_list}
use Rattle.ua_conn.proofs.BothEnds.SpokenAnswerLemmas.{revised_fits}
use Rattle.ua_conn.proofs.BothEnds.SpokenRequestLemmas.{at, told, AreSpoken}
use Rattle.ua_conn.proofs.BothEnds.SpokenTurnLemmas.{nothing, nothing_known, hello_taken, open_taken}
use Rattle.ua_conn.proofs.BothEnds.SpokenSessionLemmas.{IsClient, hello_value, open_body, close_body}
use Rattle.ua_conn.proofs.BothEnds.StoryLemmas.{all_spoken, sent_spelled}
use Rattle.ua_conn.proofs.BothEnds.SpokenReplyLemmas.{reply_spelled, replies_spoken}
use Rattle.ua_conn.proofs.BothEnds.OnTheWayLemmas.{frames_sent, frames_replied, Are}
use Rattle.ua_conn.proofs.BothEnds.SpokenTableLemmas.{hears}
use Rattle.ua_conn.proofs.BothEnds.OpeningWalkLemmas.{opening_got}
use Rattle.ua_conn.proofs.BothEnds.ServerWalkLemmas.{taken_took, took_more, hello_any, open_any, same_tokens, more_tokens}
use Rattle.ua_conn.proofs.BothEnds.HoldLemmas.{ids_of, Keeps}
use Rattle.ua_conn.proofs.BothEnds.PlainForms.{IsPlain}

-- a client that is asked for is one that the server's walk takes
pub client_of : (a : Asker) → IsAsker a → a.reverse ≡ false → IsClient a.config.buffer a.config.max_message a.config.max_chunks a.config.lifetime a.first_sequence a.url
client_of a h plain = record {
  least = h.config.buffer_least;
  most = h.config.buffer_most;
  message_least = h.config.message_least;
  message_most = omega (arith, h.config.message_most);
  chunks_least = h.config.chunks_least;
  chunks_most = omega (arith, h.config.chunks_most);
  lifetime_fits = h.config.lifetime;
  first_some = h.first_least;
  url_short = h.url plain;
  url_text = h.text;
}

-- ---- the opening

pub opening_keeps : (s : Setup) (o now : ℕ) (f g x y : Frame) → IsPlain s → now < 2 ^ 63 → g.moment < 2 ^ 63
    → (let lifetime = s.asker.config.lifetime in
    f.bytes ≡ spell (Greets (hello_by s.asker)) → g.bytes ≡ spell (Opens 0 (number_after s.asker.first_sequence 0) 1 (open_body now 1 0 lifetime))
    → x.bytes ≡ spell (Acknowledges (negotiated s.site.settings.limits (hello_by s.asker))) → y.bytes ≡ spell (Opens s.site.channel (number_after 1 0) 1 (opened_body 1 g.moment s.site.channel (next_token [] g.moment lifetime)))
    → Keeps s [] o 1 1 1 [] [] (f ∷ g ∷ []) (x ∷ y ∷ []))
opening_keeps s o now f g x y h clock moment e d p q =
    let hello = hello_by s.asker in
    let a = agreed s.site hello in
    let config = s.asker.config in
    let lifetime = config.lifetime in
    let first = s.asker.first_sequence in
    let bounds = h.site.settings.bounds.limits in
    let client = client_of s.asker h.asker h.plain in
    let value = hello_value config.buffer config.max_message config.max_chunks lifetime first s.asker.url client in
    let token = next_token [] g.moment lifetime in
    let number = number_after first 0 in
    let body = open_body now 1 0 lifetime in
    let request = open_request_at now 1 0 lifetime in
    let short = open_request_length now 1 0 lifetime in
    let reads = open_request_read now 1 0 lifetime clock (lit< tt) (lit< tt) h.asker.config.lifetime in
    let read_f = is_read f (Greets hello) e (h.asker.url h.plain) value in
    let read_g = is_read g (Opens 0 number 1 body) d (omega (arith, short)) (lit< tt, number_fits first 0, lit< tt) in
    let greeted = hello_taken s.site hello f e value (h.asker.url h.plain) h.asker.config.buffer_least h.asker.config.buffer_least in
    let opens = open_taken s.site a [] None None 0 number 1 body request g d refl (omega (arith, short)) (omega (arith, bounds.receive_least, h.asker.config.buffer_least))
    (lit< tt) (number_fits first 0) (lit< tt) refl (lit< tt) reads refl refl in
    let one = taken_took s.site [] f nothing (at a [] None None None) (Acknowledge a.ack ∷ []) [] [] (nothing_known s.site) greeted (hello_any s.site nothing f _ read_f.kind greeted.goes.0) (same_tokens f [] (ap is_open read_f.kind)) in
    let two = taken_took s.site (f ∷ []) g (at a [] None None None) (at a (token ∷ []) (Some number) None None) (Opened 1 (opened_body 1 g.moment s.site.channel token) ∷ []) [] (token ∷ []) one.known_is opens
    (open_any s.site (at a [] None None None) g _ read_g.kind opens.goes.0)
    (more_tokens s.site g (f ∷ []) 0 number 1 body request read_g reads ∙ ap (λ ts. next_token (two_newest ts) g.moment lifetime ∷ ts) one.issued) in
    let took = took_more s.site [] f (g ∷ []) _ _ _ _ _ _ _ _ one two in
    let got = opening_got s [] g.moment token x y h moment (lit< tt) (omega (arith, revised_fits lifetime)) p q in
    record {
      sound = took.sound;
      taken = got.taken;
      holds = record {
        last = Some number;
        used = None;
        last_here = Some (number_after 1 0);
        known_is = took.known_is ∙ ap (λ ts. at a (two_newest ts) (Some number) None None) (sym took.issued);
        next = each_follows first 0 h.asker.first_least;
        many = ap length took.issued;
        within = tt;
        said_is = ap (numbered_after 0) took.says;
        hears_is = got.stands.known ∙ ap (λ ts. hears a.ack s.site.channel (two_newest ts) (Some (number_after 1 0)) None) (sym got.stands.granted);
        next_here = each_follows 1 0 (omega arith);
        tokens = ap ids_of got.stands.granted ∙ ap ids_of (sym took.issued);
        none_due = ap (λ l. filter (λ r. not (is_among l r.id)) (opens_asked [])) got.stands.opened;
        fresh = record {
          ended = λ id le. ap (λ l. is_among l id) got.stands.ended;
          opened = λ id le. (ap (λ l. is_among l id) got.stands.opened ∙ ap (λ b. b || false) (unlike 1 id (omega (arith, le))));
        };
        answers_are = subst (λ zs. AnswersInOrder s [] (served_by s.site (g ∷ f ∷ [])) zs) (sym got.answered) tt;
        many_served = ap length took.serves;
        many_answers = ap length got.answered;
      };
    }

-- ---- what is sent and said, as told

-- the frames of a request are told one after another
pub told_asked : (channel token first n : ℕ) (parts : List Part) → all_spoken first n (map (Asking channel token) parts) ≡ told channel token first n parts
told_asked channel token first n [] = refl
told_asked channel token first n (p ∷ parts) = ap (λ (xs : List Spoken). Tells channel token (number_after first n) p ∷ xs) (told_asked channel token first (n + 1) parts)

-- the bodies that a client writes are those that the server's walk reads
pub open_asked_is : (now id type lifetime : ℕ) → open_asked_body now id type lifetime ≡ open_body now id type lifetime
unfolding open_asked_body
open_asked_is now id type lifetime = refl

pub close_asked_is : (now id : ℕ) → close_asked_body now id ≡ close_body now id
unfolding close_asked_body
close_asked_is now id = refl

-- ---- frames as bytes are frames as values

pub are_spoken : (fs : List Frame) (xs : List Spoken) → Are fs (spelled_list xs) → AreSpoken fs xs
are_spoken [] [] e = tt
are_spoken [] (x ∷ xs) e = absurd (cc e)
are_spoken (f ∷ fs) [] e = absurd (cc e)
are_spoken (f ∷ fs) (x ∷ xs) e =
    let one : f.bytes ≡ spell x = cc e in
    let more : Are fs (spelled_list xs) = cc e in
    (one, are_spoken fs xs more)

pub sent_are : (first n : ℕ) (xs : List Sent) → frames_sent first n xs ≡ spelled_list (all_spoken first n xs)
sent_are first n [] = refl
sent_are first n (x ∷ xs) = λ i. sent_spelled (number_after first n) x i ∷ sent_are first (more_sent n x) xs i

pub replied_are : (site : Site) (n : ℕ) (rs : List Reply) → frames_replied site n rs ≡ spelled_list (replies_spoken site n rs)
replied_are site n [] = refl
replied_are site n (r ∷ rs) = λ i. reply_spelled site (number_after 1 n) r i ∷ replied_are site (more_numbered n r) rs i
