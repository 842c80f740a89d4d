-- What a client makes of the answer that our server gives to a request, whole or aborted: it is what is expected.
use Rattle.std.proofs.Common.{◌≡◌, ℕ, ◌+◌, ◌-◌, ◌<◌, ◌≤◌, ◌^◌, Bool, true, false, List, [], ◌∷◌, map, length, Option, Some, None, refl, sym, ap, subst, arith, lit<}
use Rattle.std.specs.Prelude.{pos, if◌then◌else◌}
use Rattle.ua_frame.specs.Layout.{Frame}
use Rattle.ua_chunk.specs.Cut.{Part, fill}
use Rattle.ua_chunk.specs.Numbers.{number_after}
use Rattle.ua_chunk.specs.FrameLaws.{number_fits, fill_parts}
use Rattle.ua_channel.specs.declared.token.Token.{Token}
use Rattle.ua_channel.specs.Token.{is_known}
use Rattle.ua_channel.specs.Admission.{follows_last}
use Rattle.ua_service.specs.declared.request.Request.{Request}
use Rattle.ua_service.specs.declared.request.Request.TheVariants as requests
use Rattle.ua_service.specs.Requests.{IsRequest}
use Rattle.ua_disco.specs.Answers.{answer_of}
use Rattle.ua_disco.specs.Configuration.{Configuration}
use Rattle.ua_conn.specs.server.Site.{Site}
use Rattle.ua_conn.specs.Past.{Past, Agreed, agreed}
use Rattle.ua_conn.specs.server.Answers.{answer_body}
use Rattle.ua_conn.specs.server.Replies.{Answer, part_size, is_over_limits, aborted, answer_parts}
use Rattle.ua_conn.specs.client.Asker.{hello_by}
use Rattle.ua_conn.specs.client.Commands.{Commands}
use Rattle.ua_conn.specs.client.Pending.{bytes_in}
use Rattle.ua_conn.specs.client.Faults.{fits}
use Rattle.ua_conn.specs.BothEnds.{expected}
use Rattle.ua_conn.specs.Story.{Setup}
use Rattle.ua_conn.specs.declared.client.answer.AnswerResult.{AnswerResult}
use Rattle.ua_conn.specs.declared.client.answer.AnswerResult.TheVariants.{Response as Responds, Aborted}
use Rattle.ua_conn.proofs.BothEnds.SpokenLemmas.{Spoken, Tells}
use Rattle.ua_conn.proofs.BothEnds.SpokenReplyLemmas.{replies_spoken}
use Rattle.ua_conn.proofs.BothEnds.SpokenAnswerLemmas.{answer_read, answer_arrives, answer_aborted}
use Rattle.ua_conn.proofs.BothEnds.SpokenRequestLemmas.{told, AreSpoken, AreWithin}
use Rattle.ua_conn.proofs.BothEnds.SpokenTurnLemmas.{parts_within}
use Rattle.ua_conn.proofs.BothEnds.SpokenTableLemmas.{hears, IsAnswering}
use Rattle.ua_conn.proofs.BothEnds.ClientWalkLemmas.{Stands, Got, Wanted, answer_got, abort_got}
use Rattle.ua_conn.proofs.BothEnds.PlainForms.{IsPlain}

-- the answer is of the kind that the request asks for
pub answer_fits : (c : Configuration) (r : Request) (now : ℕ) → fits r (answer_of c r (pos now)) ≡ true
unfolding answer_of
answer_fits c (requests.FindServers m) now = refl
answer_fits c (requests.GetEndpoints m) now = refl
answer_fits c (requests.Other m) now = refl

-- the parts as replies are the parts as they are told
pub told_replies : (site : Site) (token n : ℕ) (parts : List Part) → replies_spoken site n (map (Answer token) parts) ≡ told site.channel token 1 n parts
told_replies site token n [] = refl
told_replies site token n (p ∷ parts) = ap (λ (xs : List Spoken). Tells site.channel token (number_after 1 n) p ∷ xs) (told_replies site token (n + 1) parts)

expected_over : (s : Setup) (request : Request) (now : ℕ) → is_over_limits (agreed s.site (hello_by s.asker)) (answer_body s.site.settings request now) ≡ true → expected s request now ≡ Aborted 0x80B90000
unfolding expected
expected_over s request now over = λ i. if over i then Aborted 0x80B90000 else Responds (answer_of s.site.settings request (pos now))

expected_whole : (s : Setup) (request : Request) (now : ℕ) → is_over_limits (agreed s.site (hello_by s.asker)) (answer_body s.site.settings request now) ≡ false → expected s request now ≡ Responds (answer_of s.site.settings request (pos now))
unfolding expected
expected_whole s request now over = λ i. if over i then Aborted 0x80B90000 else Responds (answer_of s.site.settings request (pos now))

-- The frames of the answer to a request that is wanted: each is accepted, and with the last comes what is expected.
pub expected_got : (s : Setup) (cmds : Commands) (past : Past) (tokens : List Token) (last : Option ℕ) (request : Request) (now token id n : ℕ) (fs : List Frame) (place : ℕ) (ends opens : List ℕ) (all : List Token)
    → IsPlain s → IsRequest request → now < 2 ^ 63 → token < 2 ^ 32 → id < 2 ^ 32 → 0 < length tokens → is_known tokens token ≡ true → follows_last last (number_after 1 n) ≡ true
    → (let a = agreed s.site (hello_by s.asker) in let parts = answer_parts a id (answer_body s.site.settings request now) in
    AreSpoken fs (told s.site.channel token 1 n parts) → Stands past (hears a.ack s.site.channel tokens last None) ends opens all → place ≤ bytes_in past → Wanted cmds ends place id request
    → Got s.asker cmds past fs (hears a.ack s.site.channel tokens (Some (number_after 1 (n + length parts - 1))) None) (record { id = id; request = request; result = expected s request now } ∷ []) (id ∷ ends) opens all)
expected_got s cmds past tokens last request now token id n fs place ends opens all h is clock t i some known follow spoken at from want = by (is_over_limits a body) refl
  where
    a : Agreed
    a = agreed s.site (hello_by s.asker)

    body : List ℕ
    body = answer_body s.site.settings request now

    answering : IsAnswering a.ack s.site.channel tokens token id
    answering = record { channel_fits = h.site.channel_most; token = t; id = i; tokens = some; send = omega (arith, h.site.settings.bounds.limits.send_most) }

    room : 8192 ≤ a.ack.send
    room = omega (arith, h.site.settings.bounds.limits.send_least, h.asker.config.buffer_least)

    Goal : List Part → AnswerResult → Type 0
    Goal parts result = Got s.asker cmds past fs (hears a.ack s.site.channel tokens (Some (number_after 1 (n + length parts - 1))) None) (record { id = id; request = request; result = result } ∷ []) (id ∷ ends) opens all

    by : (b : Bool) → is_over_limits a body ≡ b → Goal (answer_parts a id body) (expected s request now)
    by true over =
        let one = answer_aborted a id body over in
        let here : AreSpoken fs (told s.site.channel token 1 n (aborted id 0x80B90000 ∷ [])) = subst (λ parts. AreSpoken fs (told s.site.channel token 1 n parts)) one spoken in
        subst (λ parts. Goal parts (expected s request now)) (sym one) (subst (λ r. Goal (aborted id 0x80B90000 ∷ []) r) (sym (expected_over s request now over)) (aborted_got fs here))
      where
        aborted_got : (fs : List Frame) → AreSpoken fs (told s.site.channel token 1 n (aborted id 0x80B90000 ∷ []))
            → Got s.asker cmds past fs (hears a.ack s.site.channel tokens (Some (number_after 1 (n + 1 - 1))) None) (record { id = id; request = request; result = Aborted 0x80B90000 } ∷ []) (id ∷ ends) opens all
        aborted_got [] x = absurd x
        aborted_got (f ∷ g ∷ gs) x = absurd x.1
        aborted_got (f ∷ []) x =
            let count : n ≡ n + 1 - 1 = omega arith in
            subst (λ m. Got s.asker cmds past (f ∷ []) (hears a.ack s.site.channel tokens (Some (number_after 1 m)) None) (record { id = id; request = request; result = Aborted 0x80B90000 } ∷ []) (id ∷ ends) opens all) count
            (abort_got s.asker cmds past a.ack s.site.channel tokens last None request token (number_after 1 n) id 0x80B90000 f place ends opens all answering known x.0 room (number_fits 1 n) (lit< tt) refl follow at from want)
    by false over =
        let parts = answer_parts a id body in
        let arrives = answer_arrives a id body over h.asker.config.message_least h.asker.config.chunks_least (omega (arith, room)) in
        let whole : parts ≡ fill id body (part_size a) = ap (λ b. if b then aborted id 0x80B90000 ∷ [] else fill id body (part_size a)) over in
        let within : AreWithin a.ack.send parts = subst (AreWithin a.ack.send) (sym whole) (parts_within id (part_size a) a.ack.send (fill id body (part_size a)) (omega (arith, room)) (fill_parts id (part_size a) body)) in
        subst (λ r. Goal parts r) (sym (expected_whole s request now over))
        (answer_got s.asker cmds past a.ack s.site.channel tokens last None request token id 1 n body (answer_of s.site.settings request (pos now)) parts fs place ends opens all answering known (omega arith) spoken within follow arrives
        (answer_read s.site.settings request now h.site.settings is clock) (answer_fits s.site.settings request now) at from want)
