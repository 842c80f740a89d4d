-- What each command adds that fits: its frames at the server, and their answers at the client.
use Rattle.std.proofs.Common.{◌≡◌, ℕ, ◌+◌, ◌<◌, ◌≤◌, ◌^◌, List, [], ◌∷◌, ◌++◌, map, length, Some, refl, sym, ap, subst, ◌∙◌, arith, lit<}
use Rattle.std.proofs.lemmas.List.{append-nil, length-append, append_cancel_left}
use Rattle.ua_frame.specs.Layout.{Frame, kind_of}
use Rattle.ua_frame.specs.declared.kind.Kind.TheVariants as kinds
use Rattle.ua_chunk.specs.Cut.{Part, fill}
use Rattle.ua_chunk.specs.Numbers.{number_after}
use Rattle.ua_channel.specs.Token.{next_token, two_newest}
use Rattle.ua_service.specs.declared.request.Request.{Request}
use Rattle.ua_service.specs.Requests.{canon_request}
use Rattle.ua_service.specs.ValueLaws.{close_request_length}
use Rattle.ua_conn.specs.server.Site.{Site}
use Rattle.ua_conn.specs.Past.{Past, Known, known, agreed, tokens_in}
use Rattle.ua_conn.specs.server.Answers.{answer_body, opened_body}
use Rattle.ua_conn.specs.server.Replies.{Reply, Opened, Answer, spelled, numbered_after, answer_parts, reply_by, reply_to, replies}
use Rattle.ua_conn.specs.server.Held.{newest_first}
use Rattle.ua_conn.specs.client.Asker.{hello_by}
use Rattle.ua_conn.specs.client.Commands.{Ask, Renew, Close, Command, Commands, OpenAsked, opens_asked, next_id}
use Rattle.ua_conn.specs.client.Sending.{Sent, Opening, Asking, Closing, sent_bytes, sent_after}
use Rattle.ua_conn.specs.client.Questions.{open_asked_body, close_asked_body}
use Rattle.ua_conn.specs.Story.{Setup}
use Rattle.ua_conn.proofs.BothEnds.AnswerWalkLemmas.{told_replies}
use Rattle.ua_conn.proofs.BothEnds.CommandStepLemmas.{Adds}
use Rattle.ua_conn.proofs.BothEnds.FrameListLemmas.{Timely}
use Rattle.ua_conn.proofs.BothEnds.HoldLemmas.{Keeps, Fits, ask_took, ask_keeps, most_is}
use Rattle.ua_conn.proofs.BothEnds.KeepLemmas.{renew_took, renew_keeps, close_keeps}
use Rattle.ua_conn.proofs.BothEnds.OnTheWayLemmas.{frames_replied, Are}
use Rattle.ua_conn.proofs.BothEnds.OpeningKeepLemmas.{told_asked, open_asked_is, close_asked_is, are_spoken, sent_are, replied_are}
use Rattle.ua_conn.proofs.BothEnds.SpokenLemmas.{Opens, Closes, spell, spell_is}
use Rattle.ua_conn.proofs.BothEnds.SpokenReplyLemmas.{reply_spelled, replies_spoken}
use Rattle.ua_conn.proofs.BothEnds.SpokenRequestLemmas.{says_all, told, AreSpoken, last_moment, replies_go}
use Rattle.ua_conn.proofs.BothEnds.SpokenSessionLemmas.{open_body, close_body}
use Rattle.ua_conn.proofs.BothEnds.StoryLemmas.{sent_spelled, all_spoken}
use Rattle.ua_conn.proofs.BothEnds.PlainForms.{IsPlain}

-- ---- lists of one frame, or none

pub single : (qs : List Frame) (b : List ℕ) → Are qs (b ∷ []) → (q : Frame) × (qs ≡ q ∷ []) × (q.bytes ≡ b)
single [] b e = absurd (cc e)
single (q ∷ []) b e = (q, refl, cc e)
single (q ∷ r ∷ qs) b e = absurd (cc e)

none_of : (qs : List Frame) → Are qs [] → qs ≡ []
none_of [] e = refl
none_of (q ∷ qs) e = absurd (cc e)

timely_last : (qs : List Frame) → Timely qs → last_moment qs < 2 ^ 63
timely_last [] h = lit< tt
timely_last (f ∷ []) h = h.0
timely_last (f ∷ g ∷ fs) h = timely_last (g ∷ fs) h.1

-- ---- with other numbers

pub keeps_as : (s : Setup) (cmds : Commands) (o n m sent sends said : ℕ) (there here : Past) (qs ns : List Frame) → n ≡ m → sent ≡ sends → Keeps s cmds o n sent said there here qs ns
    → Keeps s cmds o m sends (numbered_after 0 (replies s.site (newest_first qs there))) there here qs ns
keeps_as s cmds o n m sent sends said there here qs ns e d k =
    let says = sym k.holds.said_is in
    subst (λ x. Keeps s cmds o x sends (numbered_after 0 (replies s.site (newest_first qs there))) there here qs ns) e
    (subst (λ x. Keeps s cmds o n x (numbered_after 0 (replies s.site (newest_first qs there))) there here qs ns) d
    (subst (λ x. Keeps s cmds o n sent x there here qs ns) says k))

asked_count : (n channel token : ℕ) (parts : List Part) → sent_after n (map (Asking channel token) parts) ≡ n + length parts
asked_count n channel token [] = omega arith
asked_count n channel token (p ∷ parts) = asked_count (n + 1) channel token parts ∙ omega arith

-- ---- a request

pub ask_adds : (s : Setup) (cmds : Commands) (request : Request) (part now seen o : ℕ) → IsPlain s → Fits s cmds request part → 1 ≤ o → o ≤ length (opens_asked cmds) → length (opens_asked cmds) ≤ o + 1 → o < 2 ^ 32
    → Adds s cmds (record { act = Ask request part; moment = now; seen = seen }) o (map (Asking s.site.channel o) (fill (next_id cmds) (canon_request request) part))
ask_adds s cmds request part now seen o h fit some low high short sent there here qs ns timely le hold asked replied =
    let site = s.site in
    let n = length (opens_asked cmds) in
    let said = numbered_after 0 (replies site there) in
    let id = next_id cmds in
    let first = s.asker.first_sequence in
    let parts = fill id (canon_request request) part in
    let ms = map (Asking site.channel o) parts in
    let c : Command = record { act = Ask request part; moment = now; seen = seen } in
    let answer = answer_parts (agreed site (hello_by s.asker)) id (answer_body site.settings request (last_moment qs)) in
    let spoken : AreSpoken qs (told site.channel o first sent parts) = subst (AreSpoken qs) (told_asked site.channel o first sent parts) (are_spoken qs (all_spoken first sent ms) (asked ∙ sent_are first sent ms)) in
    let took = ask_took s cmds request part o n sent said there here qs h fit some low high short hold spoken in
    let says : says_all site (known site there) qs ≡ map (Answer o) answer =
    append_cancel_left (replies site there) (says_all site (known site there) qs) (map (Answer o) answer)
    (sym (replies_go site there qs) ∙ took.says ∙ ap (λ m. replies site there ++ map (Answer m) answer) (most_is hold.used o hold.within)) in
    let heard : AreSpoken ns (told site.channel o 1 said answer) = subst (AreSpoken ns) (told_replies site o said answer)
    (are_spoken ns (replies_spoken site said (map (Answer o) answer)) (replied ∙ ap (frames_replied site said) says ∙ replied_are site said (map (Answer o) answer))) in
    keeps_as s (c ∷ cmds) o n (length (opens_asked (c ∷ cmds))) (sent + length parts) (sent_after sent ms) (said + length answer) there here qs ns
    (sym (ap length (append-nil (opens_asked cmds)))) (sym (asked_count sent site.channel o parts))
    (ask_keeps s cmds request part now seen o n sent said there here qs ns h fit some low high short le (timely_last qs timely) hold spoken heard)

-- ---- a renewal

pub renew_adds : (s : Setup) (cmds : Commands) (now seen o : ℕ) → IsPlain s → 1 ≤ length (opens_asked cmds) → length (opens_asked cmds) + 1 < 2 ^ 32 → next_id cmds < 2 ^ 32 → now < 2 ^ 63
    → Adds s cmds (record { act = Renew; moment = now; seen = seen }) o (Opening s.site.channel (next_id cmds) (open_asked_body now (next_id cmds) 1 s.asker.config.lifetime) ∷ [])
renew_adds s cmds now seen o h some few unspent clock sent there here qs ns timely le hold asked replied =
    let site = s.site in
    let n = length (opens_asked cmds) in
    let said = numbered_after 0 (replies site there) in
    let id = next_id cmds in
    let lifetime = s.asker.config.lifetime in
    let number = number_after s.asker.first_sequence sent in
    let x : Sent = Opening site.channel id (open_asked_body now id 1 lifetime) in
    let c : Command = record { act = Renew; moment = now; seen = seen } in
    let one = single qs (sent_bytes number x) asked in
    let q = one.0 in
    let bytes : q.bytes ≡ spell (Opens site.channel number id (open_body now id 1 lifetime)) = one.2 ∙ sent_spelled number x ∙ ap (λ b. spell (Opens site.channel number id b)) (open_asked_is now id 1 lifetime) in
    let took = renew_took s cmds now o n sent said there here q h some few unspent clock hold bytes in
    let token = next_token (two_newest (tokens_in there)) q.moment lifetime in
    let reply : Reply = Opened id (opened_body id q.moment site.channel token) in
    let says : says_all site (known site there) qs ≡ reply ∷ [] =
    append_cancel_left (replies site there) (says_all site (known site there) qs) (reply ∷ []) (sym (replies_go site there qs) ∙ ap (λ l. replies site (newest_first l there)) one.1 ∙ took.says) in
    let two = single ns (spelled site (number_after 1 said) reply) (replied ∙ ap (frames_replied site said) says) in
    let y = two.0 in
    let heard = two.2 ∙ reply_spelled site (number_after 1 said) reply in
    let moment : q.moment < 2 ^ 63 = (subst Timely one.1 timely).0 in
    let m = length (opens_asked (c ∷ cmds)) in
    let new : OpenAsked = record { id = id; seen = seen } in
    let done = keeps_as s (c ∷ cmds) o (n + 1) m (sent + 1) (sent_after sent (x ∷ [])) (said + 1) there here (q ∷ []) (y ∷ []) (omega (arith, length-append (opens_asked cmds) (new ∷ []))) refl
    (renew_keeps s cmds now seen o n sent said there here q y h some few unspent clock moment le hold bytes heard) in
    subst (λ l. Keeps s (c ∷ cmds) o m (sent_after sent (x ∷ [])) (numbered_after 0 (replies site (newest_first l there))) there here l ns) (sym one.1)
    (subst (λ l. Keeps s (c ∷ cmds) o m (sent_after sent (x ∷ [])) (numbered_after 0 (replies site (newest_first (q ∷ []) there))) there here (q ∷ []) l) (sym two.1) done)

-- ---- a close

close_says : (site : Site) (k : Known) (f : Frame) → kind_of f.bytes ≡ Some kinds.Close → reply_to site k f ≡ []
unfolding reply_to
close_says site k f e = ap (reply_by site k f) e

pub close_adds : (s : Setup) (cmds : Commands) (now seen o : ℕ) → IsPlain s → 1 ≤ o → o ≤ length (opens_asked cmds) → length (opens_asked cmds) ≤ o + 1 → o < 2 ^ 32 → next_id cmds < 2 ^ 32 → now < 2 ^ 63
    → Adds s cmds (record { act = Close; moment = now; seen = seen }) o (Closing s.site.channel o (next_id cmds) (close_asked_body now (next_id cmds)) ∷ [])
close_adds s cmds now seen o h some low high short unspent clock sent there here qs ns timely le hold asked replied =
    let site = s.site in
    let n = length (opens_asked cmds) in
    let said = numbered_after 0 (replies site there) in
    let id = next_id cmds in
    let number = number_after s.asker.first_sequence sent in
    let x : Sent = Closing site.channel o id (close_asked_body now id) in
    let c : Command = record { act = Close; moment = now; seen = seen } in
    let one = single qs (sent_bytes number x) asked in
    let q = one.0 in
    let spoken = Closes site.channel o number id (close_body now id) in
    let bytes : q.bytes ≡ spell spoken = one.2 ∙ sent_spelled number x ∙ ap (λ b. spell (Closes site.channel o number id b)) (close_asked_is now id) in
    let kind : kind_of q.bytes ≡ Some kinds.Close = ap kind_of bytes ∙ (spell_is spoken (omega (arith, close_request_length now id))).kind in
    let says : says_all site (known site there) qs ≡ [] = ap (says_all site (known site there)) one.1 ∙ append-nil (reply_to site (known site there) q) ∙ close_says site (known site there) q kind in
    let none = none_of ns (replied ∙ ap (frames_replied site said) says) in
    let m = length (opens_asked (c ∷ cmds)) in
    let done = keeps_as s (c ∷ cmds) o n m (sent + 1) (sent_after sent (x ∷ [])) said there here (q ∷ []) [] (sym (ap length (append-nil (opens_asked cmds)))) refl
    (close_keeps s cmds now seen o n sent said there here q h some low high short unspent clock hold bytes) in
    subst (λ l. Keeps s (c ∷ cmds) o m (sent_after sent (x ∷ [])) (numbered_after 0 (replies site (newest_first l there))) there here l ns) (sym one.1)
    (subst (λ l. Keeps s (c ∷ cmds) o m (sent_after sent (x ∷ [])) (numbered_after 0 (replies site (newest_first (q ∷ []) there))) there here (q ∷ []) l) (sym none) done)
