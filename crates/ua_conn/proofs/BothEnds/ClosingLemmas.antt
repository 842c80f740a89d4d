-- No frame that a client sends closes but the last, so a server reads all that it refuses nothing of.
use Rattle.std.proofs.Common.{◌≡◌, ℕ, Bool, true, false, cond, List, [], ◌∷◌, ◌++◌, map, Option, Some, None, refl, sym, ap, ◌∙◌, ◌⊎◌, inl, inr}
use Rattle.std.specs.List.{AllByRecursion}
use Rattle.std.proofs.lemmas.Bool.{or_parts}
use Rattle.ua_frame.specs.Layout.{Frame, kind_of}
use Rattle.ua_chunk.specs.Cut.{Part, fill}
use Rattle.ua_chunk.specs.Numbers.{number_after}
use Rattle.ua_channel.specs.Token.{newest_id}
use Rattle.ua_service.specs.Requests.{canon_request}
use Rattle.ua_conn.specs.server.Site.{Site}
use Rattle.ua_conn.specs.Past.{Past, known, is_close}
use Rattle.ua_conn.specs.server.Faults.{fault_at}
use Rattle.ua_conn.specs.server.Replies.{Reading, reading}
use Rattle.ua_conn.specs.server.Held.{newest_first}
use Rattle.ua_conn.specs.client.Asker.{Asker, hello_by}
use Rattle.ua_conn.specs.client.Commands.{Act, Ask, Renew, Close, Commands, next_id, closes, is_closed}
use Rattle.ua_conn.specs.client.Past.{ClientKnown, client_known, acknowledge_frame_in, reverse_frame_in}
use Rattle.ua_conn.specs.client.Pending.{come_by}
use Rattle.ua_conn.specs.client.Sending.{Sent, Greeting, Opening, Asking, Closing, sent_bytes, more_sent, greets_by, greets, opens_by, act_says, commands_say, sent_by}
use Rattle.ua_conn.specs.BothEnds.{AllAfter}
use Rattle.ua_conn.specs.declared.outcome.End.TheVariants.{Closed, Refused}
use Rattle.ua_conn.proofs.BothEnds.OnTheWayLemmas.{frames_sent, Are}
use Rattle.ua_conn.proofs.BothEnds.SpokenLemmas.{IsSized, spell_is, parts_of}
use Rattle.ua_conn.proofs.BothEnds.StoryBaseLemmas.{ClosesLast}
use Rattle.ua_conn.proofs.BothEnds.StoryLemmas.{HasSize, HaveSizes, sent_spoken, sent_spelled}

-- ---- what closes

abbrev pub is_closing : Sent → Bool
is_closing (Closing channel token id body) = true
is_closing x = false

abbrev AllCalm : List Sent → Type 0
AllCalm xs = AllByRecursion (λ (x : Sent). is_closing x ≡ false) xs

abbrev pub EndsCalm : List Sent → Type 0
EndsCalm [] = Unit {0}
EndsCalm (x ∷ xs) = ((xs ≡ []) ⊎ (is_closing x ≡ false)) × EndsCalm xs

calm_both : (xs ys : List Sent) → AllCalm xs → AllCalm ys → AllCalm (xs ++ ys)
calm_both [] ys h k = k
calm_both (x ∷ xs) ys h k = (h.0, calm_both xs ys h.1 k)

calm_then : (xs ys : List Sent) → AllCalm xs → EndsCalm ys → EndsCalm (xs ++ ys)
calm_then [] ys h k = k
calm_then (x ∷ xs) ys h k = (inr h.0, calm_then xs ys h.1 k)

calm_ends : (xs : List Sent) → AllCalm xs → EndsCalm xs
calm_ends [] h = tt
calm_ends (x ∷ xs) h = (inr h.0, calm_ends xs h.1)

parts_calm : (channel token : ℕ) (parts : List Part) → AllCalm (map (Asking channel token) parts)
parts_calm channel token [] = tt
parts_calm channel token (p ∷ parts) = (refl, parts_calm channel token parts)

act_calm : (a : Asker) (id now : ℕ) (k : ClientKnown) (act : Act) → closes act ≡ false → AllCalm (act_says a id now k act)
act_calm a id now k (Ask request part) h = parts_calm k.channel (newest_id k.tokens) (fill id (canon_request request) part)
act_calm a id now k Renew h = (refl, tt)
act_calm a id now k Close h = absurd (cc h)

act_ends : (a : Asker) (id now : ℕ) (k : ClientKnown) (act : Act) → EndsCalm (act_says a id now k act)
act_ends a id now k (Ask request part) = calm_ends _ (parts_calm k.channel (newest_id k.tokens) (fill id (canon_request request) part))
act_ends a id now k Renew = (inl refl, tt)
act_ends a id now k Close = (inl refl, tt)

commands_calm : (a : Asker) (cmds : Commands) (past : Past) → is_closed cmds ≡ false → AllCalm (commands_say a cmds past)
commands_calm a [] past h = tt
commands_calm a (c ∷ cmds) past h =
    let p = or_parts (closes c.act) (is_closed cmds) h in
    calm_both (commands_say a cmds past) (act_says a (next_id cmds) c.moment (client_known (come_by c.seen past)) c.act) (commands_calm a cmds past p.1)
    (act_calm a (next_id cmds) c.moment (client_known (come_by c.seen past)) c.act p.0)

opens_calm : (a : Asker) (o : Option Frame) → AllCalm (opens_by a o)
opens_calm a None = tt
opens_calm a (Some f) = (refl, tt)

greets_calm : (a : Asker) (b : Bool) (o : Option Frame) → AllCalm (cond b (greets_by a o) (Greeting (hello_by a) ∷ []))
greets_calm a true None = tt
greets_calm a true (Some f) = (refl, tt)
greets_calm a false o = (refl, tt)

pub sent_ends : (a : Asker) (cmds : Commands) (past : Past) → ClosesLast cmds → EndsCalm (sent_by a cmds past)
sent_ends a [] past h =
    calm_then (greets a past) (opens_by a (acknowledge_frame_in past) ++ []) (greets_calm a a.reverse (reverse_frame_in past))
    (calm_then (opens_by a (acknowledge_frame_in past)) [] (opens_calm a (acknowledge_frame_in past)) tt)
sent_ends a (c ∷ cmds) past h =
    let says = act_says a (next_id cmds) c.moment (client_known (come_by c.seen past)) c.act in
    calm_then (greets a past) (opens_by a (acknowledge_frame_in past) ++ (commands_say a cmds past ++ says)) (greets_calm a a.reverse (reverse_frame_in past))
    (calm_then (opens_by a (acknowledge_frame_in past)) (commands_say a cmds past ++ says) (opens_calm a (acknowledge_frame_in past))
    (calm_then (commands_say a cmds past) says (commands_calm a cmds past h) (act_ends a (next_id cmds) c.moment (client_known (come_by c.seen past)) c.act)))

-- ---- as frames

sized : (n : ℕ) (x : Sent) → HasSize x → IsSized (sent_spoken n x)
sized n (Greeting hello) h = h
sized n (Opening channel id body) h = h
sized n (Asking channel token part) h = h
sized n (Closing channel token id body) h = h

close_of_kind : (n : ℕ) (x : Sent) → is_close (Some (parts_of (sent_spoken n x)).kind) ≡ is_closing x
close_of_kind n (Greeting hello) = refl
close_of_kind n (Opening channel id body) = refl
close_of_kind n (Asking channel token part) = refl
close_of_kind n (Closing channel token id body) = refl

closes_as : (n : ℕ) (x : Sent) (f : Frame) → HasSize x → f.bytes ≡ sent_bytes n x → is_close (kind_of f.bytes) ≡ is_closing x
closes_as n x f h e = ap is_close (ap kind_of (e ∙ sent_spelled n x) ∙ (spell_is (sent_spoken n x) (sized n x h)).kind) ∙ close_of_kind n x

none_left : (fs : List Frame) (xs : List Sent) (first n : ℕ) → xs ≡ [] → Are fs (frames_sent first n xs) → fs ≡ []
none_left [] xs first n none e = refl
none_left (f ∷ fs) [] first n none e = absurd (cc e)
none_left (f ∷ fs) (x ∷ xs) first n none e = absurd (cc none)

-- The server reads all frames, where none is refused.
pub reads_all : (site : Site) (past : Past) (first n : ℕ) (xs : List Sent) (fs : List Frame) (rest : List ℕ) → AllAfter (λ past f. fault_at site (known site past) f ≡ None) past fs → Are fs (frames_sent first n xs)
    → HaveSizes xs → EndsCalm xs → (reading site past fs rest).past ≡ newest_first fs past
reads_all site past first n xs [] rest h e sizes calm = refl
reads_all site past first n [] (f ∷ fs) rest h e sizes calm = absurd (cc e)
reads_all site past first n (x ∷ xs) (f ∷ fs) rest h e sizes calm =
    let head : f.bytes ≡ sent_bytes (number_after first n) x = cc e in
    let tail : Are fs (frames_sent first (more_sent n x) xs) = cc e in
    by (fault_at site (known site past) f) (is_close (kind_of f.bytes)) h.0 (closes_as (number_after first n) x f sizes.0 head) calm.0 (λ none. none_left fs xs first (more_sent n x) none tail)
    (reads_all site (f ∷ past) first (more_sent n x) xs fs rest h.1 tail sizes.1 calm.1)
  where
    by : (o : Option ℕ) (b : Bool) → o ≡ None → b ≡ is_closing x → (xs ≡ []) ⊎ (is_closing x ≡ false) → (xs ≡ [] → fs ≡ []) → (reading site (f ∷ past) fs rest).past ≡ newest_first fs (f ∷ past)
        → (let R : Reading = elim o [ Some status ↦ record { past = past; ending = Refused status } | None ↦ cond b (record { past = f ∷ past; ending = Closed }) (reading site (f ∷ past) fs rest) ] in R.past ≡ newest_first fs (f ∷ past))
    by (Some status) b none same last left more = absurd (cc none)
    by None false none same last left more = more
    by None true none same (inl last) left more = sym (ap (λ l. newest_first l (f ∷ past)) (left last))
    by None true none same (inr calm) left more = absurd (let clash : true ≡ false = same ∙ calm in cc clash)
