-- Frames that come to a server: that it accepts each but for the age of its token, what it knows then, what it says, and what it serves.
use Rattle.std.proofs.Common.{◌≡◌, ℕ, ◌+◌, ◌-◌, ◌<◌, ◌≤◌, ◌^◌, Bool, true, false, cond, not, List, [], ◌∷◌, ◌++◌, map, length, Option, Some, None, is_none, refl, sym, ap, subst, ◌∙◌, arith, append_assoc}
use Rattle.std.specs.Prelude.{◌==◌}
use Rattle.std.specs.List.{filter}
use Rattle.std.proofs.lemmas.Bool.{eq-eqb}
use Rattle.std.proofs.lemmas.List.{append-nil}
use Rattle.ua_frame.specs.Layout.{Frame, kind_of, flag_of, fields_of}
use Rattle.ua_frame.specs.Rows.{Row, first_row, or_else}
use Rattle.ua_frame.specs.HeaderRows.{flag_fits, header_fault}
use Rattle.ua_frame.specs.declared.kind.Kind.{Kind}
use Rattle.ua_frame.specs.declared.kind.Kind.TheVariants as kinds
use Rattle.ua_chunk.specs.Layout.{Chunk, chunk_of}
use Rattle.ua_chunk.specs.Cut.{Part}
use Rattle.ua_chunk.specs.Half.{Half, body_of, parts_of as half_parts, half_after, part_rows}
use Rattle.ua_chunk.specs.HalfLaws.{half_with, Arrives}
use Rattle.ua_chunk.specs.Numbers.{number_after}
use Rattle.ua_chunk.specs.NumberLaws.{each_follows}
use Rattle.ua_chunk.specs.FrameLaws.{number_fits}
use Rattle.ua_channel.specs.declared.token.Token.{Token}
use Rattle.ua_channel.specs.Token.{is_known, next_token, two_newest, revised}
use Rattle.ua_channel.specs.Channel.{most}
use Rattle.ua_channel.specs.Admission.{follows_last, admit_rows_by}
use Rattle.ua_service.specs.declared.channel.OpenRequest.{OpenRequest}
use Rattle.ua_service.specs.declared.channel.CloseRequest.{CloseRequest}
use Rattle.ua_service.specs.declared.request.Request.{Request}
use Rattle.ua_service.specs.ChannelMessages.{open_of, close_of}
use Rattle.ua_service.specs.Requests.{request_of}
use Rattle.ua_conn.specs.server.Site.{Site}
use Rattle.ua_conn.specs.Past.{Past, Agreed, Known, known, carried, or_empty, is_open, asked_open, body_of as open_body, lifetime_asked, tokens_by, tokens_in}
use Rattle.ua_conn.specs.server.Faults.{channel_of, is_allowed, greatest_frame, frame_rows_by, message_rows, close_rows, fault_at, fault_by, names_usable}
use Rattle.ua_conn.specs.server.Replies.{Reply, reply_to, handed_at, to_list, replies}
use Rattle.ua_conn.specs.server.Held.{newest_first}
use Rattle.ua_conn.specs.server.Machine.{known_after}
use Rattle.ua_conn.specs.server.Effects.{answers}
use Rattle.ua_conn.specs.server.Parts.{whole_with}
use Rattle.ua_conn.specs.BothEnds.{AllAfter, Served, served_by}
use Rattle.ua_conn.proofs.TableLemmas.{join_none}
use Rattle.ua_conn.proofs.ServerEnd.KnownLemmas.{known_step, newest}
use Rattle.ua_conn.proofs.BothEnds.OnTheWayLemmas.{Sound}
use Rattle.ua_conn.proofs.BothEnds.SpokenLemmas.{Spoken, Opens, Tells, Closes, spell, parts_of, IsSized, IsFlagged, IsProper, size_by, spell_passes, IsRead, is_read}
use Rattle.ua_conn.proofs.BothEnds.SpokenEffectLemmas.{chunk_by, spoken_effect}
use Rattle.ua_conn.proofs.BothEnds.SpokenRequestLemmas.{Taken, at, some_tokens, IsSending, told, AreSpoken, AreWithin, last_moment, message_none, whole_false, most_twice, sending_as}

-- ---- what a past comes to

abbrev pub served_at : ℕ → List Request → List Served
served_at now requests = map (λ r. record { request = r; moment = now }) requests

-- the frames come behind the past; tokens are all that were issued
pub record Took (site : Site) (past : Past) (fs : List Frame) (k : Known) (rs : List Reply) (vs : List Served) (tokens : List Token) : Type 0 where
  pub sound : AllAfter (Sound site) past fs
  pub known_is : known site (newest_first fs past) ≡ k
  pub says : replies site (newest_first fs past) ≡ replies site past ++ rs
  pub serves : served_by site (newest_first fs past) ≡ served_by site past ++ vs
  pub issued : tokens_in (newest_first fs past) ≡ tokens

pub took_more : (site : Site) (past : Past) (f : Frame) (fs : List Frame) (k1 k2 : Known) (rs ss : List Reply) (vs ws : List Served) (tokens1 tokens2 : List Token)
    → Took site past (f ∷ []) k1 rs vs tokens1 → Took site (f ∷ past) fs k2 ss ws tokens2 → Took site past (f ∷ fs) k2 (rs ++ ss) (vs ++ ws) tokens2
took_more site past f fs k1 k2 rs ss vs ws tokens1 tokens2 one more = record {
  sound = (one.sound.0, more.sound);
  known_is = more.known_is;
  says = more.says ∙ ap (λ l. l ++ ss) one.says ∙ append_assoc (replies site past) rs ss;
  serves = more.serves ∙ ap (λ l. l ++ ws) one.serves ∙ append_assoc (served_by site past) vs ws;
  issued = more.issued;
}

pub took_one : (site : Site) (past : Past) (f : Frame) (k k' : Known) (rs : List Reply) (qs : List Request) (tokens : List Token) → known site past ≡ k → fault_by site k f (is_known k.tokens (carried f).token) ≡ None
    → known_after site k f ≡ k' → reply_to site k f ≡ rs → handed_at k f ≡ qs → tokens_in (f ∷ past) ≡ tokens → Took site past (f ∷ []) k' rs (served_at f.moment qs) tokens
took_one site past f k k' rs qs tokens is fine after say ask all = record {
  sound = (ap (λ (x : Known). fault_by site x f (is_known x.tokens (carried f).token)) is ∙ fine, tt);
  known_is = known_step site f past ∙ ap (λ (x : Known). known_after site x f) is ∙ after;
  says = ap (λ l. replies site past ++ l) (ap (λ (x : Known). reply_to site x f) is ∙ say);
  serves = ap (λ l. served_by site past ++ served_at f.moment l) (ap (λ (x : Known). handed_at x f) is ∙ ask);
  issued = all;
}

-- ---- tokens

tokens_test : (b : Bool) (f : Frame) (opens : List Frame) → tokens_by (cond b (f ∷ opens) opens) ≡ cond b (tokens_by (f ∷ opens)) (tokens_by opens)
tokens_test true f opens = refl
tokens_test false f opens = refl

pub same_tokens : (f : Frame) (past : Past) → is_open (kind_of f.bytes) ≡ false → tokens_in (f ∷ past) ≡ tokens_in past
same_tokens f past e =
    let opens = filter (λ g. is_open (kind_of g.bytes)) past in
    tokens_test (is_open (kind_of f.bytes)) f opens ∙ (λ i. cond (e i) (tokens_by (f ∷ opens)) (tokens_by opens))

-- each open request issues the next token
pub more_tokens : (site : Site) (f : Frame) (past : Past) (channel number id : ℕ) (body : List ℕ) (r : OpenRequest) → IsRead f (Opens channel number id body) → open_of body ≡ Some r
    → tokens_in (f ∷ past) ≡ next_token (two_newest (tokens_in past)) f.moment r.requested_lifetime ∷ tokens_in past
more_tokens site f past channel number id body r h is =
    let opens = filter (λ g. is_open (kind_of g.bytes)) past in
    let kind : is_open (kind_of f.bytes) ≡ true = ap is_open h.kind in
    let asks : asked_open f ≡ Some r = ap (λ o. open_of (open_body o)) h.says ∙ is in
    tokens_test (is_open (kind_of f.bytes)) f opens ∙ (λ i. cond (kind i) (tokens_by (f ∷ opens)) (tokens_by opens))
    ∙ (λ i. record { id = sym (newest site opens) i + 1; issued = f.moment; lifetime = revised (lifetime_asked (asks i)) } ∷ tokens_by opens)

-- ---- a Hello and an open request name no token

table : Site → Known → Frame → Bool → Option Kind → Option ℕ
table site k f b kind = or_else (header_fault (greatest_frame k.limits) f.bytes) (first_row (frame_rows_by site k f b kind (flag_of f.bytes)))

-- the table, with what is said of the token apart
pub fault_is : (site : Site) (k : Known) (f : Frame) → fault_at site k f ≡ fault_by site k f (names_usable k f)
unfolding fault_at fault_by
fault_is site k f = refl

table_is : (site : Site) (k : Known) (f : Frame) (b : Bool) → fault_by site k f b ≡ table site k f b (kind_of f.bytes)
unfolding fault_by table
table_is site k f b = refl

by_kind : (site : Site) (k : Known) (f : Frame) (b : Bool) (kind : Kind) → kind_of f.bytes ≡ Some kind → table site k f (names_usable k f) (Some kind) ≡ table site k f b (Some kind) → fault_at site k f ≡ None → fault_by site k f b ≡ None
by_kind site k f b kind e same h =
    table_is site k f b ∙ ap (table site k f b) e ∙ sym same ∙ sym (ap (table site k f (names_usable k f)) e) ∙ sym (table_is site k f (names_usable k f)) ∙ sym (fault_is site k f) ∙ h

pub hello_any : (site : Site) (k : Known) (f : Frame) (b : Bool) → kind_of f.bytes ≡ Some kinds.Hello → fault_at site k f ≡ None → fault_by site k f b ≡ None
unfolding table
hello_any site k f b e h = by_kind site k f b kinds.Hello e refl h

pub open_any : (site : Site) (k : Known) (f : Frame) (b : Bool) → kind_of f.bytes ≡ Some kinds.Open → fault_at site k f ≡ None → fault_by site k f b ≡ None
unfolding table
open_any site k f b e h = by_kind site k f b kinds.Open e refl h

-- what is taken as one frame is taken behind a past
pub taken_took : (site : Site) (past : Past) (f : Frame) (k k' : Known) (rs : List Reply) (qs : List Request) (tokens : List Token) → known site past ≡ k → Taken site k k' (f ∷ []) rs qs
    → fault_by site k f (is_known k.tokens (carried f).token) ≡ None → tokens_in (f ∷ past) ≡ tokens → Took site past (f ∷ []) k' rs (served_at f.moment qs) tokens
taken_took site past f k k' rs qs tokens is one fine all =
    took_one site past f k k' rs qs tokens is fine one.known (sym (append-nil (reply_to site k f)) ∙ one.says) (sym (append-nil (handed_at k f)) ∙ one.asks) all

-- ---- a part of a request

-- The whole table, at a frame that is no greater than what is taken: the rows of its type and flag.
sound_fault : (site : Site) (k : Known) (f : Frame) (x : Spoken) (b : Bool) → f.bytes ≡ spell x → IsSized x → IsFlagged x → IsProper x → size_by x ≤ greatest_frame k.limits
    → fault_by site k f b ≡ first_row (frame_rows_by site k f b (Some (parts_of x).kind) (parts_of x).flag)
unfolding fault_by
sound_fault site k f x b e short flag is within =
    let head : header_fault (greatest_frame k.limits) f.bytes ≡ None = ap (header_fault (greatest_frame k.limits)) e ∙ spell_passes (greatest_frame k.limits) x short flag within in
    let read = is_read f x e short is in
    λ i. or_else (head i) (first_row (frame_rows_by site k f b (read.kind i) (read.flag i)))

chunk_rows_of : Site → Known → Option Chunk → List Row
chunk_rows_of site k o = (is_none o, 0x80070000) ∷ admit_rows_by (channel_of site k) (or_empty o) true

admitted : (site : Site) (k : Known) (token number id : ℕ) (body : List ℕ) → follows_last k.last number ≡ true → first_row (chunk_rows_of site k (Some (chunk_by site.channel token number id body))) ≡ None
unfolding chunk_rows_of
admitted site k token number id body follow =
    let own : (site.channel == site.channel) ≡ true = eq-eqb site.channel site.channel refl in
    λ i. cond (not (own i)) (Some 0x807F0000) (cond (not (follow i)) (Some 0x80880000) None)

part_sound : (site : Site) (a : Agreed) (tokens : List Token) (last : Option ℕ) (half : Option Half) (used : Option ℕ) (token number : ℕ) (p : Part) (o : Option Request) (f : Frame)
    → IsSending site a tokens token p.id → number < 2 ^ 32 → f.bytes ≡ spell (Tells site.channel token number p) → flag_fits kinds.Message p.flag ≡ true → 24 + length p.bytes ≤ a.ack.receive → follows_last last number ≡ true
    → first_row (part_rows site.settings.limits.max_message site.settings.limits.max_chunks half p.flag p.id p.bytes) ≡ None
    → whole_with half p.flag p.bytes ≡ o → ((p.flag == 70) ≡ true → is_none o ≡ false) → fault_by site (at a tokens last half used) f true ≡ None
unfolding chunk_rows_of
part_sound site a tokens last half used token number p o f h n e flag within follow rows whole request =
    let x = Tells site.channel token number p in
    let k = at a tokens last half used in
    let c = chunk_by site.channel token number p.id p.bytes in
    let sized : 24 + length p.bytes < 2 ^ 32 = omega (arith, within, h.receive) in
    let read = is_read f x e sized (h.channel, h.token, n, h.id) in
    let says : chunk_of (fields_of f.bytes) ≡ Some c = read.says in
    let allowed : not (is_allowed k (Some kinds.Message)) ≡ false = ap (λ b. not (cond b false true)) (some_tokens tokens h.tokens) in
    sound_fault site k f x true e sized flag (h.channel, h.token, n, h.id) within
    ∙ ap (λ o. cond (not (is_allowed k (Some kinds.Message))) (Some 0x807E0000) (first_row (chunk_rows_of site k o ++ message_rows site k p.flag (or_empty o)))) says
    ∙ ap (λ b. cond b (Some 0x807E0000) (first_row (chunk_rows_of site k (Some c) ++ message_rows site k p.flag c))) allowed
    ∙ join_none (chunk_rows_of site k (Some c)) (message_rows site k p.flag c) (admitted site k token number p.id p.bytes follow)
    ∙ message_none site k token number p.id p.flag p.bytes rows (whole_false half p.flag p.bytes o whole request)

part_took : (site : Site) (past : Past) (a : Agreed) (tokens : List Token) (last : Option ℕ) (half next : Option Half) (used : Option ℕ) (token number : ℕ) (p : Part) (o : Option Request) (f : Frame) (all : List Token)
    → known site past ≡ at a tokens last half used → tokens_in past ≡ all → is_known tokens token ≡ true
    → IsSending site a tokens token p.id → number < 2 ^ 32 → f.bytes ≡ spell (Tells site.channel token number p) → flag_fits kinds.Message p.flag ≡ true → 24 + length p.bytes ≤ a.ack.receive → follows_last last number ≡ true
    → first_row (part_rows site.settings.limits.max_message site.settings.limits.max_chunks half p.flag p.id p.bytes) ≡ None → half_after half p.flag p.id p.bytes ≡ next
    → whole_with half p.flag p.bytes ≡ o → ((p.flag == 70) ≡ true → is_none o ≡ false)
    → Took site past (f ∷ []) (at a tokens (Some number) next (Some (most used token))) (answers site f.moment (most used token) p.id (Some a) o) (served_at f.moment (to_list o)) all
part_took site past a tokens last half next used token number p o f all is have known h n e flag within follow rows put whole request =
    let x = Tells site.channel token number p in
    let k = at a tokens last half used in
    let sized : 24 + length p.bytes < 2 ^ 32 = omega (arith, within, h.receive) in
    let read = is_read f x e sized (h.channel, h.token, n, h.id) in
    let effect = spoken_effect site k f x e tt sized (h.channel, h.token, n, h.id) in
    let car : carried f ≡ chunk_by site.channel token number p.id p.bytes = ap or_empty read.says in
    let named : is_known tokens (carried f).token ≡ true = ap (λ (c : Chunk). is_known tokens c.token) car ∙ known in
    took_one site past f k (at a tokens (Some number) next (Some (most used token))) (answers site f.moment (most used token) p.id (Some a) o) (to_list o) all is
    (ap (fault_by site k f) named ∙ part_sound site a tokens last half used token number p o f h n e flag within follow rows whole request)
    (effect.known ∙ (λ i. at a tokens (Some number) (put i) (Some (most used token))))
    (effect.says ∙ ap (λ r. answers site f.moment (most used token) p.id (Some a) r) whole) (effect.asks ∙ ap to_list whole)
    (same_tokens f past (ap is_open read.kind) ∙ have)

-- The frames of a request that arrives: it is served at the moment of the last, and answered.
pub request_took : (site : Site) (past : Past) (a : Agreed) (tokens : List Token) (last : Option ℕ) (half : Option Half) (used : Option ℕ) (token id first n : ℕ) (body : List ℕ) (r : Request) (parts : List Part) (fs : List Frame) (all : List Token)
    → known site past ≡ at a tokens last half used → tokens_in past ≡ all → is_known tokens token ≡ true
    → IsSending site a tokens token id → 1 ≤ first → AreSpoken fs (told site.channel token first n parts) → AreWithin a.ack.receive parts
    → follows_last last (number_after first n) ≡ true → Arrives site.settings.limits.max_message site.settings.limits.max_chunks id body half parts → request_of body ≡ Some r
    → Took site past fs (at a tokens (Some (number_after first (n + length parts - 1))) None (Some (most used token))) (answers site (last_moment fs) (most used token) id (Some a) (Some r)) (served_at (last_moment fs) (r ∷ [])) all
request_took site past a tokens last half used token id first n body r [] fs all at_past have known h some spoken within follow arrives is = absurd arrives
request_took site past a tokens last half used token id first n body r (p ∷ []) [] all at_past have known h some spoken within follow arrives is = absurd spoken
request_took site past a tokens last half used token id first n body r (p ∷ []) (f ∷ g ∷ fs) all at_past have known h some spoken within follow arrives is = absurd spoken.1
request_took site past a tokens last half used token id first n body r (p ∷ q ∷ parts) [] all at_past have known h some spoken within follow arrives is = absurd spoken
request_took site past a tokens last half used token id first n body r (p ∷ q ∷ parts) (f ∷ []) all at_past have known h some spoken within follow arrives is = absurd spoken.1
request_took site past a tokens last half used token id first n body r (p ∷ []) (f ∷ []) all at_past have known h some spoken within follow arrives is =
    let flag : (p.flag == 70) ≡ true = eq-eqb p.flag 70 arrives.1 in
    let whole : whole_with half p.flag p.bytes ≡ Some r = ap (λ b. cond b (request_of (body_of half ++ p.bytes)) None) flag ∙ ap request_of arrives.4 ∙ is in
    let fits : flag_fits kinds.Message p.flag ≡ true = ap (flag_fits kinds.Message) arrives.1 in
    let one = part_took site past a tokens last half None used token (number_after first n) p (Some r) f all at_past have known (sending_as site a tokens token id p.id arrives.0 h) (number_fits first n) spoken.0 fits within.0 follow arrives.2 arrives.3 whole (λ q. refl) in
    let count : n ≡ n + 1 - 1 = omega arith in
    let P : ℕ → ℕ → Type 0 = λ m i. Took site past (f ∷ []) (at a tokens (Some (number_after first m)) None (Some (most used token))) (answers site f.moment (most used token) i (Some a) (Some r)) (served_at f.moment (r ∷ [])) all in
    subst (λ m. P m id) count (subst (λ i. P n i) arrives.0 one)
request_took site past a tokens last half used token id first n body r (p ∷ q ∷ parts) (f ∷ g ∷ fs) all at_past have known h some spoken within follow arrives is =
    let next : Half = half_with id (body_of half ++ p.bytes) (half_parts half + 1) in
    let flag : (p.flag == 70) ≡ false = ap (λ (m : ℕ). m == 70) arrives.1 in
    let whole : whole_with half p.flag p.bytes ≡ None = ap (λ b. cond b (request_of (body_of half ++ p.bytes)) None) flag in
    let fits : flag_fits kinds.Message p.flag ≡ true = ap (flag_fits kinds.Message) arrives.1 in
    let one = part_took site past a tokens last half (Some next) used token (number_after first n) p None f all at_past have known (sending_as site a tokens token id p.id arrives.0 h) (number_fits first n) spoken.0 fits within.0 follow arrives.2 arrives.3 whole
    (λ e. absurd (let clash : true ≡ false = sym e ∙ flag in cc)) in
    let more = request_took site (f ∷ past) a tokens (Some (number_after first n)) (Some next) (Some (most used token)) token id first (n + 1) body r (q ∷ parts) (g ∷ fs) all one.known_is one.issued known h some spoken.1 within.1 (each_follows first n some) arrives.4 is in
    let both = took_more site past f (g ∷ fs) (at a tokens (Some (number_after first n)) (Some next) (Some (most used token))) (at a tokens (Some (number_after first (n + 1 + length (q ∷ parts) - 1))) None (Some (most (Some (most used token)) token)))
    [] (answers site (last_moment (g ∷ fs)) (most (Some (most used token)) token) id (Some a) (Some r)) [] (served_at (last_moment (g ∷ fs)) (r ∷ [])) all all one more in
    let count : n + 1 + length (q ∷ parts) - 1 ≡ n + length (p ∷ q ∷ parts) - 1 = omega arith in
    let P : ℕ → ℕ → Type 0 = λ m u. Took site past (f ∷ g ∷ fs) (at a tokens (Some (number_after first m)) None (Some u)) (answers site (last_moment (g ∷ fs)) u id (Some a) (Some r)) (served_at (last_moment (g ∷ fs)) (r ∷ [])) all in
    subst (λ m. P m (most used token)) count (subst (λ u. P (n + 1 + length (q ∷ parts) - 1) u) (most_twice used token) both)

-- ---- a close request

pub close_took : (site : Site) (past : Past) (a : Agreed) (tokens : List Token) (last used : Option ℕ) (token number id : ℕ) (body : List ℕ) (r : CloseRequest) (f : Frame) (all : List Token)
    → known site past ≡ at a tokens last None used → tokens_in past ≡ all → is_known tokens token ≡ true
    → IsSending site a tokens token id → f.bytes ≡ spell (Closes site.channel token number id body) → number < 2 ^ 32 → 24 + length body ≤ a.ack.receive → follows_last last number ≡ true → close_of body ≡ Some r
    → Took site past (f ∷ []) (at a tokens (Some number) None (Some (most used token))) [] [] all
unfolding chunk_rows_of
close_took site past a tokens last used token number id body r f all is have known h e n within follow closes =
    let k = at a tokens last None used in
    let x = Closes site.channel token number id body in
    let c = chunk_by site.channel token number id body in
    let sized : 24 + length body < 2 ^ 32 = omega (arith, within, h.receive) in
    let proper : IsProper x = (h.channel, h.token, n, h.id) in
    let read = is_read f x e sized proper in
    let says : chunk_of (fields_of f.bytes) ≡ Some c = read.says in
    let allowed : not (is_allowed k (Some kinds.Close)) ≡ false = ap (λ b. not (cond b false true)) (some_tokens tokens h.tokens) in
    let effect = spoken_effect site k f x e tt sized proper in
    let named : is_known tokens (carried f).token ≡ true = ap (λ (o : Option Chunk). is_known tokens (or_empty o).token) says ∙ known in
    let fine : fault_by site k f true ≡ None =
    sound_fault site k f x true e sized refl proper within
    ∙ ap (λ o. cond (not (is_allowed k (Some kinds.Close))) (Some 0x807E0000) (first_row (chunk_rows_of site k o ++ close_rows (or_empty o)))) says
    ∙ ap (λ b. cond b (Some 0x807E0000) (first_row (chunk_rows_of site k (Some c) ++ close_rows c))) allowed
    ∙ join_none (chunk_rows_of site k (Some c)) (close_rows c) (admitted site k token number id body follow)
    ∙ ap (λ o. cond (is_none o) (Some 0x80070000) None) closes in
    took_one site past f k (at a tokens (Some number) None (Some (most used token))) [] [] all is (ap (fault_by site k f) named ∙ fine) effect.known effect.says effect.asks (same_tokens f past (ap is_open read.kind) ∙ have)
