-- What a server makes of a Hello and an open request that a client sent.
use Rattle.std.proofs.Common.{◌≡◌, ℕ, ◌+◌, ◌<◌, ◌≤◌, ◌^◌, Bool, true, false, cond, not, List, [], ◌∷◌, length, Option, Some, None, is_some, refl, ap, ◌∙◌, arith}
use Rattle.std.specs.Prelude.{◌==◌, nat_lt, nat_le, pos}
use Rattle.std.specs.List.{AllByRecursion}
use Rattle.std.proofs.lemmas.Bool.{eq-eqb, le-ltb, lt-leb}
use Rattle.std.proofs.lemmas.Slice.Eq.{bytes_eq-Decides}
use Rattle.ua_frame.specs.Layout.{Frame, kind_of}
use Rattle.ua_frame.specs.Rows.{first_row}
use Rattle.ua_frame.specs.Hello.{hello_layout, hello_rows, negotiated, is_long}
use Rattle.ua_frame.specs.FrameLaws.{hello_frame_short}
use Rattle.ua_frame.specs.declared.kind.Kind.TheVariants as kinds
use Rattle.ua_frame.specs.declared.hello.Hello.{Hello}
use Rattle.ua_chunk.specs.Layout.{policy_none}
use Rattle.ua_chunk.specs.Cut.{Part}
use Rattle.ua_chunk.specs.FrameLaws.{IsPartOf}
use Rattle.ua_channel.specs.declared.token.Token.{Token}
use Rattle.ua_channel.specs.Token.{newest_id, next_token, two_newest}
use Rattle.ua_channel.specs.Admission.{is_text, follows_last, awaited_channel, awaited_type, is_int}
use Rattle.ua_service.specs.declared.channel.OpenRequest.{OpenRequest}
use Rattle.ua_service.specs.ChannelMessages.{open_of}
use Rattle.ua_conn.specs.server.Site.{Site}
use Rattle.ua_conn.specs.server.Answers.{opened_body}
use Rattle.ua_conn.specs.Past.{Agreed, Known, agreed, is_close, known, lifetime_asked}
use Rattle.ua_conn.specs.server.Faults.{channel_of, is_allowed, fault_at, open_rows, request_rows}
use Rattle.ua_conn.specs.server.Replies.{Acknowledge, Opened, opened_by}
use Rattle.ua_conn.proofs.BothEnds.SpokenLemmas.{Greets, Opens, spell, is_read}
use Rattle.ua_conn.proofs.BothEnds.SpokenEffectLemmas.{opening_of, effect_of, spoken_effect, spoken_fault}
use Rattle.ua_conn.proofs.BothEnds.SpokenRequestLemmas.{Taken, taken_one, at, AreWithin}

-- ---- the Hello

-- before the first frame
abbrev pub nothing : Known
nothing = record { limits = None; tokens = []; last = None; half = None; used = None }

pub nothing_known : (site : Site) → known site [] ≡ nothing
unfolding known
nothing_known site = refl

hello_none : (h : Hello) → is_long h.url ≡ false → 8192 ≤ h.receive → 8192 ≤ h.send → first_row (hello_rows (Some h)) ≡ None
hello_none h short receive send =
    let one : nat_lt h.receive 8192 ≡ false = le-ltb h.receive 8192 receive in
    let two : nat_lt h.send 8192 ≡ false = le-ltb h.send 8192 send in
    rw (short, one, two) refl

pub hello_taken : (site : Site) (h : Hello) (f : Frame) → f.bytes ≡ spell (Greets h) → hello_layout.IsValue h → is_long h.url ≡ false → 8192 ≤ h.receive → 8192 ≤ h.send
    → Taken site nothing (at (agreed site h) [] None None None) (f ∷ []) (Acknowledge (negotiated site.settings.limits h) ∷ []) []
hello_taken site h f e is short receive send =
    let x = Greets h in
    let fine : fault_at site nothing f ≡ None = spoken_fault site nothing f x e tt short refl is (omega (arith, hello_frame_short h short)) ∙ hello_none h short receive send in
    let kind : is_close (kind_of f.bytes) ≡ false = ap is_close (is_read f x e short is).kind in
    taken_one site nothing f (effect_of site nothing f.moment x) fine kind (spoken_effect site nothing f x e tt short is)

-- ---- open requests

pub text_same : (text : List ℕ) → is_text text (Some text) ≡ true
text_same text = (bytes_eq-Decides text text).1 refl

pub request_none : (site : Site) (k : Known) (r : OpenRequest) → r.request_type ≡ pos (awaited_type (channel_of site k)) → r.security_mode ≡ pos 1 → newest_id k.tokens < 4294967295 → first_row (request_rows site k (Some r)) ≡ None
request_none site k r type mode unspent =
    let t = awaited_type (channel_of site k) in
    let one : is_int t r.request_type ≡ true = ap (is_int t) type ∙ eq-eqb t t refl in
    let two : is_int 1 r.security_mode ≡ true = ap (is_int 1) mode in
    let spent : nat_le 4294967295 (newest_id k.tokens) ≡ false = lt-leb 4294967295 (newest_id k.tokens) unspent in
    λ i. cond (not (one i)) (Some 0x80530000) (cond (not (two i)) (Some 0x80540000) (cond (spent i) (Some 0x80810000) None))

open_none : (site : Site) (k : Known) (channel number id : ℕ) (body : List ℕ) (r : OpenRequest) → channel ≡ awaited_channel (channel_of site k) → follows_last k.last number ≡ true → k.half ≡ None → open_of body ≡ Some r
    → first_row (request_rows site k (Some r)) ≡ None → first_row (open_rows site k (Some (opening_of channel number id body))) ≡ None
open_none site k channel number id body r own follow none is rows =
    let one : (channel == awaited_channel (channel_of site k)) ≡ true = eq-eqb channel (awaited_channel (channel_of site k)) own in
    let two = text_same policy_none in
    let all : first_row (request_rows site k (open_of body)) ≡ None = ap (λ o. first_row (request_rows site k o)) is ∙ rows in
    λ i. cond (not (one i)) (Some 0x807F0000) (cond (not (two i)) (Some 0x80550000) (cond (not (follow i)) (Some 0x80880000) (cond (is_some (none i)) (Some 0x807E0000) (all i))))

-- The first names channel 0 and issues, each later one names the channel and renews.
pub open_taken : (site : Site) (a : Agreed) (tokens : List Token) (last used : Option ℕ) (channel number id : ℕ) (body : List ℕ) (r : OpenRequest) (f : Frame)
    → f.bytes ≡ spell (Opens channel number id body) → channel ≡ awaited_channel (channel_of site (at a tokens last None used)) → length body ≤ 8113 → 8192 ≤ a.ack.receive → channel < 2 ^ 32 → number < 2 ^ 32 → id < 2 ^ 32
    → follows_last last number ≡ true → newest_id tokens < 4294967295
    → open_of body ≡ Some r → r.request_type ≡ pos (awaited_type (channel_of site (at a tokens last None used))) → r.security_mode ≡ pos 1
    → Taken site (at a tokens last None used) (at a (two_newest (next_token tokens f.moment r.requested_lifetime ∷ tokens)) (Some number) None used) (f ∷ [])
    (Opened id (opened_body r.header.request_handle f.moment site.channel (next_token tokens f.moment r.requested_lifetime)) ∷ []) []
open_taken site a tokens last used channel number id body r f e own short room c n i follow unspent is type mode =
    let k = at a tokens last None used in
    let x = Opens channel number id body in
    let sized : 79 + length body < 2 ^ 32 = omega (arith, short) in
    let allowed : is_allowed k (Some kinds.Open) ≡ true = either (length tokens == 0) in
    let fine : fault_at site k f ≡ None =
    spoken_fault site k f x e tt sized refl (c, n, i) (omega (arith, short, room))
    ∙ ap (λ b. cond (not b) (Some 0x807E0000) (first_row (effect_of site k f.moment x).rows)) allowed
    ∙ open_none site k channel number id body r own follow refl is (request_none site k r type mode unspent) in
    let kind : is_close (kind_of f.bytes) ≡ false = ap is_close (is_read f x e sized (c, n, i)).kind in
    let one = taken_one site k f (effect_of site k f.moment x) fine kind (spoken_effect site k f x e tt sized (c, n, i)) in
    record {
      goes = one.goes;
      known = one.known ∙ ap (λ o. at a (two_newest (next_token tokens f.moment (lifetime_asked o) ∷ tokens)) (Some number) None used) is;
      says = one.says ∙ ap (λ o. opened_by site k f.moment (Some (opening_of channel number id body)) o) is;
      asks = one.asks;
    }
  where
    either : (b : Bool) → cond b true true ≡ true
    either true = refl
    either false = refl

-- ---- a request, as it is asked

pub parts_within : (id k limit : ℕ) (parts : List Part) → 24 + k ≤ limit → AllByRecursion (IsPartOf id k) parts → AreWithin limit parts
parts_within id k limit [] le h = tt
parts_within id k limit (p ∷ parts) le h = (omega (arith, h.0.size, le), parts_within id k limit parts le h.1)
