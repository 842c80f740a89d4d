-- Frames that a server takes one after another: what is known then, what is said, and what is handed on.
use Rattle.std.proofs.Common.{◌≡◌, ℕ, ◌+◌, ◌<◌, ◌≤◌, ◌^◌, Bool, true, false, cond, ◌&&◌, List, [], ◌∷◌, ◌++◌, length, Option, Some, None, is_none, refl, sym, ap, subst, ◌∙◌, append_assoc, arith}
use Rattle.std.specs.Prelude.{◌==◌}
use Rattle.std.specs.List.{AllByRecursion}
use Rattle.std.proofs.lemmas.Bool.{ne_eqb}
use Rattle.std.proofs.lemmas.List.{append-nil}
use Rattle.ua_frame.specs.Layout.{Frame, kind_of}
use Rattle.ua_frame.specs.Rows.{first_row}
use Rattle.ua_chunk.specs.Cut.{Part}
use Rattle.ua_chunk.specs.Half.{Half, body_of, part_rows}
use Rattle.ua_chunk.specs.Numbers.{number_after}
use Rattle.ua_channel.specs.declared.token.Token.{Token}
use Rattle.ua_channel.specs.Channel.{most}
use Rattle.ua_service.specs.declared.request.Request.{Request}
use Rattle.ua_service.specs.Requests.{request_of}
use Rattle.ua_conn.specs.server.Site.{Site}
use Rattle.ua_conn.specs.Past.{Past, Agreed, Known, known, is_close}
use Rattle.ua_conn.specs.server.Faults.{fault_at, message_rows}
use Rattle.ua_conn.specs.server.Replies.{Reply, reply_to, replies, handed_at}
use Rattle.ua_conn.specs.server.Held.{newest_first}
use Rattle.ua_conn.specs.server.Machine.{known_after}
use Rattle.ua_conn.specs.server.Effects.{Effect}
use Rattle.ua_conn.specs.server.Parts.{whole_with}
use Rattle.ua_conn.proofs.ServerEnd.KnownLemmas.{known_step}
use Rattle.ua_conn.proofs.ServerEnd.TypeLemmas.{IsEffect}
use Rattle.ua_conn.proofs.TableLemmas.{join_none}
use Rattle.ua_conn.proofs.BothEnds.SpokenLemmas.{Spoken, Tells, spell}
use Rattle.ua_conn.proofs.BothEnds.SpokenEffectLemmas.{chunk_by}

-- ---- frames that are taken, one after another

-- no row holds at any of them, and none is a CLO
abbrev pub Goes : Site → Known → List Frame → Type 0
Goes site k [] = Unit {0}
Goes site k (f ∷ fs) = (fault_at site k f ≡ None) × (is_close (kind_of f.bytes) ≡ false) × Goes site (known_after site k f) fs

abbrev pub known_all : Site → Known → List Frame → Known
known_all site k [] = k
known_all site k (f ∷ fs) = known_all site (known_after site k f) fs

abbrev pub says_all : Site → Known → List Frame → List Reply
says_all site k [] = []
says_all site k (f ∷ fs) = reply_to site k f ++ says_all site (known_after site k f) fs

abbrev pub asks_all : Site → Known → List Frame → List Request
asks_all site k [] = []
asks_all site k (f ∷ fs) = handed_at k f ++ asks_all site (known_after site k f) fs

-- from k to k', saying rs and handing qs on
pub record Taken (site : Site) (k k' : Known) (fs : List Frame) (rs : List Reply) (qs : List Request) : Type 0 where
  pub goes : Goes site k fs
  pub known : known_all site k fs ≡ k'
  pub says : says_all site k fs ≡ rs
  pub asks : asks_all site k fs ≡ qs

-- by its effect
pub taken_one : (site : Site) (k : Known) (f : Frame) (e : Effect) → fault_at site k f ≡ None → is_close (kind_of f.bytes) ≡ false → IsEffect e site k f → Taken site k e.known (f ∷ []) e.says e.asks
taken_one site k f e fine stays h = record { goes = (fine, stays, tt); known = h.known; says = append-nil (reply_to site k f) ∙ h.says; asks = append-nil (handed_at k f) ∙ h.asks }

pub taken_more : (site : Site) (k k1 k2 : Known) (f : Frame) (fs : List Frame) (rs ss : List Reply) (ps qs : List Request) → Taken site k k1 (f ∷ []) rs ps → Taken site k1 k2 fs ss qs → Taken site k k2 (f ∷ fs) (rs ++ ss) (ps ++ qs)
taken_more site k k1 k2 f fs rs ss ps qs one more =
    let step : known_after site k f ≡ k1 = one.known in
    record {
      goes = (one.goes.0, one.goes.1, subst (λ (x : Known). Goes site x fs) (sym step) more.goes);
      known = ap (λ (x : Known). known_all site x fs) step ∙ more.known;
      says = (λ i. (sym (append-nil (reply_to site k f)) ∙ one.says) i ++ says_all site (step i) fs) ∙ ap (λ l. rs ++ l) more.says;
      asks = (λ i. (sym (append-nil (handed_at k f)) ∙ one.asks) i ++ asks_all site (step i) fs) ∙ ap (λ l. ps ++ l) more.asks;
    }

-- ---- one part

abbrev pub at : Agreed → List Token → Option ℕ → Option Half → Option ℕ → Known
at a tokens last half used = record { limits = Some a; tokens = tokens; last = last; half = half; used = used }

pub some_tokens : (tokens : List Token) → 0 < length tokens → (length tokens == 0) ≡ false
some_tokens tokens some = ne_eqb (length tokens) 0 (λ e. omega (arith, e, some))

-- what does not change from part to part
pub record IsSending (site : Site) (a : Agreed) (known : List Token) (named request : ℕ) : Type 0 where
  pub channel : site.channel < 2 ^ 32
  pub token : named < 2 ^ 32
  pub id : request < 2 ^ 32
  pub tokens : 0 < length known
  pub receive : a.ack.receive < 2 ^ 32

pub message_none : (site : Site) (k : Known) (token number id flag : ℕ) (body : List ℕ)
    → first_row (part_rows site.settings.limits.max_message site.settings.limits.max_chunks k.half flag id body) ≡ None → (flag == 70 && is_none (request_of (body_of k.half ++ body))) ≡ false
    → first_row (message_rows site k flag (chunk_by site.channel token number id body)) ≡ None
message_none site k token number id flag body parts whole =
    join_none (part_rows site.settings.limits.max_message site.settings.limits.max_chunks k.half flag id body) ((flag == 70 && is_none (request_of (body_of k.half ++ body)), 0x80070000) ∷ []) parts ∙ rw whole refl

pub whole_false : (half : Option Half) (flag : ℕ) (body : List ℕ) (o : Option Request) → whole_with half flag body ≡ o → ((flag == 70) ≡ true → is_none o ≡ false) → (flag == 70 && is_none (request_of (body_of half ++ body))) ≡ false
whole_false half flag body o e h = by (flag == 70) refl
  where
    by : (b : Bool) → (flag == 70) ≡ b → (b && is_none (request_of (body_of half ++ body))) ≡ false
    by false q = refl
    by true q =
        let same : request_of (body_of half ++ body) ≡ o = ap (λ c. cond c (request_of (body_of half ++ body)) None) (sym q) ∙ e in
        ap is_none same ∙ h q

-- ---- all parts

abbrev pub told : ℕ → ℕ → ℕ → ℕ → List Part → List Spoken
told channel token first n [] = []
told channel token first n (p ∷ parts) = Tells channel token (number_after first n) p ∷ told channel token first (n + 1) parts

-- the frames are these, one by one
abbrev pub AreSpoken : List Frame → List Spoken → Type 0
AreSpoken [] [] = Unit {0}
AreSpoken [] (x ∷ xs) = ⊥
AreSpoken (f ∷ fs) [] = ⊥
AreSpoken (f ∷ fs) (x ∷ xs) = (f.bytes ≡ spell x) × AreSpoken fs xs

-- the moment of the last frame
abbrev pub last_moment : List Frame → ℕ
last_moment [] = 0
last_moment (f ∷ []) = f.moment
last_moment (f ∷ g ∷ fs) = last_moment (g ∷ fs)

-- each at most as large as the server takes
abbrev pub AreWithin : ℕ → List Part → Type 0
AreWithin limit parts = AllByRecursion (λ (p : Part). 24 + length p.bytes ≤ limit) parts

pub most_twice : (used : Option ℕ) (token : ℕ) → most (Some (most used token)) token ≡ most used token
most_twice None token = omega arith
most_twice (Some n) token = omega arith

pub sending_as : (site : Site) (a : Agreed) (tokens : List Token) (token id m : ℕ) → m ≡ id → IsSending site a tokens token id → IsSending site a tokens token m
sending_as site a tokens token id m e h = record { channel = h.channel; token = h.token; id = omega (arith, e, h.id); tokens = h.tokens; receive = h.receive }

-- what is said to frames behind others
pub replies_go : (site : Site) (past : Past) (fs : List Frame) → replies site (newest_first fs past) ≡ replies site past ++ says_all site (known site past) fs
replies_go site past [] = sym (append-nil (replies site past))
replies_go site past (f ∷ fs) =
    replies_go site (f ∷ past) fs
    ∙ ap (λ (k : Known). (replies site past ++ reply_to site (known site past) f) ++ says_all site k fs) (known_step site f past)
    ∙ append_assoc (replies site past) (reply_to site (known site past) f) (says_all site (known_after site (known site past) f) fs)
