-- Lists of frames one behind another: what holds of each, beginnings, and frames that are sent or said, cut in two.
use mathlib.Core.List.{IsPrefix}
use Rattle.std.proofs.Common.{◌≡◌, ℕ, ◌+◌, ◌<◌, ◌≤◌, ◌^◌, List, [], ◌∷◌, ◌++◌, length, refl, sym, ap, subst, ◌∙◌, arith, lit<}
use Rattle.std.specs.List.{AllByRecursion, flat_map}
use Rattle.std.proofs.lemmas.List.{length-append, length-map, map-append}
use Rattle.ua_frame.specs.Layout.{Frame}
use Rattle.ua_chunk.specs.Numbers.{number_after}
use Rattle.ua_conn.specs.server.Site.{Site}
use Rattle.ua_conn.specs.Past.{Past, known}
use Rattle.ua_conn.specs.server.Replies.{Reply, spelled, more_numbered, numbered_after, spelled_all, replies}
use Rattle.ua_conn.specs.server.Held.{newest_first}
use Rattle.ua_conn.specs.client.Pending.{bytes_in}
use Rattle.ua_conn.specs.client.Sending.{Sent, sent_bytes, more_sent, sent_after}
use Rattle.ua_conn.specs.BothEnds.{AllAfter}
use Rattle.ua_conn.proofs.ServerEnd.ReadyLemmas.{newest_append}
use Rattle.ua_conn.proofs.ServerEnd.NumberLemmas.{spelled_append}
use Rattle.ua_conn.proofs.BothEnds.OnTheWayLemmas.{frames_sent, frames_replied, Are, past_of}
use Rattle.ua_conn.proofs.BothEnds.SpokenRequestLemmas.{replies_go, says_all}

-- ---- what holds of each behind those before it

pub all_join : (P : Past → Frame → Type 0) (past : Past) (xs ys : List Frame) → AllAfter P past xs → AllAfter P (newest_first xs past) ys → AllAfter P past (xs ++ ys)
all_join P past [] ys h k = k
all_join P past (x ∷ xs) ys h k = (h.0, all_join P (x ∷ past) xs ys h.1 k)

pub all_front : (P : Past → Frame → Type 0) (past : Past) (xs ys : List Frame) → AllAfter P past (xs ++ ys) → AllAfter P past xs
all_front P past [] ys h = tt
all_front P past (x ∷ xs) ys h = (h.0, all_front P (x ∷ past) xs ys h.1)

pub all_back : (P : Past → Frame → Type 0) (past : Past) (xs ys : List Frame) → AllAfter P past (xs ++ ys) → AllAfter P (newest_first xs past) ys
all_back P past [] ys h = h
all_back P past (x ∷ xs) ys h = all_back P (x ∷ past) xs ys h.1

pub all_prefix : (P : Past → Frame → Type 0) (past : Past) (xs ys : List Frame) → IsPrefix xs ys → AllAfter P past ys → AllAfter P past xs
all_prefix P past xs ys p h = all_front P past xs p.0 (subst (λ l. AllAfter P past l) (sym p.1) h)

pub all_both : (P Q R : Past → Frame → Type 0) (past : Past) (xs : List Frame) → ((past : Past) (f : Frame) → P past f → Q past f → R past f) → AllAfter P past xs → AllAfter Q past xs → AllAfter R past xs
all_both P Q R past [] g h k = tt
all_both P Q R past (x ∷ xs) g h k = (g past x h.0 k.0, all_both P Q R (x ∷ past) xs g h.1 k.1)

-- ---- beginnings

pub prefix_length : {A : Type 0} (xs ys : List A) → IsPrefix xs ys → length xs ≤ length ys
prefix_length xs ys p = omega (arith, ap length p.1, length-append xs p.0)

-- of two beginnings of one list the shorter begins the longer
pub prefix_shorter : {A : Type 0} (xs ys zs : List A) → IsPrefix xs zs → IsPrefix ys zs → length xs ≤ length ys → IsPrefix xs ys
prefix_shorter [] ys zs p q le = (ys, refl)
prefix_shorter (x ∷ xs) [] zs p q le = absurd (omega (arith, le))
prefix_shorter (x ∷ xs) (y ∷ ys) [] p q le = absurd (cc (p.1))
prefix_shorter (x ∷ xs) (y ∷ ys) (z ∷ zs) p q le =
    let heads : x ≡ y = cc (p.1, q.1) in
    let rest = prefix_shorter xs ys zs (p.0, cc (p.1)) (q.0, cc (q.1)) (omega (arith, le)) in
    (rest.0, cc (heads, rest.1))

-- ---- frames by their bytes

-- the frames are the first of these, and then the others
pub record Cut (ps : List Frame) (fs gs : List (List ℕ)) : Type 0 where
  pub front : List Frame
  pub back : List Frame
  pub whole : front ++ back ≡ ps
  pub is_front : Are front fs
  pub is_back : Are back gs

pub cut : (ps : List Frame) (fs gs : List (List ℕ)) → Are ps (fs ++ gs) → Cut ps fs gs
cut ps [] gs e = record { front = []; back = ps; whole = refl; is_front = refl; is_back = e }
cut [] (f ∷ fs) gs e = absurd (cc e)
cut (p ∷ ps) (f ∷ fs) gs e =
    let head : p.bytes ≡ f = cc e in
    let tail : Are ps (fs ++ gs) = cc e in
    let c = cut ps fs gs tail in
    record { front = p ∷ c.front; back = c.back; whole = ap (λ l. p ∷ l) c.whole; is_front = (λ i. head i ∷ c.is_front i); is_back = c.is_back }

pub are_join : (ps qs : List Frame) (fs gs : List (List ℕ)) → Are ps fs → Are qs gs → Are (ps ++ qs) (fs ++ gs)
are_join ps qs fs gs e d = map-append (λ (f : Frame). f.bytes) ps qs ∙ (λ i. e i ++ d i)

pub are_length : (ps : List Frame) (fs : List (List ℕ)) → Are ps fs → length ps ≡ length fs
are_length ps fs e = sym (length-map ps (λ (f : Frame). f.bytes)) ∙ ap length e

-- frames of these bytes, all at moment 0
abbrev pub placed : List (List ℕ) → List Frame
placed [] = []
placed (b ∷ bs) = record { bytes = b; moment = 0 } ∷ placed bs

pub placed_are : (bs : List (List ℕ)) → Are (placed bs) bs
placed_are [] = refl
placed_are (b ∷ bs) = ap (λ l. b ∷ l) (placed_are bs)

-- moments that a clock shows
abbrev pub Timely : List Frame → Type 0
Timely ps = AllByRecursion (λ (f : Frame). f.moment < 2 ^ 63) ps

pub placed_timely : (bs : List (List ℕ)) → Timely (placed bs)
placed_timely [] = tt
placed_timely (b ∷ bs) = (lit< tt, placed_timely bs)

pub timely_join : (ps qs : List Frame) → Timely ps → Timely qs → Timely (ps ++ qs)
timely_join [] qs h k = k
timely_join (p ∷ ps) qs h k = (h.0, timely_join ps qs h.1 k)

pub timely_front : (ps qs : List Frame) → Timely (ps ++ qs) → Timely ps
timely_front [] qs h = tt
timely_front (p ∷ ps) qs h = (h.0, timely_front ps qs h.1)

pub timely_back : (ps qs : List Frame) → Timely (ps ++ qs) → Timely qs
timely_back [] qs h = h
timely_back (p ∷ ps) qs h = timely_back ps qs h.1

-- the place behind them
pub place_of : (ps : List Frame) (fs : List (List ℕ)) (past : Past) → Are ps fs → bytes_in (newest_first ps past) ≡ bytes_in past + length (flat_map (λ f. f) fs)
place_of [] [] past e = omega arith
place_of [] (f ∷ fs) past e = absurd (cc e)
place_of (p ∷ ps) [] past e = absurd (cc e)
place_of (p ∷ ps) (f ∷ fs) past e =
    let head : p.bytes ≡ f = cc e in
    let tail : Are ps fs = cc e in
    omega (arith, place_of ps fs (p ∷ past) tail, ap length head, length-append f (flat_map (λ f. f) fs))

-- ---- frames that are sent and said

pub sent_cut : (first n : ℕ) (xs ys : List Sent) → frames_sent first n (xs ++ ys) ≡ frames_sent first n xs ++ frames_sent first (sent_after n xs) ys
sent_cut first n [] ys = refl
sent_cut first n (x ∷ xs) ys = ap (λ l. sent_bytes (number_after first n) x ∷ l) (sent_cut first (more_sent n x) xs ys)

pub replied_cut : (site : Site) (n : ℕ) (rs qs : List Reply) → frames_replied site n (rs ++ qs) ≡ frames_replied site n rs ++ frames_replied site (numbered_after n rs) qs
replied_cut site n [] qs = refl
replied_cut site n (r ∷ rs) qs = ap (λ l. spelled site (number_after 1 n) r ∷ l) (replied_cut site (more_numbered n r) rs qs)

-- what is said to a beginning of frames begins what is said to all
pub replies_begin : (site : Site) (gs ps : List Frame) → IsPrefix gs ps → IsPrefix (replies site (past_of gs)) (replies site (past_of ps))
replies_begin site gs ps p =
    let rest = says_all site (known site (past_of gs)) p.0 in
    (rest, sym (replies_go site (past_of gs) p.0) ∙ ap (replies site) (sym (newest_append gs p.0 []) ∙ ap past_of p.1))

-- the bytes of a beginning are no more
pub spelled_length : (site : Site) (rs qs : List Reply) → IsPrefix rs qs → length (spelled_all site 0 rs) ≤ length (spelled_all site 0 qs)
spelled_length site rs qs p =
    omega (arith, ap length (sym (ap (spelled_all site 0) p.1) ∙ spelled_append site 0 rs p.0), length-append (spelled_all site 0 rs) (spelled_all site (numbered_after 0 rs) p.0))
