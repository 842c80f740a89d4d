-- What the server hears of what waits, piece by piece.
use Rattle.std.proofs.Common.{arith, ◌≡◌, ℕ, zero, suc, min, ◌+◌, ◌-◌, ◌/◌, ◌<◌, ◌≤◌, ◌&&◌, nat_lt, nat_le, ℤ, Bool, true, false, if◌then◌else◌, List, [], ◌∷◌, ◌++◌, length, take, drop, Option, Some, None, is_none, refl, sym, ap, ap₂, subst, ◌∙◌, ◌⊎◌, inl, inr, length-append, append_assoc, append-nil}
use Rattle.std.proofs.lemmas.Bool.{cases_lt}
use Rattle.std.proofs.lemmas.Bool.Decides.{nat_tests}
use Rattle.std.proofs.Math.Nat.{min-eq_left}
use Rattle.std.proofs.lemmas.List.{take-append-drop, drop-append-le, length-take-le}
use Rattle.ua_frame.specs.Streams.{Piece, timed, plain, rest_of}
use Rattle.ua_service.specs.declared.request.Request.{Request}
use Rattle.ua_conn.specs.server.Site.{Site}
use Rattle.ua_conn.specs.server.Replies.{reply_bytes, end_of}
use Rattle.ua_conn.specs.server.Held.{held, stop, GoesOn}
use Rattle.ua_conn.specs.server.Feeding.{Shown as Server, Feeds, FeedsAll, BeginsNoFrame, left_of}
use Rattle.ua_conn.specs.declared.outcome.End.{End}
use Rattle.ua_link.specs.Reads.{piece_at}
use Rattle.ua_link.specs.Turns.{more}
use Rattle.ua_link.specs.Fronts.{IsFront, OneAtMost, wanted}
use Rattle.ua_link.specs.Connections.{Shown, SameStream, behind, IsBounded, Takes, TakesAll, Hears, ending_with, begun_at, is_heard}
use Rattle.ua_link.proofs.StreamLemmas.{same, both, behind_same, behind_parted, more_bytes, no_more}
use Rattle.ua_link.proofs.FrontLemmas.{one_at_most, left_or_all, wanted_short, wanted_long}

-- ---- which connection is heard

pub and_true : (a b : Bool) → (a && b) ≡ true → (a ≡ true) × (b ≡ true)
and_true true b h = (refl, h)
and_true false b h = absurd (cc)

pub no_end : (o : Option End) → is_none o ≡ true → o ≡ None
no_end None h = refl
no_end (Some e) h = absurd (cc)

pub an_end : (o : Option End) → is_none o ≡ false → o ≡ None → ⊥
an_end None h none = absurd (cc)
an_end (Some e) h none = absurd (cc)

parts_of : (c : Shown) → is_heard c ≡ true → (is_none c.ending ≡ true) × (nat_lt 0 (length c.waiting) ≡ true) × (nat_le (length c.owed) 65536 ≡ true)
parts_of c h =
    let t = and_true (is_none c.ending && nat_lt 0 (length c.waiting)) (nat_le (length c.owed) 65536) h in
    let u = and_true (is_none c.ending) (nat_lt 0 (length c.waiting)) t.0 in
    (u.0, u.1, t.1)

pub heard_open : (c : Shown) → is_heard c ≡ true → c.ending ≡ None
heard_open c h = no_end c.ending (parts_of c h).0

pub heard_some : (c : Shown) → is_heard c ≡ true → 0 < length c.waiting
heard_some c h = let t = (parts_of c h).1 in grind (arith, nat_tests, t)

pub heard_bound : (c : Shown) → is_heard c ≡ true → length c.owed ≤ 65536
heard_bound c h = let t = (parts_of c h).2 in grind (arith, nat_tests, t)

-- ---- the end that what was heard brings

pub goes_with : (waiting : List ℕ) (left : ℕ) (came : Option End) → ending_with waiting left came ≡ None → came ≡ None
goes_with waiting left None h = refl
goes_with waiting left (Some e) h = absurd (cc)

pub still_left : (waiting : List ℕ) (left : ℕ) (came : Option End) → ending_with waiting left came ≡ None → waiting ≡ [] → 0 < left
still_left [] zero None h none = absurd (cc)
still_left [] (suc left) None h none = omega arith
still_left [] left (Some e) h none = absurd (cc)
still_left (b ∷ waiting) left came h none = absurd (cc)

still_open : (waiting : List ℕ) (left : ℕ) → (waiting ≡ [] → 0 < left) → None ≡ ending_with waiting left None
still_open [] zero h = absurd (omega (arith, h refl))
still_open [] (suc left) h = refl
still_open (b ∷ waiting) left h = refl

-- ---- nothing is heard

nothing_taken : (site : Site) (ps : List Piece) (c : Shown) → c.server ≡ record { site = site; held = held site ps; failed = false } → c.ending ≡ None → (c.waiting ≡ [] → 0 < c.left) → GoesOn site ps → Takes site ps c c
nothing_taken site ps c shows none some goes = record {
  given = [];
  waited = refl;
  heard = ps;
  stream = same ps;
  said = [];
  replied = sym (append-nil _);
  owed = sym (append-nil c.owed);
  ending = none ∙ still_open c.waiting c.left some ∙ ap (ending_with c.waiting c.left) (sym goes);
  shows = λ g. shows;
  bounded = λ few. absurd (omega (arith, few));
}

pub nothing_heard : (c : Shown) → (c.ending ≡ None → c.waiting ≡ [] → 0 < c.left) → Hears c c
nothing_heard c some = record {
  goes = λ none site ps goes shows. nothing_taken site ps c shows none (some none) goes;
  stays = λ e is. refl;
  came = refl;
  left = refl;
  begun = refl;
  latest = refl;
  active = refl;
  grown = λ none less. omega arith;
  frame = λ none part. same_begun (length c.server.held.rest) (length c.waiting) c.latest c.frame part;
}
  where
    same_begun : (rest w now before : ℕ) → 0 < rest → before ≡ begun_at rest (w - w) now before
    same_begun rest w now before part = grind (arith, nat_tests, part)

-- ---- one part behind another

bounded_more : (site : Site) (ps heard : List Piece) (now : ℤ) (a b : List ℕ) (owed owed' : ℕ) (said : List ℕ) → SameStream heard (behind ps now a) →
    reply_bytes false site (timed heard) ≡ reply_bytes false site (timed ps) ++ said → owed' ≡ owed + length said → IsBounded site heard now b owed' → IsBounded site ps now (a ++ b) owed
bounded_more site ps heard now a b owed owed' said s replied is k =
    let e = more_bytes heard ps now a k.first s in
    record {
      first = a ++ k.first;
      last = k.last;
      joined = ap (λ (l : List ℕ). a ++ l) k.joined ∙ sym (append_assoc a k.first k.last);
      one = subst (λ t. OneAtMost (plain (rest_of t)) k.last) e k.one;
      bound = omega (arith, k.bound, is, ap (λ t. length (reply_bytes false site t)) e, ap length replied, length-append (reply_bytes false site (timed ps)) said);
    }

bounded_both : (site : Site) (ps heard : List Piece) (now : ℤ) (a b : List ℕ) (owed owed' : ℕ) (said : List ℕ) → SameStream heard (behind ps now a) →
    reply_bytes false site (timed heard) ≡ reply_bytes false site (timed ps) ++ said → owed' ≡ owed + length said → (0 < length a → IsBounded site ps now a owed) → (0 < length b → IsBounded site heard now b owed') →
    0 < length (a ++ b) → IsBounded site ps now (a ++ b) owed
bounded_both site ps heard now a [] owed owed' said s replied is f g some =
    subst (λ (l : List ℕ). IsBounded site ps now l owed) (sym (append-nil a)) (f (omega (arith, some, length-append a [])))
bounded_both site ps heard now a (x ∷ b) owed owed' said s replied is f g some = bounded_more site ps heard now a (x ∷ b) owed owed' said s replied is (g (omega arith))

takes_more : (site : Site) (ps : List Piece) (a b c : Shown) (t : Takes site ps a b) → Takes site t.heard b c → b.came ≡ a.came → b.left ≡ a.left → Takes site ps a c
takes_more site ps a b c t u came left = record {
  given = t.given ++ u.given;
  waited = t.waited ∙ ap (λ (l : List ℕ). t.given ++ l) u.waited ∙ sym (append_assoc t.given u.given c.waiting);
  heard = u.heard;
  stream = both u.heard (behind t.heard a.came u.given) (behind ps a.came (t.given ++ u.given)) (subst (λ now. SameStream u.heard (behind t.heard now u.given)) came u.stream)
      (both (behind t.heard a.came u.given) (behind (behind ps a.came t.given) a.came u.given) (behind ps a.came (t.given ++ u.given))
      (behind_same t.heard (behind ps a.came t.given) a.came u.given t.stream) (behind_parted ps a.came t.given u.given));
  said = t.said ++ u.said;
  replied = u.replied ∙ ap (λ (l : List ℕ). l ++ u.said) t.replied ∙ append_assoc (reply_bytes false site (timed ps)) t.said u.said;
  owed = u.owed ∙ ap (λ (l : List ℕ). l ++ u.said) t.owed ∙ append_assoc a.owed t.said u.said;
  ending = u.ending ∙ ap (λ (k : ℕ). ending_with c.waiting k (stop (end_of site (timed u.heard)))) left;
  shows = u.shows;
  bounded = bounded_both site ps t.heard a.came t.given u.given (length a.owed) (length b.owed) t.said t.stream t.replied (ap length t.owed ∙ length-append a.owed t.said)
      t.bounded (λ some. subst (λ now. IsBounded site t.heard now u.given (length b.owed)) came (u.bounded some));
}

taken_both : (site : Site) (ps : List Piece) (a b c : Shown) → Takes site ps a b → (b.ending ≡ None → TakesAll b c) → ((e : End) → b.ending ≡ Some e → c ≡ b) → b.came ≡ a.came → b.left ≡ a.left →
    (b.ending ≡ None) ⊎ ((e : End) × (b.ending ≡ Some e)) → Takes site ps a c
taken_both site ps a b c t goes stays came left (inl none) =
    let g : GoesOn site t.heard = goes_with b.waiting a.left (stop (end_of site (timed t.heard))) (sym t.ending ∙ none) in
    takes_more site ps a b c t (goes none site t.heard g (t.shows g)) came left
taken_both site ps a b c t goes stays came left (inr ended) = subst (λ (v : Shown). Takes site ps a v) (sym (stays ended.0 ended.1)) t

pub either_end : (o : Option End) → (o ≡ None) ⊎ ((e : End) × (o ≡ Some e))
either_end None = inl refl
either_end (Some e) = inr (e, refl)

-- lengths of what is left of a frame
grown_both : (r s t x y z : ℕ) → (x - y < s → s ≡ r + (x - y)) → (y - z < t → t ≡ s + (y - z)) → y ≤ x → z ≤ y → x - z < t → t ≡ r + (x - z)
grown_both r s t x y z f g le le' less =
    let first = g (omega (arith, le, le', less)) in
    omega (arith, first, f (omega (arith, first, le, le', less)), le, le')

begun_both : (s t x y z now frame frame' frame'' : ℕ) → (y - z < t → t ≡ s + (y - z)) → (0 < s → frame' ≡ begun_at s (x - y) now frame) → frame'' ≡ begun_at t (y - z) now frame' → y ≤ x → z ≤ y → 0 < t →
    (y - z < t) ⊎ (t ≤ y - z) → (x - y < s) ⊎ (s ≤ x - y) → frame'' ≡ begun_at t (x - z) now frame
begun_both s t x y z now frame frame' frame'' g f is le le' some (inr new) h =
    let all : t ≤ x - z = omega (arith, new, le, le') in
    grind (arith, nat_tests, is, new, all)
begun_both s t x y z now frame frame' frame'' g f is le le' some (inl old) (inl older) =
    let part : 0 < s = omega (arith, older) in
    let all : x - z < t = omega (arith, older, g old, le, le') in
    let before = f part in
    grind (arith, nat_tests, is, old, older, all, before)
begun_both s t x y z now frame frame' frame'' g f is le le' some (inl old) (inr newer) = by (cases_lt 0 s)
  where
    by : (0 < s) ⊎ (s ≤ 0) → frame'' ≡ begun_at t (x - z) now frame
    by (inl part) =
        let all : t ≤ x - z = omega (arith, newer, g old, le, le') in
        let before = f part in
        grind (arith, nat_tests, is, old, newer, all, before)
    by (inr none) = absurd (omega (arith, g old, none, old))

-- ---- one hearing behind another

shorter : (old given new : List ℕ) → old ≡ given ++ new → length new ≤ length old
shorter old given new is = omega (arith, ap length is, length-append given new)

-- The parts are no longer than what waited, where `shorter` says so.
pub heard_both : (a b c : Shown) → Hears a b → Hears b c → length b.waiting ≤ length a.waiting → length c.waiting ≤ length b.waiting → Hears a c
heard_both a b c h k le le' = record {
  goes = λ none site ps goes shows. taken_both site ps a b c (h.goes none site ps goes shows) k.goes k.stays h.came h.left (either_end b.ending);
  stays = λ e is. (let same = h.stays e is in k.stays e (ap (λ (v : Shown). v.ending) same ∙ is) ∙ same);
  came = k.came ∙ h.came;
  left = k.left ∙ h.left;
  begun = k.begun ∙ h.begun;
  latest = k.latest ∙ h.latest;
  active = k.active ∙ h.active;
  grown = λ none less. grown_to none less (either_end b.ending);
  frame = λ none part. begun_to none part (either_end b.ending);
}
  where
    r : ℕ
    r = length a.server.held.rest

    s : ℕ
    s = length b.server.held.rest

    t : ℕ
    t = length c.server.held.rest

    x : ℕ
    x = length a.waiting

    y : ℕ
    y = length b.waiting

    z : ℕ
    z = length c.waiting

    no_way : (e : End) → b.ending ≡ Some e → c.ending ≡ None → ⊥
    no_way e is none = let r = sym none ∙ ap (λ (v : Shown). v.ending) (k.stays e is) ∙ is in cc

    grown_to : c.ending ≡ None → x - z < t → (b.ending ≡ None) ⊎ ((e : End) × (b.ending ≡ Some e)) → t ≡ r + (x - z)
    grown_to none less (inl goes) = grown_both r s t x y z (h.grown goes) (k.grown none) le le' less
    grown_to none less (inr ended) = absurd (no_way ended.0 ended.1 none)

    begun_to : c.ending ≡ None → 0 < t → (b.ending ≡ None) ⊎ ((e : End) × (b.ending ≡ Some e)) → c.frame ≡ begun_at t (x - z) a.latest a.frame
    begun_to none part (inl goes) = begun_both s t x y z a.latest a.frame b.frame c.frame (k.grown none) (h.frame goes)
        (subst (λ (now : ℕ). c.frame ≡ begun_at t (y - z) now b.frame) h.latest (k.frame none part)) le le' part (cases_lt (y - z) t) (cases_lt (x - y) s)
    begun_to none part (inr ended) = absurd (no_way ended.0 ended.1 none)

-- ---- one piece

halved : (n m : ℕ) → n + n ≤ m → n ≤ m / 2
halved n m le = omega (arith, le)

short : (out : ℕ) (said said' added : List ℕ) → said' ≡ said ++ added → out + out ≤ length said → min out (length said' / 2) ≡ out
short out said said' added is within = min-eq_left (halved out (length said') (omega (arith, within, ap length is, length-append said added)))

-- before a piece which makes at most one frame whole
bounded_by : (site : Site) (ps : List Piece) (now : ℤ) (piece : List ℕ) (owed : ℕ) → OneAtMost (held site ps).rest piece → owed ≤ 65536 → IsBounded site ps now piece owed
unfolding held
bounded_by site ps now piece owed one bound = record {
  first = [];
  last = piece;
  joined = refl;
  one = subst (λ t. OneAtMost (plain (rest_of t)) piece) (sym (no_more ps now)) one;
  bound = omega (arith, bound, ap (λ t. length (reply_bytes false site t)) (no_more ps now));
}

-- the stream is the same
one_more : (ps : List Piece) (now : ℤ) (piece : List ℕ) → 0 < length piece → SameStream (more ps now piece) (behind ps now piece)
one_more ps now [] some = absurd (omega (arith, some))
one_more ps now (b ∷ piece) some = same (more ps now (b ∷ piece))

-- what it said is owed behind what was owed
pub took : (site : Site) (ps : List Piece) (old new : Shown) (piece : List ℕ) (out out' : ℕ) (said said' : List ℕ) (asked : List Request) (came : Option End) (server : Server) →
    Feeds site ps (piece_at old.came piece) said said' asked came server → 0 < length piece → old.waiting ≡ piece ++ new.waiting → OneAtMost (held site ps).rest piece → length old.owed ≤ 65536 →
    old.owed ≡ drop out said → out + out ≤ length said → out' ≡ min out (length said' / 2) → new.owed ≡ drop out' said' → new.server ≡ server → new.ending ≡ ending_with new.waiting old.left came → Takes site ps old new
took site ps old new piece out out' said said' asked came server f some waited one bound was within least owes is ends = record {
  given = piece;
  waited = waited;
  heard = more ps old.came piece;
  stream = one_more ps old.came piece some;
  said = f.added;
  replied = f.replied false;
  owed = owes ∙ ap (λ k. drop k said') (least ∙ short out said said' f.added f.out_is within) ∙ ap (drop out) f.out_is ∙ drop-append-le out said f.added (omega (arith, within)) ∙ ap (λ o. o ++ f.added) (sym was);
  ending = ends ∙ ap (ending_with new.waiting old.left) f.came_is;
  shows = λ goes. is ∙ f.shows (f.came_is ∙ goes);
  bounded = λ many. bounded_by site ps old.came piece (length old.owed) one bound;
}

fed_of : (site : Site) (ps : List Piece) (server : Server) (x : Piece) (out out' : List ℕ) (asked : List Request) (came : Option End) (new : Server) → FeedsAll server x out out' asked came new → GoesOn site ps →
    server ≡ record { site = site; held = held site ps; failed = false } → Feeds site ps x out out' asked came new
fed_of site ps server x out out' asked came new all goes shows =
    let h = subst (λ (v : Server). FeedsAll v x out out' asked came new) shows all in h ps goes refl

-- whatever it heard before
pub took_all : (old new : Shown) (piece : List ℕ) (header : List ℕ) (got missing out out' : ℕ) (said said' : List ℕ) (asked : List Request) (came : Option End) (server : Server) →
    FeedsAll old.server (piece_at old.came piece) said said' asked came server → IsFront header got missing old.server.held.rest → length piece ≤ wanted got missing → 0 < length piece → old.waiting ≡ piece ++ new.waiting → length old.owed ≤ 65536 →
    old.owed ≡ drop out said → out + out ≤ length said → out' ≡ min out (length said' / 2) → new.owed ≡ drop out' said' → new.server ≡ server → new.ending ≡ ending_with new.waiting old.left came → TakesAll old new
took_all old new piece header got missing out out' said said' asked came server all front most some waited bound was within least owes is ends = λ site ps goes shows.
    took site ps old new piece out out' said said' asked came server (fed_of site ps old.server (piece_at old.came piece) said said' asked came server all goes shows) some waited
    (subst (λ (v : Server). OneAtMost v.held.rest piece) shows (one_at_most header got missing old.server.held.rest piece front most)) bound was within least owes is ends

-- how much of a frame is there then, and since when
grown_so : (r : List ℕ) (piece rest : List ℕ) (header : List ℕ) (got missing given : ℕ) → IsFront header got missing r → length piece ≤ wanted got missing → given ≡ length piece → rest ≡ left_of (r ++ piece) → given < length rest →
    length rest ≡ length r + given
grown_so r piece rest header got missing given front most is left less = by (left_or_all header got missing r piece front most)
  where
    by : (left_of (r ++ piece) ≡ []) ⊎ (BeginsNoFrame (r ++ piece) × (left_of (r ++ piece) ≡ r ++ piece)) → length rest ≡ length r + given
    by (inl none) = absurd (omega (arith, less, ap length left, ap length none))
    by (inr all) = omega (arith, ap length left, ap length all.1, length-append r piece, is)

begun_so : (r : List ℕ) (piece rest : List ℕ) (header : List ℕ) (got missing given now frame frame' : ℕ) → IsFront header got missing r → length piece ≤ wanted got missing → given ≡ length piece → rest ≡ left_of (r ++ piece) → 0 < length rest →
    frame' ≡ (if nat_lt 0 (length r) then frame else now) → frame' ≡ begun_at (length rest) given now frame
begun_so r piece rest header got missing given now frame frame' front most is left some e = by (left_or_all header got missing r piece front most) (cases_lt 0 (length r))
  where
    by : (left_of (r ++ piece) ≡ []) ⊎ (BeginsNoFrame (r ++ piece) × (left_of (r ++ piece) ≡ r ++ piece)) → (0 < length r) ⊎ (length r ≤ 0) → frame' ≡ begun_at (length rest) given now frame
    by (inl none) b = absurd (omega (arith, some, ap length left, ap length none))
    by (inr all) (inl part) =
        let longer : given < length rest = omega (arith, ap length left, ap length all.1, length-append r piece, is, part) in
        grind (arith, nat_tests, e, part, longer)
    by (inr all) (inr whole) =
        let as_long : length rest ≤ given = omega (arith, ap length left, ap length all.1, length-append r piece, is, whole) in
        grind (arith, nat_tests, e, whole, as_long)

pub front_heard : (old new : Shown) (piece : List ℕ) (header : List ℕ) (got missing : ℕ) (came : Option End) → old.ending ≡ None → IsFront header got missing old.server.held.rest → length piece ≤ wanted got missing → old.waiting ≡ piece ++ new.waiting →
    new.ending ≡ ending_with new.waiting old.left came → (came ≡ None → new.server.held.rest ≡ left_of (old.server.held.rest ++ piece)) → new.frame ≡ (if nat_lt 0 (length old.server.held.rest) then old.frame else old.latest) → TakesAll old new →
    new.came ≡ old.came → new.left ≡ old.left → new.begun ≡ old.begun → new.latest ≡ old.latest → new.active ≡ old.active → Hears old new
front_heard old new piece header got missing came none front most waited ends left frame all same_came same_left same_begun same_latest same_active = record {
  goes = λ e. all;
  stays = λ e is. absurd (let r = sym none ∙ is in cc);
  came = same_came;
  left = same_left;
  begun = same_begun;
  latest = same_latest;
  active = same_active;
  grown = λ on less. grown_so old.server.held.rest piece new.server.held.rest header got missing (length old.waiting - length new.waiting) front most given (left (goes_with new.waiting old.left came (sym ends ∙ on))) less;
  frame = λ on some. begun_so old.server.held.rest piece new.server.held.rest header got missing (length old.waiting - length new.waiting) old.latest old.frame new.frame front most given
      (left (goes_with new.waiting old.left came (sym ends ∙ on))) some frame;
}
  where
    given : length old.waiting - length new.waiting ≡ length piece
    given = omega (arith, ap length waited, length-append piece new.waiting)

-- what is cut off the front of what waits
pub front_cut : (w piece rest : List ℕ) (n m k : ℕ) → piece ≡ take n w → rest ≡ drop n w → n ≡ min m k → k ≡ length w → (w ≡ piece ++ rest) × (length piece ≤ m) × (0 < m → 0 < k → 0 < length piece)
front_cut w piece rest n m k is left least len =
    let within : n ≤ length w = omega (arith, least, len) in
    let long : length piece ≡ n = ap length is ∙ length-take-le n w within in
    (sym (take-append-drop n w) ∙ ap₂ (λ (a b : List ℕ). a ++ b) (sym is) (sym left), omega (arith, long, least), λ some more. omega (arith, long, least, some, more))

pub some_wanted : (got missing : ℕ) → 0 < wanted got missing
some_wanted got missing = by (cases_lt got 8)
  where
    by : (got < 8) ⊎ (8 ≤ got) → 0 < wanted got missing
    by (inl less) = omega (arith, less, wanted_short got missing less)
    by (inr more) = omega (arith, wanted_long got missing more)
