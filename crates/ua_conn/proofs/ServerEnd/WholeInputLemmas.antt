-- A list of pieces, fed one after another.
use Rattle.std.proofs.Common.{◌≡◌, ℕ, ℤ, ◌+◌, ◌<◌, ◌≤◌, Bool, true, cond, List, [], ◌∷◌, ◌++◌, take, drop, length, get_or, Option, Some, None, false, refl, sym, ap, subst, ◌∙◌}
use Rattle.std.specs.Borrow.{Bor}
use Rattle.std.proofs.lemmas.List.{append-nil, map-append, take-append-drop, take_all, take_more}
use Rattle.ua_frame.specs.Streams.{Piece, moment_of, pieces_of, timed, cuts_within, rest_within, plain, rest_of}
use Rattle.ua_frame.specs.Layout.{Frame, frames_of, kind_of}
use Rattle.ua_service.specs.declared.request.Request.{Request}
use Rattle.ua_conn.specs.server.Site.{Site}
use Rattle.ua_conn.specs.Past.{Past, known, is_close}
use Rattle.ua_conn.specs.server.Faults.{fault_at, fault_in_rest}
use Rattle.ua_conn.specs.server.Replies.{Reading, reading, ended, end_of, reply_bytes, handed}
use Rattle.ua_conn.specs.server.Greeting.{greeting}
use Rattle.ua_conn.specs.server.Held.{held, stop}
use Rattle.ua_conn.specs.server.Feeding.{Shown, Feeds, FeedsAll, Answering}
use Rattle.ua_conn.specs.declared.outcome.End.{End}
use Rattle.ua_conn.specs.declared.outcome.End.TheVariants.{Closed, InputEnded, Truncated, Refused, LinkFailed, TurnsSpent, NoMemory}
use Rattle.ua_conn.proofs.ServerEnd.StopLemmas.{stays}

abbrev pub Entry : Type 0
Entry = ℤ × Bor (List ℕ)

abbrev pub piece_of : Entry → Piece
piece_of p = record { moment = moment_of p.0; bytes = p.1.now }

pub none_yet : (reverse : Bool) (site : Site) (reply : List ℕ) (asked : List Request) (shown : Shown) → reply ≡ greeting reverse site.settings → asked ≡ [] → shown ≡ record { site = site; held = held site []; failed = false } → Answering reverse site [] reply asked shown
unfolding fault_in_rest cuts_within rest_within
none_yet reverse site reply asked shown r q e = record { goes_on = refl; shows = e; replied = r ∙ sym (append-nil (greeting reverse site.settings)); hands = q }

fed : (reverse : Bool) (site : Site) (done : List Piece) (x : Piece) (reply reply' : List ℕ) (asked more : List Request) (came : Option End) (old new : Shown) →
    Answering reverse site done reply asked old → FeedsAll old x reply reply' more came new → Feeds site done x reply reply' more came new
fed reverse site done x reply reply' asked more came old new a f =
    let same : old.site ≡ site = ap (λ (s : Shown). s.site) a.shows in
    rw same at (f done (rw same a.goes_on) (rw same (sym (ap (λ (s : Shown). s.held) a.shows))))

-- the first pieces and one more
one_more : (ps : List Entry) (i : ℕ) (d : Entry) → i < length ps → pieces_of (take (i + 1) ps) ≡ pieces_of (take i ps) ++ piece_of (get_or ps i d) ∷ []
one_more ps i d l = ap pieces_of (take_more ps i d l) ∙ map-append piece_of (take i ps) (get_or ps i d ∷ [])

-- the piece at i brings no end
pub goes_on : (reverse : Bool) (site : Site) (ps : List Entry) (i : ℕ) (d : Entry) (reply reply' : List ℕ) (asked asked' more : List Request) (old new : Shown) → i < length ps →
    Answering reverse site (pieces_of (take i ps)) reply asked old → FeedsAll old (piece_of (get_or ps i d)) reply reply' more None new → asked' ≡ asked ++ more →
    Answering reverse site (pieces_of (take (i + 1) ps)) reply' asked' new
goes_on reverse site ps i d reply reply' asked asked' more old new l a f q =
    let b = fed reverse site (pieces_of (take i ps)) (piece_of (get_or ps i d)) reply reply' asked more None old new a f in
    subst (λ done. Answering reverse site done reply' asked' new) (sym (one_more ps i d l)) (record {
      goes_on = sym b.came_is;
      shows = b.shows refl;
      replied = b.out_is ∙ ap (λ o. o ++ b.added) a.replied ∙ sym (b.replied reverse);
      hands = q ∙ ap (λ o. o ++ more) a.hands ∙ sym b.hands;
    })

-- an end to which a server comes by itself is the end
stop_is : (ending e : End) → stop ending ≡ Some e → e ≡ ending
stop_is Closed e h = cc
stop_is InputEnded e h = absurd (cc)
stop_is Truncated e h = absurd (cc)
stop_is (Refused status) e h = cc
stop_is LinkFailed e h = absurd (cc)
stop_is TurnsSpent e h = absurd (cc)
stop_is NoMemory e h = absurd (cc)

-- what all pieces bring
pub record Answers (reverse : Bool) (site : Site) (ps : List Piece) (reply : List ℕ) (asked : List Request) (e : End) : Type 0 where
  pub replied : reply ≡ reply_bytes reverse site (timed ps)
  pub hands : asked ≡ handed site (timed ps)
  pub ending : e ≡ end_of site (timed ps)

-- the piece at i brings an end, and the later ones count no more
pub ended_at : (reverse : Bool) (site : Site) (ps : List Entry) (i : ℕ) (d : Entry) (reply reply' : List ℕ) (asked asked' more : List Request) (e : End) (old new : Shown) → i < length ps →
    Answering reverse site (pieces_of (take i ps)) reply asked old → FeedsAll old (piece_of (get_or ps i d)) reply reply' more (Some e) new → asked' ≡ asked ++ more →
    Answers reverse site (pieces_of ps) reply' asked' e
ended_at reverse site ps i d reply reply' asked asked' more e old new l a f q =
    let x = piece_of (get_or ps i d) in
    let done = pieces_of (take i ps) in
    let later = pieces_of (drop (i + 1) ps) in
    let all : pieces_of ps ≡ (done ++ x ∷ []) ++ later =
    ap pieces_of (sym (take-append-drop (i + 1) ps)) ∙ map-append piece_of (take (i + 1) ps) (drop (i + 1) ps) ∙ ap (λ l. l ++ later) (one_more ps i d l) in
    let b = fed reverse site done x reply reply' asked more (Some e) old new a f in
    let same = stays reverse site (done ++ x ∷ []) later e (sym b.came_is) in
    record {
      replied = b.out_is ∙ ap (λ o. o ++ b.added) a.replied ∙ sym (b.replied reverse) ∙ sym same.0 ∙ ap (λ l. reply_bytes reverse site (timed l)) (sym all);
      hands = q ∙ ap (λ o. o ++ more) a.hands ∙ sym b.hands ∙ sym same.1 ∙ ap (λ l. handed site (timed l)) (sym all);
      ending = stop_is (end_of site (timed (pieces_of ps))) e (ap (λ l. stop (end_of site (timed l))) all ∙ ap stop same.2 ∙ sym b.came_is);
    }

quiet_end : (o : Option ℕ) (rest : List ℕ) → stop (ended o rest) ≡ None → ended None rest ≡ ended o rest
quiet_end None rest h = refl
quiet_end (Some status) rest h = absurd (cc)

rest_ends_cases : (o : Option ℕ) (b : Bool) (past : Past) (f : Frame) (rest : List ℕ) (R : Reading) → (stop R.ending ≡ None → ended None rest ≡ R.ending) →
    (let first : Reading = elim o [ Some status ↦ record { past = past; ending = Refused status } | None ↦ cond b (record { past = f ∷ past; ending = Closed }) R ] in
    stop first.ending ≡ None → ended None rest ≡ first.ending)
rest_ends_cases (Some status) b past f rest R h e = absurd (cc)
rest_ends_cases None true past f rest R h e = absurd (cc)
rest_ends_cases None false past f rest R h e = h e

-- a reading that goes on ends with its rest
rest_ends : (site : Site) (past : Past) (fs : List Frame) (rest : List ℕ) → stop (reading site past fs rest).ending ≡ None → ended None rest ≡ (reading site past fs rest).ending
rest_ends site past [] rest h = quiet_end (fault_in_rest (known site past) rest) rest h
rest_ends site past (f ∷ fs) rest h =
    rest_ends_cases (fault_at site (known site past) f) (is_close (kind_of f.bytes)) past f rest (reading site (f ∷ past) fs rest) (rest_ends site (f ∷ past) fs rest) h

-- all pieces are done, and the input ends
pub ends : (reverse : Bool) (site : Site) (ps : List Entry) (i : ℕ) (reply : List ℕ) (asked : List Request) (shown : Shown) → length ps ≤ i → Answering reverse site (pieces_of (take i ps)) reply asked shown →
    Answers reverse site (pieces_of ps) reply asked (ended None shown.held.rest)
unfolding held
ends reverse site ps i reply asked shown l a =
    let all : take i ps ≡ ps = take_all i ps l in
    let b = subst (λ (qs : List Entry). Answering reverse site (pieces_of qs) reply asked shown) all a in
    let s = timed (pieces_of ps) in
    record {
      replied = b.replied;
      hands = b.hands;
      ending = ap (λ (v : Shown). ended None v.held.rest) b.shows ∙ rest_ends site [] (frames_of s) (plain (rest_of s)) b.goes_on;
    }
