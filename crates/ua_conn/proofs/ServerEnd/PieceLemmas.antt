-- From the bytes of one more piece to all pieces.
use Rattle.std.proofs.Common.{◌≡◌, ℕ, max, false, true, List, [], ◌∷◌, ◌++◌, map, Option, Some, None, sym, ap, subst, ◌∙◌}
use Rattle.std.proofs.lemmas.List.{append-nil}
use Rattle.ua_frame.specs.Streams.{Piece, at, plain, timed, latest, rest_of}
use Rattle.ua_frame.specs.Layout.{frames_of}
use Rattle.ua_service.specs.declared.request.Request.{Request}
use Rattle.ua_conn.specs.server.Site.{Site}
use Rattle.ua_conn.specs.Past.{known}
use Rattle.ua_conn.specs.server.Replies.{Reading, reading_of, replies, failing, handed, end_of}
use Rattle.ua_conn.specs.server.Held.{Held, held, newest_first, GoesOn, Gains}
use Rattle.ua_conn.specs.server.Machine.{run, run_on, gain}
use Rattle.ua_conn.specs.server.Taking.{Running}
use Rattle.ua_conn.specs.server.Feeding.{SaysPart, Hears, HearsPart, Shown, replies_of, Feeds, FeedsPart}
use Rattle.ua_conn.specs.declared.outcome.End.{End}
use Rattle.ua_conn.proofs.ServerEnd.RecordLemmas.{gained, later_reading, none_fails}
use Rattle.ua_conn.proofs.ServerEnd.RunLemmas.{run_is}

-- what runs where that is held
abbrev pub running : Site → Held → ℕ → Running
running site h moment = record { site = site; known = h.known; next = h.next; moment = moment }

pub feeds : (site : Site) (h : Held) (x : Piece) (moment : ℕ) (new : Running) (out out' : List ℕ) (asked : List Request) (left : List ℕ) (came : Option End) (shown : Shown) →
    Hears (running site h moment) new (max h.moment x.moment) (h.rest ++ x.bytes) (record { bytes = out; asked = [] }) (record { bytes = out'; asked = asked }) left came →
    (came ≡ None → shown ≡ record { site = new.site; held = record { known = new.known; next = new.next; moment = max h.moment x.moment; rest = left }; failed = false }) →
    ((e : End) → came ≡ Some e → shown.failed ≡ true) →
    (ps : List Piece) → GoesOn site ps → held site ps ≡ h → Feeds site ps x out out' asked came shown
unfolding gain
feeds site h x moment new out out' asked left came shown r s f ps goes e =
    let g : Gains site ps x (gain site h x) = subst (λ k. Gains site ps x (gain site k x)) e (gained site ps x goes) in
    record {
      added = (gain site h x).bytes;
      out_is = r.said;
      replied = g.replied;
      hands = g.asked ∙ ap (λ qs. handed site (timed ps) ++ qs) (sym r.asked);
      came_is = r.came_is ∙ sym g.stopped;
      shows = λ n. s n
          ∙ (λ i. record { site = r.site n i; held = record { known = r.known n i; next = r.number n i; moment = max h.moment x.moment; rest = r.rest n i }; failed = false })
          ∙ (λ i. record { site = site; held = sym (g.after (sym r.came_is ∙ n)) i; failed = false });
      fails = f;
    }

-- the frames that one more piece adds to the reply
more_replies : (site : Site) (ps : List Piece) (x : Piece) → GoesOn site ps →
    replies_of site (timed (ps ++ x ∷ [])) ≡ replies_of site (timed ps) ++ (run_on site (held site ps).known (max (held site ps).moment x.moment) ((held site ps).rest ++ x.bytes)).replies
unfolding held
more_replies site ps x h =
    let past = newest_first (frames_of (timed ps)) [] in
    let s = map (at (max (latest ps) x.moment)) (plain (rest_of (timed ps)) ++ x.bytes) in
    let now = run_is site past (frames_of s) (plain (rest_of s)) in
    let before = run_is site [] (frames_of (timed ps)) (plain (rest_of (timed ps))) in
    let was : (reading_of site (timed ps)).past ≡ past = before.goes_on h in
    let said : replies_of site (timed ps) ≡ replies site past =
    (λ i. replies site (was i) ++ none_fails (end_of site (timed ps)) h i) ∙ append-nil (replies site past) in
    ap (λ (R : Reading). replies site R.past ++ failing R.ending) (later_reading site ps x h) ∙ now.replied
    ∙ ap (λ rs. rs ++ (run site (known site past) (frames_of s) (plain (rest_of s))).replies) (sym said)

gained_replies : (site : Site) (h : Held) (x : Piece) (ps : List Piece) → GoesOn site ps → held site ps ≡ h →
    replies_of site (timed (ps ++ x ∷ [])) ≡ replies_of site (timed ps) ++ (run_on site h.known (max h.moment x.moment) (h.rest ++ x.bytes)).replies
gained_replies site h x ps goes e =
    more_replies site ps x goes ∙ ap (λ (k : Held). replies_of site (timed ps) ++ (run_on site k.known (max k.moment x.moment) (k.rest ++ x.bytes)).replies) e

-- where memory ran out
pub feeds_part : (site : Site) (h : Held) (x : Piece) (moment : ℕ) (out out' : List ℕ) → HearsPart (running site h moment) (max h.moment x.moment) (h.rest ++ x.bytes) out out' →
    (ps : List Piece) → GoesOn site ps → held site ps ≡ h → FeedsPart site ps x out out'
feeds_part site h x moment out out' part ps goes e = record {
  gained = _;
  replied = gained_replies site h x ps goes e;
  part = subst (λ (n : ℕ). SaysPart site n (run_on site h.known (max h.moment x.moment) (h.rest ++ x.bytes)).replies out out') (ap (λ (k : Held). k.next) (sym e)) part;
}
