-- What a piece brings to a server that goes on depends on what is held alone.
use Rattle.std.proofs.Common.{◌≡◌, max, Bool, List, [], ◌∷◌, ◌++◌, append_assoc, map, None, refl, sym, ap, subst, ◌∙◌}
use Rattle.std.proofs.lemmas.List.{append-nil}
use Rattle.ua_frame.specs.Streams.{Piece, plain, timed, latest, at, rest_of}
use Rattle.ua_frame.specs.Layout.{frames_of}
use Rattle.ua_frame.specs.StreamLaws.{latest_more}
use Rattle.ua_frame.specs.MomentLaws.{one_piece_more}
use Rattle.ua_chunk.specs.Numbers.{number_after}
use Rattle.ua_conn.specs.server.Site.{Site}
use Rattle.ua_conn.specs.Past.{known}
use Rattle.ua_conn.specs.server.Replies.{reading, reading_of, replies, requests, failing, spelled_all, numbered_after, end_of, answering_bytes, reply_bytes}
use Rattle.ua_conn.specs.server.Greeting.{greeting}
use Rattle.ua_conn.specs.server.Held.{newest_first, held, stop, GoesOn, Gains, ByRecord}
use Rattle.ua_conn.specs.server.Machine.{run, next_after, gain}
use Rattle.ua_conn.specs.declared.outcome.End.{End}
use Rattle.ua_conn.specs.declared.outcome.End.TheVariants.{Closed, InputEnded, Truncated, Refused, LinkFailed, TurnsSpent, NoMemory}
use Rattle.ua_conn.proofs.ServerEnd.ReadyLemmas.{newest_append}
use Rattle.ua_conn.proofs.ServerEnd.NumberLemmas.{all_numbers, numbered_append, spelled_append, spelled_is_next}
use Rattle.ua_conn.proofs.ServerEnd.RunLemmas.{run_is, reading_more}

pub none_fails : (e : End) → stop e ≡ None → failing e ≡ []
none_fails Closed h = absurd (cc)
none_fails InputEnded h = refl
none_fails Truncated h = refl
none_fails (Refused status) h = absurd (cc)
none_fails LinkFailed h = refl
none_fails TurnsSpent h = refl
none_fails NoMemory h = refl

-- what the reading is after one more piece
pub later_reading : (site : Site) (ps : List Piece) (x : Piece) → GoesOn site ps →
    (let s = map (at (max (latest ps) x.moment)) (plain (rest_of (timed ps)) ++ x.bytes) in
    reading_of site (timed (ps ++ x ∷ [])) ≡ reading site (newest_first (frames_of (timed ps)) []) (frames_of s) (plain (rest_of s)))
later_reading site ps x h =
    let s = map (at (max (latest ps) x.moment)) (plain (rest_of (timed ps)) ++ x.bytes) in
    let later = one_piece_more ps x in
    (λ i. reading site [] (later.0 i) (later.1 i))
    ∙ reading_more site [] (frames_of (timed ps)) (frames_of s) (plain (rest_of (timed ps))) (plain (rest_of s)) h

pub gained : (site : Site) (ps : List Piece) (x : Piece) → GoesOn site ps → Gains site ps x (gain site (held site ps) x)
unfolding held gain
gained site ps x h =
    let past = newest_first (frames_of (timed ps)) [] in
    let s = map (at (max (latest ps) x.moment)) (plain (rest_of (timed ps)) ++ x.bytes) in
    let now = run_is site past (frames_of s) (plain (rest_of s)) in
    let before = run_is site [] (frames_of (timed ps)) (plain (rest_of (timed ps))) in
    let R = reading site past (frames_of s) (plain (rest_of s)) in
    let r = run site (known site past) (frames_of s) (plain (rest_of s)) in
    let later = later_reading site ps x h in
    let was : (reading_of site (timed ps)).past ≡ past = before.goes_on h in
    let said : answering_bytes site (timed ps) ≡ spelled_all site 0 (replies site past) =
    (λ i. spelled_all site 0 (replies site (was i) ++ none_fails (end_of site (timed ps)) h i)) ∙ ap (spelled_all site 0) (append-nil (replies site past)) in
    let answered = ap (λ R. spelled_all site 0 (replies site R.past ++ failing R.ending)) later ∙ ap (spelled_all site 0) now.replied
    ∙ spelled_append site 0 (replies site past) r.replies
    ∙ (λ i. sym said i ++ spelled_is_next site (numbered_after 0 (replies site past)) r.replies i) in
    record {
      replied = λ reverse. ap (λ b. greeting reverse site.settings ++ b) answered ∙ sym (append_assoc (greeting reverse site.settings) (answering_bytes site (timed ps)) _);
      asked = ap (λ R. requests site R.past) later ∙ now.asked ∙ ap (λ p. requests site p ++ r.asked) (sym was);
      stopped = ap (λ R. stop R.ending) later ∙ ap stop now.ending;
      after = λ e.
          (let goes : stop R.ending ≡ None = ap stop now.ending ∙ e in
          let frames : newest_first (frames_of (timed (ps ++ x ∷ []))) [] ≡ newest_first (frames_of s) past =
          ap (λ fs. newest_first fs []) (one_piece_more ps x).0 ∙ newest_append (frames_of (timed ps)) (frames_of s) [] in
          let told : replies site (newest_first (frames_of s) past) ≡ replies site past ++ r.replies =
          ap (replies site) (sym (now.goes_on goes)) ∙ sym (append-nil _) ∙ ap (λ l. replies site R.past ++ l) (sym (none_fails R.ending goes)) ∙ now.replied in
          let numbers : number_after 1 (numbered_after 0 (replies site (newest_first (frames_of (timed (ps ++ x ∷ []))) []))) ≡ next_after (number_after 1 (numbered_after 0 (replies site past))) r.replies =
          ap (λ p. number_after 1 (numbered_after 0 (replies site p))) frames ∙ ap (λ rs. number_after 1 (numbered_after 0 rs)) told
          ∙ ap (number_after 1) (numbered_append 0 (replies site past) r.replies) ∙ all_numbers (numbered_after 0 (replies site past)) r.replies in
          let seen : known site (newest_first (frames_of (timed (ps ++ x ∷ []))) []) ≡ r.known = ap (known site) frames ∙ now.known goes in
          λ i. record { known = seen i; next = numbers i; moment = latest_more 0 ps x i; rest = (one_piece_more ps x).1 i });
    }

pub by_record : ByRecord
by_record site h x = (gain site h x, λ ps goes e. subst (λ k. Gains site ps x (gain site k x)) e (gained site ps x goes))
