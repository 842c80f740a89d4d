-- What a server answers to a stream begins what it answers to a longer one.
use mathlib.Core.List.{IsPrefix}
use Rattle.std.proofs.Common.{◌≡◌, ℕ, Bool, List, [], ◌++◌, append_assoc, Option, Some, None, refl, sym, ap, ◌∙◌}
use Rattle.std.proofs.lemmas.List.{append-nil}
use Rattle.ua_frame.specs.Streams.{TimedByte, plain, rest_of}
use Rattle.ua_frame.specs.Layout.{frames_of}
use Rattle.ua_frame.specs.LayoutLaws.{frames_more}
use Rattle.ua_conn.specs.server.Site.{Site}
use Rattle.ua_conn.specs.Past.{known}
use Rattle.ua_conn.specs.server.Replies.{Reading, reading, reading_of, replies, failing, spelled_all, numbered_after, end_of, answering_bytes, reply_bytes}
use Rattle.ua_conn.specs.server.Greeting.{greeting}
use Rattle.ua_conn.specs.server.Held.{newest_first, stop}
use Rattle.ua_conn.specs.server.Machine.{run}
use Rattle.ua_conn.specs.declared.outcome.End.{End}
use Rattle.ua_conn.proofs.ServerEnd.RecordLemmas.{none_fails}
use Rattle.ua_conn.proofs.ServerEnd.NumberLemmas.{spelled_append}
use Rattle.ua_conn.proofs.ServerEnd.RunLemmas.{run_is, reading_more}
use Rattle.ua_conn.proofs.ServerEnd.StopLemmas.{reading_stays}

answers_grow : (site : Site) (s t : List TimedByte) → IsPrefix (answering_bytes site s) (answering_bytes site (s ++ t))
answers_grow site s t = by (stop (end_of site s)) refl
  where
    all_bytes : Reading → List ℕ
    all_bytes R = spelled_all site 0 (replies site R.past ++ failing R.ending)

    by : (o : Option End) → stop (end_of site s) ≡ o → IsPrefix (answering_bytes site s) (answering_bytes site (s ++ t))
    by (Some e) h = ([], append-nil _ ∙ ap all_bytes (sym (reading_stays site s t e h)))
    by None h =
        let fs = frames_of s in
        let more = frames_more s t in
        let past = newest_first fs [] in
        let gs = frames_of (rest_of s ++ t) in
        let rest = plain (rest_of (rest_of s ++ t)) in
        let was = (run_is site [] fs (plain (rest_of s))).goes_on h in
        let now = run_is site past gs rest in
        let r = run site (known site past) gs rest in
        let all : reading_of site (s ++ t) ≡ reading site past gs rest =
        (λ i. reading site [] (more.0 i) (plain (more.1 i))) ∙ reading_more site [] fs gs (plain (rest_of s)) rest h in
        let said : answering_bytes site s ≡ spelled_all site 0 (replies site past) =
        (λ i. spelled_all site 0 (replies site (was i) ++ none_fails (end_of site s) h i)) ∙ ap (spelled_all site 0) (append-nil (replies site past)) in (
          spelled_all site (numbered_after 0 (replies site past)) r.replies,
          ap (λ b. b ++ spelled_all site (numbered_after 0 (replies site past)) r.replies) said
              ∙ sym (spelled_append site 0 (replies site past) r.replies) ∙ ap (spelled_all site 0) (sym now.replied) ∙ ap all_bytes (sym all),
        )

pub reply_grows : (reverse : Bool) (site : Site) (s t : List TimedByte) → IsPrefix (reply_bytes reverse site s) (reply_bytes reverse site (s ++ t))
reply_grows reverse site s t =
    let first = greeting reverse site.settings in
    let more = answers_grow site s t in
    (more.0, append_assoc first (answering_bytes site s) more.0 ∙ ap (λ b. first ++ b) more.1)
