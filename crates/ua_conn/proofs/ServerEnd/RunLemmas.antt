-- Reading frames one after another, on the whole past and on the record of what is known.
use Rattle.std.proofs.Common.{◌≡◌, ℕ, Bool, true, false, cond, List, [], ◌∷◌, ◌++◌, Option, Some, None, refl, sym, subst, ◌∙◌, append_assoc}
use Rattle.std.proofs.lemmas.List.{append-nil}
use Rattle.ua_frame.specs.Layout.{Frame, kind_of}
use Rattle.ua_conn.specs.server.Site.{Site}
use Rattle.ua_conn.specs.Past.{Past, Known, known, is_close}
use Rattle.ua_conn.specs.server.Faults.{fault_at}
use Rattle.ua_conn.specs.server.Replies.{Failed, Reading, reading, failing, replies, requests, reply_to, handed_at}
use Rattle.ua_conn.specs.server.Held.{newest_first, stop}
use Rattle.ua_conn.specs.server.Machine.{Run, run, behind, known_after}
use Rattle.ua_conn.specs.declared.outcome.End.TheVariants.{Closed, Refused}
use Rattle.ua_conn.proofs.ServerEnd.KnownLemmas.{known_step}

-- what the run brings is what the reading has past `past`
pub record IsRun (site : Site) (past : Past) (fs : List Frame) (R : Reading) (r : Run) : Type 0 where
  pub replied : replies site R.past ++ failing R.ending ≡ replies site past ++ r.replies
  pub asked : requests site R.past ≡ requests site past ++ r.asked
  pub ending : R.ending ≡ r.ending
  pub goes_on : stop R.ending ≡ None → R.past ≡ newest_first fs past
  pub known : stop R.ending ≡ None → known site (newest_first fs past) ≡ r.known

some_none : {A B : Type 0} {a : A} → Some a ≡ None → B
some_none e = absurd (cc)

cases : (o : Option ℕ) (b : Bool) (site : Site) (past : Past) (f : Frame) (fs : List Frame) (R : Reading) (r : Run) → IsRun site (f ∷ past) fs R r →
    IsRun site past (f ∷ fs)
    (elim o [ Some status ↦ record { past = past; ending = Refused status } | None ↦ cond b (record { past = f ∷ past; ending = Closed }) R ])
    (elim o [
      | Some status ↦ record { replies = Failed status ∷ []; asked = []; ending = Refused status; known = known site past }
      | None ↦ cond b (record { replies = reply_to site (known site past) f; asked = handed_at (known site past) f; ending = Closed; known = known_after site (known site past) f })
          (behind (reply_to site (known site past) f) (handed_at (known site past) f) r)
    ])
cases (Some status) b site past f fs R r h = record { replied = refl; asked = sym (append-nil _); ending = refl; goes_on = λ e. some_none e; known = λ e. some_none e }
cases None true site past f fs R r h = record { replied = append-nil _; asked = refl; ending = refl; goes_on = λ e. some_none e; known = λ e. some_none e }
cases None false site past f fs R r h = record {
  replied = h.replied ∙ append_assoc (replies site past) (reply_to site (known site past) f) r.replies;
  asked = h.asked ∙ append_assoc (requests site past) (handed_at (known site past) f) r.asked;
  ending = h.ending;
  goes_on = h.goes_on;
  known = h.known;
}

pub run_is : (site : Site) (past : Past) (fs : List Frame) (rest : List ℕ) → IsRun site past fs (reading site past fs rest) (run site (known site past) fs rest)
run_is site past [] rest = record { replied = refl; asked = sym (append-nil _); ending = refl; goes_on = λ _. refl; known = λ _. refl }
run_is site past (f ∷ fs) rest =
    let P : Known → Type 0 = λ k. IsRun site (f ∷ past) fs (reading site (f ∷ past) fs rest) (run site k fs rest) in
    cases (fault_at site (known site past) f) (is_close (kind_of f.bytes)) site past f fs (reading site (f ∷ past) fs rest) (run site (known_after site (known site past) f) fs rest)
    (subst P (known_step site f past) (run_is site (f ∷ past) fs rest))

more_cases : (o : Option ℕ) (b : Bool) (past : Past) (f : Frame) (R R' R'' : Reading) → (stop R.ending ≡ None → R' ≡ R'') →
    (let first : Reading = elim o [ Some status ↦ record { past = past; ending = Refused status } | None ↦ cond b (record { past = f ∷ past; ending = Closed }) R ] in stop first.ending ≡ None) →
    elim o [ Some status ↦ record { past = past; ending = Refused status } | None ↦ cond b (record { past = f ∷ past; ending = Closed }) R' ] ≡ R''
more_cases (Some status) b past f R R' R'' h e = some_none e
more_cases None true past f R R' R'' h e = some_none e
more_cases None false past f R R' R'' h e = h e

-- where neither fault nor CLO came, reading goes on where it stood
pub reading_more : (site : Site) (past : Past) (fs gs : List Frame) (rest rest' : List ℕ) → stop (reading site past fs rest).ending ≡ None →
    reading site past (fs ++ gs) rest' ≡ reading site (newest_first fs past) gs rest'
reading_more site past [] gs rest rest' e = refl
reading_more site past (f ∷ fs) gs rest rest' e =
    more_cases (fault_at site (known site past) f) (is_close (kind_of f.bytes)) past f
    (reading site (f ∷ past) fs rest) (reading site (f ∷ past) (fs ++ gs) rest') (reading site (newest_first fs (f ∷ past)) gs rest')
    (reading_more site (f ∷ past) fs gs rest rest') e
