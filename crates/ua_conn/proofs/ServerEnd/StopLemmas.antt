-- Once a stream has a fault or a CLO, what comes later changes nothing.
use Rattle.std.proofs.Common.{◌≡◌, ℕ, ◌≤◌, Bool, true, false, cond, List, [], ◌∷◌, ◌++◌, map, take, Option, Some, None, refl, sym, ap, ◌∙◌}
use Rattle.std.proofs.lemmas.List.{map-append}
use Rattle.ua_frame.specs.Streams.{TimedByte, plain, size_of, cuts_of, rest_of, timed, timed_since, latest_since}
use Rattle.ua_frame.specs.StreamLaws.{timed_append, framed_more}
use Rattle.ua_frame.specs.Layout.{Frame, frame_by, frames_of, kind_of, flag_of}
use Rattle.ua_frame.specs.Rows.{first_row, or_else}
use Rattle.ua_frame.specs.HeaderLaws.{header_fault_take, header_fault_stays}
use Rattle.ua_conn.specs.server.Site.{Site}
use Rattle.ua_conn.specs.Past.{Past, Known, known, is_close}
use Rattle.ua_conn.specs.server.Faults.{fault_at, fault_in_rest, greatest_frame, frame_rows}
use Rattle.ua_conn.specs.server.Replies.{Reading, reading, reading_of, ended, replies, requests, failing, spelled_all, end_of}
use Rattle.ua_conn.specs.server.Greeting.{greeting}
use Rattle.ua_conn.specs.server.Held.{stop}
use Rattle.ua_conn.specs.server.Whole.{StaysStopped}
use Rattle.ua_conn.specs.declared.outcome.End.{End}
use Rattle.ua_conn.specs.declared.outcome.End.TheVariants.{Closed, Refused}
use Rattle.ua_conn.proofs.FrontFrameLemmas.{front_of, by_front}

-- the reading with a rest that has a bad header or none
later_cases : (o : Option ℕ) (b : Bool) (past : Past) (f : Frame) (R R' : Reading) (e : End) → (stop R.ending ≡ Some e → R' ≡ R) →
    (let first : Reading = elim o [ Some status ↦ record { past = past; ending = Refused status } | None ↦ cond b (record { past = f ∷ past; ending = Closed }) R ] in
    let later : Reading = elim o [ Some status ↦ record { past = past; ending = Refused status } | None ↦ cond b (record { past = f ∷ past; ending = Closed }) R' ] in
    stop first.ending ≡ Some e → later ≡ first)
later_cases (Some status) b past f R R' e h s = refl
later_cases None true past f R R' e h s = refl
later_cases None false past f R R' e h s = h s

ended_stops : (o : Option ℕ) (b : List ℕ) (e : End) → stop (ended o b) ≡ Some e → (status : ℕ) × (o ≡ Some status)
ended_stops (Some status) b e h = (status, refl)
ended_stops None [] e h = absurd (cc)
ended_stops None (x ∷ b) e h = absurd (cc)

-- fs as read, and then other frames and another rest, where a bad header in rest stays bad
later_reading : (site : Site) (past : Past) (fs gs : List Frame) (rest rest' : List ℕ) (e : End) →
    ((k : Known) (status : ℕ) → fault_in_rest k rest ≡ Some status → (past : Past) → known site past ≡ k → reading site past gs rest' ≡ record { past = past; ending = Refused status }) →
    stop (reading site past fs rest).ending ≡ Some e → reading site past (fs ++ gs) rest' ≡ reading site past fs rest
later_reading site past [] gs rest rest' e bad s =
    let o = ended_stops (fault_in_rest (known site past) rest) rest e s in
    bad (known site past) o.0 o.1 past refl ∙ (λ i. record { past = past; ending = ended (sym o.1 i) rest })
later_reading site past (f ∷ fs) gs rest rest' e bad s =
    later_cases (fault_at site (known site past) f) (is_close (kind_of f.bytes)) past f (reading site (f ∷ past) fs rest) (reading site (f ∷ past) (fs ++ gs) rest') e
    (later_reading site (f ∷ past) fs gs rest rest' e bad) s

-- a bad header stays bad
rest_more : (k : Known) (b y : List ℕ) (status : ℕ) → fault_in_rest k b ≡ Some status → fault_in_rest k (b ++ y) ≡ Some status
unfolding fault_in_rest
rest_more k b y status h = header_fault_stays (greatest_frame k.limits) b y status h

-- a header that is bad in the bytes is bad in the frame at their front
bad_whole : (site : Site) (k : Known) (b : List ℕ) (z now status : ℕ) → 8 ≤ z → fault_in_rest k b ≡ Some status → fault_at site k (record { bytes = take z b; moment = now }) ≡ Some status
unfolding fault_at fault_in_rest
bad_whole site k b z now status low h =
    let f : Frame = record { bytes = take z b; moment = now } in
    ap (λ o. or_else o (first_row (frame_rows site k f (kind_of f.bytes) (flag_of f.bytes)))) (header_fault_take (greatest_frame k.limits) z b low ∙ h)

refuses_cases : (o : Option ℕ) (past : Past) (R : Reading) (status : ℕ) → o ≡ Some status →
    (let r : Reading = elim o [ Some status ↦ record { past = past; ending = Refused status } | None ↦ R ] in r ≡ record { past = past; ending = Refused status })
refuses_cases (Some other) past R status h = let e : other ≡ status = cc in λ i. record { past = past; ending = Refused (e i) }
refuses_cases None past R status h = absurd (cc)

reading_refuses : (site : Site) (past : Past) (f : Frame) (fs : List Frame) (rest : List ℕ) (status : ℕ) → fault_at site (known site past) f ≡ Some status → reading site past (f ∷ fs) rest ≡ record { past = past; ending = Refused status }
reading_refuses site past f fs rest status h = refuses_cases (fault_at site (known site past) f) past _ status h

-- what a bad header brings, whether the frame is whole or not
bad_reading : (site : Site) (past : Past) (s : List TimedByte) (status : ℕ) → fault_in_rest (known site past) (plain s) ≡ Some status → reading site past (frames_of s) (plain (rest_of s)) ≡ record { past = past; ending = Refused status }
bad_reading site past s status h =
    by_front (λ fs rest. reading site past fs rest ≡ record { past = past; ending = Refused status }) s
    (λ low fs rest. reading_refuses site past (front_of s) fs rest status (bad_whole site (known site past) (plain s) (size_of (plain s)) (front_of s).moment status low h))
    (λ i. record { past = past; ending = ended (h i) (plain s) })

-- a stream with a fault or a CLO, read with what comes later
pub reading_stays : (site : Site) (s t : List TimedByte) (e : End) → stop (end_of site s) ≡ Some e → reading_of site (s ++ t) ≡ reading_of site s
reading_stays site s t e h =
    let more = framed_more s t in
    (λ i. reading site [] (map frame_by (more.0 i)) (plain (more.1 i)))
    ∙ (λ i. reading site [] (map-append frame_by (cuts_of s) (cuts_of (rest_of s ++ t)) i) (plain (rest_of (rest_of s ++ t))))
    ∙ later_reading site [] (frames_of s) (frames_of (rest_of s ++ t)) (plain (rest_of s)) (plain (rest_of (rest_of s ++ t))) e
    (λ k status f past same. bad_reading site past (rest_of s ++ t) status
    (ap (fault_in_rest (known site past)) (map-append _ (rest_of s) t) ∙ rest_more (known site past) (plain (rest_of s)) (plain t) status (ap (λ k. fault_in_rest k (plain (rest_of s))) same ∙ f)))
    h

pub stays : StaysStopped
stays reverse site ps qs e h =
    let all : reading_of site (timed (ps ++ qs)) ≡ reading_of site (timed ps) =
    ap (reading_of site) (timed_append 0 ps qs) ∙ reading_stays site (timed ps) (timed_since (latest_since 0 ps) qs) e h in (
      (λ i. greeting reverse site.settings ++ spelled_all site 0 (replies site (all i).past ++ failing (all i).ending)),
      (λ i. requests site (all i).past),
      (λ i. (all i).ending),
    )
