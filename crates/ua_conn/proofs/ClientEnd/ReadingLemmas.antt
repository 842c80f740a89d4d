-- Reading frames one after another, on a client's side: with more frames, and with one more command.
use mathlib.Core.List.{IsPrefix}
use Rattle.std.proofs.Common.{◌≡◌, ℕ, ◌≤◌, Bool, true, false, cond, List, [], ◌∷◌, ◌++◌, Option, Some, None, refl, sym, ap, subst, ◌∙◌, ◌⊎◌, inl, inr}
use Rattle.std.specs.Prelude.{nat_lt, not}
use Rattle.std.specs.List.{filter}
use Rattle.std.proofs.lemmas.List.{append-nil}
use Rattle.std.proofs.lemmas.List.Elements.{filter-append}
use Rattle.std.proofs.lemmas.Bool.{le-ltb}
use Rattle.ua_frame.specs.Streams.{TimedByte, plain, rest_of}
use Rattle.ua_frame.specs.Layout.{Frame, frames_of}
use Rattle.ua_frame.specs.LayoutLaws.{frames_more}
use Rattle.ua_conn.specs.Past.{Past, carried}
use Rattle.ua_conn.specs.server.Held.{newest_first}
use Rattle.ua_conn.specs.client.Asker.{Asker}
use Rattle.ua_conn.specs.client.Commands.{Act, Ask, Renew, Close, Command, Commands, Asked, OpenAsked, asked_in, asked_by, opens_asked, opens_by, next_id, request_under}
use Rattle.ua_conn.specs.client.Past.{client_known, awaits_reverse}
use Rattle.ua_conn.specs.client.Pending.{bytes_in, is_among, ended_ids, opened_ids, wanted_at, due_at, first_id}
use Rattle.ua_conn.specs.client.Faults.{client_fault_by, token_usable}
use Rattle.ua_conn.specs.client.Reading.{ClientReading, client_fault_at, client_reading, client_reading_of}
use Rattle.ua_conn.specs.declared.client.fault.ClientFault.{ClientFault}
use Rattle.ua_conn.proofs.ClientEnd.PlaceLemmas.{AllWithin}

-- ---- what is true of every frame that stands

-- what each frame that stands keeps is true of a reading
pub along_reading : (Q : Past → Type 0) (a : Asker) (cmds : Commands) → ((past : Past) (f : Frame) → client_fault_at a cmds past f ≡ None → Q past → Q (f ∷ past)) →
    (past : Past) (fs : List Frame) (rest : List ℕ) → Q past → Q (client_reading a cmds past fs rest).past
along_reading Q a cmds step past [] rest h = h
along_reading Q a cmds step past (f ∷ fs) rest h = by (client_fault_at a cmds past f) refl (along_reading Q a cmds step (f ∷ past) fs rest)
  where
    by : (o : Option ClientFault) → client_fault_at a cmds past f ≡ o → (Q (f ∷ past) → Q (client_reading a cmds (f ∷ past) fs rest).past) →
        (let R : ClientReading = elim o [ Some fault ↦ record { past = past; fault = Some fault } | None ↦ client_reading a cmds (f ∷ past) fs rest ] in Q R.past)
    by (Some fault) e k = h
    by None e k = k (step past f e h)

-- ---- more frames

-- the frames hs stand behind those that stood, and they are the first of gs, behind fs, where all of fs stands
pub record ReadsOn (past : Past) (fs gs : List Frame) (R R' : ClientReading) : Type 0 where
  pub more : List Frame
  pub behind : R'.past ≡ newest_first more R.past
  pub first : (more ≡ []) ⊎ ((R.past ≡ newest_first fs past) × IsPrefix more gs)

pub stands : (a : Asker) (cmds : Commands) (past : Past) (gs : List Frame) (rest : List ℕ) → (hs : List Frame) × ((client_reading a cmds past gs rest).past ≡ newest_first hs past) × IsPrefix hs gs
stands a cmds past [] rest = ([], refl, ([], refl))
stands a cmds past (g ∷ gs) rest = by (client_fault_at a cmds past g) (stands a cmds (g ∷ past) gs rest)
  where
    by : (o : Option ClientFault) → (hs : List Frame) × ((client_reading a cmds (g ∷ past) gs rest).past ≡ newest_first hs (g ∷ past)) × IsPrefix hs gs →
        (hs : List Frame) × ((let R : ClientReading = elim o [ Some fault ↦ record { past = past; fault = Some fault } | None ↦ client_reading a cmds (g ∷ past) gs rest ] in R.past) ≡ newest_first hs past) × IsPrefix hs (g ∷ gs)
    by (Some fault) h = ([], refl, (g ∷ gs, refl))
    by None h = (g ∷ h.0, h.1, (h.2.0, ap (λ (l : List Frame). g ∷ l) h.2.1))

pub reads_on : (a : Asker) (cmds : Commands) (past : Past) (fs gs : List Frame) (rest rest' : List ℕ) → ReadsOn past fs gs (client_reading a cmds past fs rest) (client_reading a cmds past (fs ++ gs) rest')
reads_on a cmds past [] gs rest rest' = let h = stands a cmds past gs rest' in record { more = h.0; behind = h.1; first = inr (refl, h.2) }
reads_on a cmds past (f ∷ fs) gs rest rest' = by (client_fault_at a cmds past f) (reads_on a cmds (f ∷ past) fs gs rest rest')
  where
    by : (o : Option ClientFault) → ReadsOn (f ∷ past) fs gs (client_reading a cmds (f ∷ past) fs rest) (client_reading a cmds (f ∷ past) (fs ++ gs) rest') →
        ReadsOn past (f ∷ fs) gs (elim o [ Some fault ↦ record { past = past; fault = Some fault } | None ↦ client_reading a cmds (f ∷ past) fs rest ])
        (elim o [ Some fault ↦ record { past = past; fault = Some fault } | None ↦ client_reading a cmds (f ∷ past) (fs ++ gs) rest' ])
    by (Some fault) h = record { more = []; behind = refl; first = inl refl }
    by None h = record { more = h.more; behind = h.behind; first = h.first }

pub reads_more : (a : Asker) (cmds : Commands) (s t : List TimedByte) → ReadsOn [] (frames_of s) (frames_of (rest_of s ++ t)) (client_reading_of a cmds s) (client_reading_of a cmds (s ++ t))
reads_more a cmds s t =
    let more = frames_more s t in
    let rest = plain (rest_of (rest_of s ++ t)) in
    let e : client_reading_of a cmds (s ++ t) ≡ client_reading a cmds [] (frames_of s ++ frames_of (rest_of s ++ t)) rest = λ i. client_reading a cmds [] (more.0 i) (plain (more.1 i)) in
    subst (λ R. ReadsOn [] (frames_of s) (frames_of (rest_of s ++ t)) (client_reading_of a cmds s) R) (sym e) (reads_on a cmds [] (frames_of s) (frames_of (rest_of s ++ t)) (plain (rest_of s)) rest)

-- ---- one more command

-- what is asked later is not there yet
late_asked : (test : Asked → Bool) (end id seen : ℕ) (act : Act) → end ≤ seen → filter (λ a. nat_lt a.seen end) (filter test (asked_by id seen act)) ≡ []
late_asked test end id seen (Ask request part) le = by (test (record { id = id; request = request; seen = seen }))
  where
    by : (b : Bool) → filter (λ (a : Asked). nat_lt a.seen end) (cond b (record { id = id; request = request; seen = seen } ∷ []) []) ≡ []
    by true = rw (le-ltb seen end le) refl
    by false = refl
late_asked test end id seen Renew le = refl
late_asked test end id seen Close le = refl

late_opens : (test : OpenAsked → Bool) (end id seen : ℕ) (act : Act) → end ≤ seen → filter (λ a. nat_lt a.seen end) (filter test (opens_by id seen act)) ≡ []
late_opens test end id seen (Ask request part) le = refl
late_opens test end id seen Renew le = by (test (record { id = id; seen = seen }))
  where
    by : (b : Bool) → filter (λ (a : OpenAsked). nat_lt a.seen end) (cond b (record { id = id; seen = seen } ∷ []) []) ≡ []
    by true = rw (le-ltb seen end le) refl
    by false = refl
late_opens test end id seen Close le = refl

both_filters : {A : Type 0} (p q : A → Bool) (xs ys : List A) → filter p (filter q ys) ≡ [] → filter p (filter q (xs ++ ys)) ≡ filter p (filter q xs)
both_filters p q xs ys h = ap (filter p) (filter-append q xs ys) ∙ filter-append p (filter q xs) (filter q ys) ∙ ap (λ l. filter p (filter q xs) ++ l) h ∙ append-nil _

pub same_wanted : (c : Command) (cmds : Commands) (past : Past) (end id : ℕ) → end ≤ c.seen → wanted_at (c ∷ cmds) past end id ≡ wanted_at cmds past end id
same_wanted c cmds past end id le =
    let test : Asked → Bool = λ a. not (is_among (ended_ids past) a.id) in
    ap (request_under id) (both_filters (λ a. nat_lt a.seen end) test (asked_in cmds) (asked_by (next_id cmds) c.seen c.act) (late_asked test end (next_id cmds) c.seen c.act le))

same_due : (c : Command) (cmds : Commands) (past : Past) (end : ℕ) → end ≤ c.seen → due_at (c ∷ cmds) past end ≡ due_at cmds past end
same_due c cmds past end le =
    let test : OpenAsked → Bool = λ r. not (is_among (opened_ids past) r.id) in
    ap first_id (both_filters (λ r. nat_lt r.seen end) test (opens_asked cmds) (opens_by (next_id cmds) c.seen c.act) (late_opens test end (next_id cmds) c.seen c.act le))

same_fault : (a : Asker) (c : Command) (cmds : Commands) (past : Past) (f : Frame) → bytes_in (f ∷ past) ≤ c.seen → client_fault_at a (c ∷ cmds) past f ≡ client_fault_at a cmds past f
same_fault a c cmds past f le =
    let k = client_known past in
    let end = bytes_in (f ∷ past) in
    λ i. client_fault_by a (awaits_reverse a.reverse past) k (same_due c cmds past end le i) (same_wanted c cmds past end (carried f).request_id le i) (token_usable k f) f

same_reading : (a : Asker) (c : Command) (cmds : Commands) (past : Past) (fs : List Frame) (rest : List ℕ) → AllWithin c.seen past fs → client_reading a (c ∷ cmds) past fs rest ≡ client_reading a cmds past fs rest
same_reading a c cmds past [] rest h = refl
same_reading a c cmds past (f ∷ fs) rest h = λ i.
    elim (same_fault a c cmds past f h.0 i) [
      | Some fault ↦ record { past = past; fault = Some fault }
      | None ↦ same_reading a c cmds (f ∷ past) fs rest h.1 i
    ]

pub reads_same : (a : Asker) (c : Command) (cmds : Commands) (v : List TimedByte) → AllWithin c.seen [] (frames_of v) → client_reading_of a (c ∷ cmds) v ≡ client_reading_of a cmds v
reads_same a c cmds v h = same_reading a c cmds [] (frames_of v) (plain (rest_of v)) h
