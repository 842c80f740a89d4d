-- In any world there is a way in which all that was sent can still come; and what stands at the client is the first of the replies.
use mathlib.Core.List.{IsPrefix}
use Rattle.std.proofs.Common.{◌≡◌, ℕ, ◌<◌, ◌^◌, Bool, true, false, cond, List, [], ◌∷◌, ◌++◌, map, Option, Some, None, refl, sym, ap, ◌∙◌, arith, append_assoc}
use Rattle.std.specs.Prelude.{option_map}
use Rattle.std.specs.List.{AllByRecursion}
use Rattle.std.proofs.lemmas.List.{map-append}
use Rattle.ua_frame.specs.Rows.{first_row}
use Rattle.ua_frame.specs.Streams.{TimedByte, plain, rest_of}
use Rattle.ua_frame.specs.Layout.{Frame, frames_of, kind_of, flag_of}
use Rattle.ua_frame.specs.HeaderRows.{header_fault}
use Rattle.ua_frame.specs.Beginnings.{AreMoments, moments_are}
use Rattle.ua_frame.specs.declared.kind.Kind.TheVariants as kinds
use Rattle.ua_frame.specs.declared.error_frame.ErrorFrame.{ErrorFrame}
use Rattle.ua_chunk.specs.Numbers.{number_after}
use Rattle.ua_conn.specs.server.Site.{Site}
use Rattle.ua_conn.specs.Past.{Past, known, is_close, carried}
use Rattle.ua_conn.specs.server.Faults.{fault_at}
use Rattle.ua_conn.specs.server.Feeding.{replies_of}
use Rattle.ua_conn.specs.server.Replies.{Reply, Acknowledge, Opened, Answer, Failed, spelled, more_numbered, numbered_after, replies, Reading, reading, reading_of, failing, end_of, reply_bytes}
use Rattle.ua_conn.specs.server.Held.{newest_first}
use Rattle.ua_conn.specs.client.Asker.{Asker}
use Rattle.ua_conn.specs.client.Commands.{Commands}
use Rattle.ua_conn.specs.client.Past.{client_known, error_in, awaits_reverse}
use Rattle.ua_conn.specs.client.Pending.{bytes_in, due_at, wanted_at}
use Rattle.ua_conn.specs.client.Faults.{greatest_answer, error_rows, client_rows, client_fault_by, token_usable}
use Rattle.ua_conn.specs.client.Reading.{ClientReading, client_fault_at, client_reading, client_reading_of}
use Rattle.ua_conn.specs.client.Sending.{Sent}
use Rattle.ua_conn.specs.Story.{Setup}
use Rattle.ua_conn.specs.BothEnds.{AllAfter}
use Rattle.ua_conn.specs.declared.client.fault.ClientFault.{ClientFault}
use Rattle.ua_conn.specs.declared.client.fault.ClientFault.TheVariants.{Broken}
use Rattle.ua_conn.specs.declared.outcome.End.{End}
use Rattle.ua_conn.specs.declared.outcome.End.TheVariants.{Closed, InputEnded, Truncated, Refused, LinkFailed, TurnsSpent, NoMemory}
use Rattle.ua_conn.proofs.TableLemmas.{or_none}
use Rattle.ua_conn.proofs.BothEnds.FaithfulLemmas.{prefix_trans}
use Rattle.ua_conn.proofs.BothEnds.FrameListLemmas.{are_join, placed, placed_are, placed_timely, timely_join, replied_cut, replies_begin}
use Rattle.ua_conn.proofs.BothEnds.InvariantForms.{Comes}
use Rattle.ua_conn.proofs.BothEnds.OnTheWayLemmas.{frames_replied, Are, past_of}
use Rattle.ua_conn.proofs.BothEnds.OpeningKeepLemmas.{sent_are, replied_are}
use Rattle.ua_conn.proofs.BothEnds.SpokenLemmas.{Fails, spell, spell_is, spelled_list, BeginsSpoken}
use Rattle.ua_conn.proofs.BothEnds.SpokenReplyLemmas.{reply_spelled, replies_spoken, reply_begins}
use Rattle.ua_conn.proofs.BothEnds.StoryLemmas.{all_spoken}
use Rattle.ua_conn.proofs.BothEnds.PlainForms.{IsPlain}

-- ---- a way in which all comes

-- with these replies the first
pub record Way (s : Setup) (xs : List Sent) (u : List TimedByte) (rs : List Frame) : Type 0 where
  pub ps : List Frame
  pub tail : List Frame
  pub comes : Comes s xs u ps (rs ++ tail)

pub way : (s : Setup) (xs : List Sent) (u : List TimedByte) (rs gs : List Frame) (said : List Reply) → BeginsSpoken u (all_spoken s.asker.first_sequence 0 xs) → AreMoments (λ m. m < 2 ^ 63) u
    → Are rs (frames_replied s.site 0 said) → IsPrefix gs (frames_of u) → IsPrefix said (replies s.site (past_of gs)) → Way s xs u rs
way s xs u rs gs said b clock is first begins =
    let first_number = s.asker.first_sequence in
    let later = placed (spelled_list b.back) in
    let ps = frames_of u ++ later in
    let p = prefix_trans gs (frames_of u) ps first (later, refl) in
    let q = prefix_trans said (replies s.site (past_of gs)) (replies s.site (past_of ps)) begins (replies_begin s.site gs ps p) in
    let others = frames_replied s.site (numbered_after 0 said) q.0 in
    record {
      ps = ps;
      tail = placed others;
      comes = record {
        front = (later, refl);
        sent = are_join (frames_of u) later (spelled_list b.front) (spelled_list b.back) b.frames (placed_are (spelled_list b.back))
            ∙ sym (map-append spell b.front b.back) ∙ ap spelled_list b.whole ∙ sym (sent_are first_number 0 xs);
        clock = timely_join (frames_of u) later (moments_are (λ m. m < 2 ^ 63) u clock) (placed_timely (spelled_list b.back));
        replied = are_join rs (placed others) (frames_replied s.site 0 said) others is (placed_are others) ∙ sym (replied_cut s.site 0 said q.0) ∙ ap (frames_replied s.site 0) q.1;
      };
    }

-- ---- what stands at the server

pub server_stands : (site : Site) (past : Past) (fs : List Frame) (rest : List ℕ) → (gs : List Frame) × ((reading site past fs rest).past ≡ newest_first gs past) × IsPrefix gs fs
server_stands site past [] rest = ([], refl, ([], refl))
server_stands site past (f ∷ fs) rest = by (fault_at site (known site past) f) (is_close (kind_of f.bytes)) (server_stands site (f ∷ past) fs rest)
  where
    by : (o : Option ℕ) (b : Bool) → (gs : List Frame) × ((reading site (f ∷ past) fs rest).past ≡ newest_first gs (f ∷ past)) × IsPrefix gs fs →
        (let R : Reading = elim o [ Some status ↦ record { past = past; ending = Refused status } | None ↦ cond b (record { past = f ∷ past; ending = Closed }) (reading site (f ∷ past) fs rest) ] in
        (gs : List Frame) × (R.past ≡ newest_first gs past) × IsPrefix gs (f ∷ fs))
    by (Some status) b h = ([], refl, (f ∷ fs, refl))
    by None true h = (f ∷ [], refl, (fs, refl))
    by None false h = (f ∷ h.0, h.1, (h.2.0, ap (λ (l : List Frame). f ∷ l) h.2.1))

-- ---- what stands at the client

abbrev pub Passes : Asker → Commands → Past → Frame → Type 0
Passes a cmds past f = client_fault_at a cmds past f ≡ None

client_stands : (a : Asker) (cmds : Commands) (past : Past) (fs : List Frame) (rest : List ℕ) →
    (hs : List Frame) × ((client_reading a cmds past fs rest).past ≡ newest_first hs past) × IsPrefix hs fs × AllAfter (Passes a cmds) past hs
client_stands a cmds past [] rest = ([], refl, ([], refl), tt)
client_stands a cmds past (f ∷ fs) rest = by (client_fault_at a cmds past f) refl (client_stands a cmds (f ∷ past) fs rest)
  where
    by : (o : Option ClientFault) → client_fault_at a cmds past f ≡ o →
        (hs : List Frame) × ((client_reading a cmds (f ∷ past) fs rest).past ≡ newest_first hs (f ∷ past)) × IsPrefix hs fs × AllAfter (Passes a cmds) (f ∷ past) hs →
        (let R : ClientReading = elim o [ Some fault ↦ record { past = past; fault = Some fault } | None ↦ client_reading a cmds (f ∷ past) fs rest ] in
        (hs : List Frame) × (R.past ≡ newest_first hs past) × IsPrefix hs (f ∷ fs) × AllAfter (Passes a cmds) past hs)
    by (Some fault) e h = ([], refl, (f ∷ fs, refl), tt)
    by None e h = (f ∷ h.0, h.1, (h.2.0, ap (λ (l : List Frame). f ∷ l) h.2.1), (e, h.3))

-- ---- an ERR never stands

error_holds : (o : Option ErrorFrame) → first_row (error_rows o) ≡ None → ⊥
error_holds None h = cc h
error_holds (Some e) h = cc h

error_refused : (a : Asker) (cmds : Commands) (past : Past) (f : Frame) (status : ℕ) → f.bytes ≡ spell (Fails status) → Passes a cmds past f → ⊥
unfolding client_fault_by
error_refused a cmds past f status e h =
    let k = client_known past in
    let first = awaits_reverse a.reverse past in
    let end = bytes_in (f ∷ past) in
    let due = due_at cmds past end in
    let wanted = wanted_at cmds past end (carried f).request_id in
    let usable = token_usable k f in
    let kind : kind_of f.bytes ≡ Some kinds.Error = ap kind_of e ∙ (spell_is (Fails status) tt).kind in
    let rows = or_none (option_map Broken (header_fault (greatest_answer k.ack) f.bytes)) (first_row (client_rows a first k due wanted usable f (flag_of f.bytes) (kind_of f.bytes))) h in
    error_holds (error_in f) (ap (λ o. first_row (client_rows a first k due wanted usable f (flag_of f.bytes) o)) (sym kind) ∙ rows)

abbrev pub is_failed : Reply → Bool
is_failed (Failed status) = true
is_failed r = false

abbrev pub NoneFails : List Reply → Type 0
NoneFails rs = AllByRecursion (λ (r : Reply). is_failed r ≡ false) rs

not_failed : (a : Asker) (cmds : Commands) (past : Past) (site : Site) (n : ℕ) (r : Reply) (f : Frame) → f.bytes ≡ spelled site n r → Passes a cmds past f → is_failed r ≡ false
not_failed a cmds past site n (Failed status) f e h = absurd (error_refused a cmds past f status (e ∙ reply_spelled site n (Failed status)) h)
not_failed a cmds past site n (Acknowledge ack) f e h = refl
not_failed a cmds past site n (Opened id body) f e h = refl
not_failed a cmds past site n (Answer token part) f e h = refl

none_failed : (a : Asker) (cmds : Commands) (past : Past) (site : Site) (n : ℕ) (rs : List Reply) (fs : List Frame) → Are fs (frames_replied site n rs) → AllAfter (Passes a cmds) past fs → NoneFails rs
none_failed a cmds past site n [] fs e h = tt
none_failed a cmds past site n (r ∷ rs) [] e h = absurd (cc e)
none_failed a cmds past site n (r ∷ rs) (f ∷ fs) e h =
    let head : f.bytes ≡ spelled site (number_after 1 n) r = cc e in
    let tail : Are fs (frames_replied site (more_numbered n r) rs) = cc e in
    (not_failed a cmds past site (number_after 1 n) r f head h.0, none_failed a cmds (f ∷ past) site (more_numbered n r) rs fs tail h.1)

failing_only : (e : End) (x : Reply) (said : List Reply) → IsPrefix (x ∷ said) (failing e) → is_failed x ≡ false → ⊥
failing_only Closed x said p h = cc (p.1)
failing_only InputEnded x said p h = cc (p.1)
failing_only Truncated x said p h = cc (p.1)
failing_only LinkFailed x said p h = cc (p.1)
failing_only TurnsSpent x said p h = cc (p.1)
failing_only NoMemory x said p h = cc (p.1)
failing_only (Refused status) x said p h =
    let same : x ≡ Failed status = cc (p.1) in
    let clash : true ≡ false = ap is_failed (sym same) ∙ h in
    cc clash

pub without_failed : (e : End) (said rs : List Reply) → IsPrefix said (rs ++ failing e) → NoneFails said → IsPrefix said rs
without_failed e [] rs p h = (rs, refl)
without_failed e (x ∷ said) [] p h = absurd (failing_only e x said p h.0)
without_failed e (x ∷ said) (r ∷ rs) p h =
    let heads : x ≡ r = cc (p.1) in
    let rest = without_failed e said rs (p.0, cc (p.1)) h.1 in
    (rest.0, cc (heads, rest.1))

-- ---- the first replies

pub front_replies : (site : Site) (n : ℕ) (rs : List Reply) (fs : List (List ℕ)) → IsPrefix fs (frames_replied site n rs) → (said : List Reply) × IsPrefix said rs × (fs ≡ frames_replied site n said)
front_replies site n rs [] p = ([], (rs, refl), refl)
front_replies site n [] (f ∷ fs) p = absurd (cc (p.1))
front_replies site n (r ∷ rs) (f ∷ fs) p =
    let head : f ≡ spelled site (number_after 1 n) r = cc (p.1) in
    let rest = front_replies site (more_numbered n r) rs fs (p.0, cc (p.1)) in
    (r ∷ rest.0, (rest.1.0, ap (λ (l : List Reply). r ∷ l) rest.1.1), (λ i. head i ∷ rest.2 i))

-- What stands at a client to which v came, a beginning of the reply to u: frames of the first replies to what stands at the server.
pub record Standing (s : Setup) (cmds : Commands) (u v : List TimedByte) : Type 0 where
  pub frames : List Frame
  pub is : (client_reading_of s.asker cmds v).past ≡ past_of frames
  pub first : IsPrefix frames (frames_of v)
  pub said : List Reply
  pub are : Are frames (frames_replied s.site 0 said)
  pub begins : IsPrefix said (replies s.site (reading_of s.site u).past)

pub down_are : (s : Setup) (u v : List TimedByte) → IsPlain s → IsPrefix (plain v) (reply_bytes false s.site u) → BeginsSpoken v (replies_spoken s.site 0 (replies_of s.site u))
down_are s u v h p = reply_begins s.site u v p.0 (omega (arith, h.site.settings.bounds.limits.send_most)) p.1

pub standing : (s : Setup) (cmds : Commands) (u v : List TimedByte) → IsPlain s → IsPrefix (plain v) (reply_bytes false s.site u) → Standing s cmds u v
standing s cmds u v h p =
    let b = down_are s u v h p in
    let c = client_stands s.asker cmds [] (frames_of v) (plain (rest_of v)) in
    let all = replies_of s.site u in
    let come : map (λ (f : Frame). f.bytes) c.0 ++ (map (λ (f : Frame). f.bytes) c.2.0 ++ spelled_list b.back) ≡ frames_replied s.site 0 all =
    sym (append_assoc (map (λ (f : Frame). f.bytes) c.0) (map (λ (f : Frame). f.bytes) c.2.0) (spelled_list b.back))
    ∙ ap (λ l. l ++ spelled_list b.back) (sym (map-append (λ (f : Frame). f.bytes) c.0 c.2.0) ∙ ap (map (λ (f : Frame). f.bytes)) c.2.1 ∙ b.frames)
    ∙ sym (map-append spell b.front b.back) ∙ ap spelled_list b.whole ∙ sym (replied_are s.site 0 all) in
    let said = front_replies s.site 0 all (map (λ (f : Frame). f.bytes) c.0) (map (λ (f : Frame). f.bytes) c.2.0 ++ spelled_list b.back, come) in
    let none = none_failed s.asker cmds [] s.site 0 said.0 c.0 said.2 c.3 in
    record {
      frames = c.0;
      is = c.1;
      first = c.2;
      said = said.0;
      are = said.2;
      begins = without_failed (end_of s.site u) said.0 (replies s.site (reading_of s.site u).past) said.1 none;
    }
