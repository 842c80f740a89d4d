-- One more command keeps what both ends make of all that is on the way, where the server refused nothing.
use mathlib.Core.List.{IsPrefix}
use Rattle.std.proofs.Common.{false, ◌≡◌, ℕ, ◌≤◌, List, [], ◌∷◌, ◌++◌, length, None, refl, sym, ap, subst, ◌∙◌, arith}
use Rattle.std.proofs.lemmas.List.{append-nil, length-append, length-map}
use Rattle.ua_frame.specs.Streams.{TimedByte, plain, rest_of}
use Rattle.ua_frame.specs.StreamLaws.{length_plain}
use Rattle.ua_frame.specs.Layout.{Frame, frames_of}
use Rattle.ua_conn.specs.server.Site.{Site}
use Rattle.ua_conn.specs.Past.{Past, known}
use Rattle.ua_conn.specs.server.Replies.{numbered_after, replies, reading_of, failing, fault_of, first_fault, end_of, reply_bytes, spelled_all}
use Rattle.ua_conn.specs.server.Held.{newest_first}
use Rattle.ua_conn.specs.client.Commands.{Command, Commands, opens_asked}
use Rattle.ua_conn.specs.client.Pending.{bytes_in}
use Rattle.ua_conn.specs.client.Sending.{Sent, sent_after}
use Rattle.ua_conn.specs.Story.{Setup}
use Rattle.ua_conn.specs.declared.outcome.End.{End}
use Rattle.ua_conn.specs.declared.outcome.End.TheVariants.{Closed, InputEnded, Truncated, Refused, LinkFailed, TurnsSpent, NoMemory}
use Rattle.ua_conn.proofs.ClientEnd.GainLemmas.{after_append}
use Rattle.ua_conn.proofs.ServerEnd.ReadyLemmas.{newest_append}
use Rattle.ua_conn.proofs.ClientEnd.CommandLemmas.{all_accept}
use Rattle.ua_conn.proofs.BothEnds.FaithfulLemmas.{prefix_trans}
use Rattle.ua_conn.proofs.BothEnds.FrameListLemmas.{all_join, prefix_length, prefix_shorter, cut, are_length, Timely, timely_front, timely_back, place_of, sent_cut, replied_cut, replies_begin, spelled_length}
use Rattle.ua_conn.proofs.BothEnds.HoldLemmas.{Hold, Keeps}
use Rattle.ua_conn.proofs.BothEnds.InvariantForms.{Comes, Core}
use Rattle.ua_conn.proofs.BothEnds.OnTheWayLemmas.{frames_sent, frames_replied, replied_joined, Are, past_of}
use Rattle.ua_conn.proofs.BothEnds.OpeningKeepLemmas.{sent_are}
use Rattle.ua_conn.proofs.BothEnds.SpokenLemmas.{spell, spelled_list, BeginsSpoken}
use Rattle.ua_conn.proofs.BothEnds.SpokenRequestLemmas.{says_all, replies_go}
use Rattle.ua_conn.proofs.BothEnds.StoryLemmas.{all_spoken}
use Rattle.ua_conn.proofs.BothEnds.WayLemmas.{server_stands}

-- ---- what one more command adds

-- frames ms behind all that was sent, and what is said to them
abbrev pub Adds : Setup → Commands → Command → ℕ → List Sent → Type 0
Adds s cmds c o ms = (sent : ℕ) (there here : Past) (qs ns : List Frame) → Timely qs → c.seen ≤ bytes_in here
    → Hold s cmds o (length (opens_asked cmds)) sent (numbered_after 0 (replies s.site there)) there here → Are qs (frames_sent s.asker.first_sequence sent ms)
    → Are ns (frames_replied s.site (numbered_after 0 (replies s.site there)) (says_all s.site (known s.site there) qs))
    → Keeps s (c ∷ cmds) o (length (opens_asked (c ∷ cmds))) (sent_after sent ms) (numbered_after 0 (replies s.site (newest_first qs there))) there here qs ns

-- all that comes, cut in what came before the command and what it adds
record Parted (s : Setup) (xs ms : List Sent) (u : List TimedByte) (ps rs : List Frame) : Type 0 where
  ps1 : List Frame
  qs : List Frame
  rs1 : List Frame
  ns : List Frame
  comes : Comes s xs u ps1 rs1
  timely : Timely qs
  whole_ps : ps1 ++ qs ≡ ps
  whole_rs : rs1 ++ ns ≡ rs
  sends : Are qs (frames_sent s.asker.first_sequence (sent_after 0 xs) ms)
  says : Are ns (frames_replied s.site (numbered_after 0 (replies s.site (past_of ps1))) (says_all s.site (known s.site (past_of ps1)) qs))

parted : (s : Setup) (xs ms : List Sent) (u : List TimedByte) (ps rs : List Frame) → BeginsSpoken u (all_spoken s.asker.first_sequence 0 xs) → Comes s (xs ++ ms) u ps rs → Parted s xs ms u ps rs
parted s xs ms u ps rs b c =
    let first = s.asker.first_sequence in
    let p = cut ps (frames_sent first 0 xs) (frames_sent first (sent_after 0 xs) ms) (c.sent ∙ sent_cut first 0 xs ms) in
    let there = past_of p.front in
    let more = says_all s.site (known s.site there) p.back in
    let all : replies s.site (past_of ps) ≡ replies s.site there ++ more = ap (λ l. replies s.site (past_of l)) (sym p.whole) ∙ ap (replies s.site) (newest_append p.front p.back []) ∙ replies_go s.site there p.back in
    let r = cut rs (frames_replied s.site 0 (replies s.site there)) (frames_replied s.site (numbered_after 0 (replies s.site there)) more) (c.replied ∙ ap (frames_replied s.site 0) all ∙ replied_cut s.site 0 (replies s.site there) more) in
    let timely : Timely (p.front ++ p.back) = subst Timely (sym p.whole) c.clock in
    let short : length (frames_of u) ≤ length p.front = omega (
      arith,
      are_length (frames_of u) (spelled_list b.front) b.frames,
      are_length p.front (frames_sent first 0 xs) p.is_front,
      ap length (sent_are first 0 xs),
      ap (λ l. length (spelled_list l)) b.whole,
      length-map b.front spell,
      length-map (b.front ++ b.back) spell,
      length-append b.front b.back,
    ) in
    record {
      ps1 = p.front;
      qs = p.back;
      rs1 = r.front;
      ns = r.back;
      comes = record {
        front = prefix_shorter (frames_of u) p.front ps c.front (p.back, p.whole) short;
        sent = p.is_front;
        clock = timely_front p.front p.back timely;
        replied = r.is_front;
      };
      timely = timely_back p.front p.back timely;
      whole_ps = p.whole;
      whole_rs = r.whole;
      sends = p.is_back;
      says = r.is_back;
    }

-- ---- where the server refused nothing, no command comes before what it saw

pub calm_says_nothing : (e : End) → fault_of e ≡ None → failing e ≡ []
calm_says_nothing Closed h = refl
calm_says_nothing InputEnded h = refl
calm_says_nothing Truncated h = refl
calm_says_nothing LinkFailed h = refl
calm_says_nothing TurnsSpent h = refl
calm_says_nothing NoMemory h = refl
calm_says_nothing (Refused status) h = absurd (cc h)

pub plain_reply : (site : Site) (u : List TimedByte) → first_fault site u ≡ None → reply_bytes false site u ≡ spelled_all site 0 (replies site (reading_of site u).past)
plain_reply site u h =
    let said = replies site (reading_of site u).past in
    ap (λ l. spelled_all site 0 (said ++ l)) (calm_says_nothing (end_of site u) h) ∙ ap (spelled_all site 0) (append-nil said)

pub reaches : (s : Setup) (xs : List Sent) (u v : List TimedByte) (ps rs : List Frame) → first_fault s.site u ≡ None → IsPrefix (plain v) (reply_bytes false s.site u) → Comes s xs u ps rs → length v ≤ bytes_in (past_of rs)
reaches s xs u v ps rs calm p c =
    let site = s.site in
    let g = server_stands site [] (frames_of u) (plain (rest_of u)) in
    let q = replies_begin site g.0 ps (prefix_trans g.0 (frames_of u) ps g.2 c.front) in
    let there : (reading_of site u).past ≡ past_of g.0 = g.1 in
    let short = spelled_length site (replies site (past_of g.0)) (replies site (past_of ps)) q in
    omega (
      arith,
      length_plain v,
      prefix_length (plain v) (reply_bytes false site u) p,
      ap length (plain_reply site u calm),
      ap (λ l. length (spelled_all site 0 (replies site l))) there,
      short,
      ap length (replied_joined site 0 (replies site (past_of ps))),
      place_of rs (frames_replied site 0 (replies site (past_of ps))) [] c.replied,
    )

-- ---- the step

pub core_step : (s : Setup) (cmds : Commands) (c : Command) (o : ℕ) (xs ms : List Sent) (u : List TimedByte) → BeginsSpoken u (all_spoken s.asker.first_sequence 0 xs)
    → ((ps rs : List Frame) → Comes s xs u ps rs → c.seen ≤ bytes_in (past_of rs)) → Adds s cmds c o ms → Core s cmds o xs u → Core s (c ∷ cmds) o (xs ++ ms) u
core_step s cmds c o xs ms u b seen adds core ps rs comes =
    let x = parted s xs ms u ps rs b comes in
    let there = past_of x.ps1 in
    let here = past_of x.rs1 in
    let old = core x.ps1 x.rs1 x.comes in
    let new = adds (sent_after 0 xs) there here x.qs x.ns x.timely (seen x.ps1 x.rs1 x.comes) old.holds x.sends x.says in
    let n = length (opens_asked (c ∷ cmds)) in
    let joined : Keeps s (c ∷ cmds) o n (sent_after 0 (xs ++ ms)) (numbered_after 0 (replies s.site (past_of (x.ps1 ++ x.qs)))) [] [] (x.ps1 ++ x.qs) (x.rs1 ++ x.ns) = record {
      sound = all_join _ [] x.ps1 x.qs old.sound new.sound;
      taken = all_join _ [] x.rs1 x.ns (all_accept s.asker c cmds [] x.rs1 old.taken) new.taken;
      holds = subst (λ m. Hold s (c ∷ cmds) o n m (numbered_after 0 (replies s.site (past_of (x.ps1 ++ x.qs)))) (past_of (x.ps1 ++ x.qs)) (past_of (x.rs1 ++ x.ns))) (sym (after_append 0 xs ms))
          (subst (λ past. Hold s (c ∷ cmds) o n (sent_after (sent_after 0 xs) ms) (numbered_after 0 (replies s.site past)) past (past_of (x.rs1 ++ x.ns))) (sym (newest_append x.ps1 x.qs []))
          (subst (λ past. Hold s (c ∷ cmds) o n (sent_after (sent_after 0 xs) ms) (numbered_after 0 (replies s.site (newest_first x.qs there))) (newest_first x.qs there) past) (sym (newest_append x.rs1 x.ns [])) new.holds));
    } in
    subst (λ l. Keeps s (c ∷ cmds) o n (sent_after 0 (xs ++ ms)) (numbered_after 0 (replies s.site (past_of l))) [] [] l rs) x.whole_ps
    (subst (λ l. Keeps s (c ∷ cmds) o n (sent_after 0 (xs ++ ms)) (numbered_after 0 (replies s.site (past_of (x.ps1 ++ x.qs)))) [] [] (x.ps1 ++ x.qs) l) x.whole_rs joined)
