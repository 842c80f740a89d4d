-- The invariant of a story: nothing was told yet, or whatever is on the way will be accepted, or the server has refused what names a dead token.
use mathlib.Core.List.{IsPrefix}
use Rattle.std.proofs.Common.{◌≡◌, ℕ, ◌≤◌, List, [], ◌∷◌, ◌++◌, map, take, drop, length, Option, Some, None, refl, sym, ap, subst, ◌∙◌, arith}
use Rattle.std.specs.Prelude.{IfSome}
use Rattle.std.proofs.lemmas.List.{length-append}
use Rattle.ua_frame.specs.Streams.{TimedByte, at, moment_of, rest_of}
use Rattle.ua_frame.specs.Layout.{frames_of}
use Rattle.ua_frame.specs.LayoutLaws.{frames_more}
use Rattle.ua_conn.specs.Past.{Past, tokens_in}
use Rattle.ua_conn.specs.server.Replies.{Reading, reading_of, fault_of, first_fault, end_of}
use Rattle.ua_conn.specs.server.Held.{newest_first, stop}
use Rattle.ua_conn.specs.client.Commands.{Act, Ask, Renew, Close, Commands}
use Rattle.ua_conn.specs.client.Past.{granted_in}
use Rattle.ua_conn.specs.client.Reading.{client_reading_of, client_fault}
use Rattle.ua_conn.specs.client.Sending.{Sent, sent_by}
use Rattle.ua_conn.specs.client.Asking.{ask_fault}
use Rattle.ua_conn.specs.Story.{Setup, World, begun, client_stream, server_stream, delivered, told_by, came_by, happens, run, final}
use Rattle.ua_conn.specs.BothEnds.{IsLive, IsStep, IsSchedule}
use Rattle.ua_conn.specs.declared.outcome.End.{End}
use Rattle.ua_conn.specs.declared.outcome.End.TheVariants.{Closed, InputEnded, Truncated, Refused, LinkFailed, TurnsSpent, NoMemory}
use Rattle.ua_conn.specs.declared.schedule.Step.{Step}
use Rattle.ua_conn.specs.declared.schedule.Step.TheVariants as steps
use Rattle.ua_conn.specs.declared.client.ask_fault.AskFault.{AskFault}
use Rattle.ua_conn.specs.declared.client.fault.ClientFault.{ClientFault}
use Rattle.ua_conn.proofs.ClientEnd.ReadingLemmas.{reads_more}
use Rattle.ua_conn.proofs.ClientEnd.GreetingLemmas.{greeted_of}
use Rattle.ua_conn.proofs.ServerEnd.StopLemmas.{reading_stays}
use Rattle.ua_conn.proofs.BothEnds.AcceptLemmas.{come, given, IsAct, core_told}
use Rattle.ua_conn.proofs.BothEnds.FaithfulLemmas.{IsStarted, untold, acknowledged, prefix_trans, sent_same, stands_behind, accepted_acked}
use Rattle.ua_conn.proofs.BothEnds.FirstStageLemmas.{LiveUp, calm_if_live, first_core, first_bears, first_calm}
use Rattle.ua_conn.proofs.BothEnds.FrameListLemmas.{all_prefix}
use Rattle.ua_conn.proofs.BothEnds.HandingLemmas.{Answered, HandsOn, answered, hands_on, answered_told, hands_told}
use Rattle.ua_conn.proofs.BothEnds.HoldLemmas.{Hold}
use Rattle.ua_conn.proofs.BothEnds.InvariantForms.{BearsAll, Core, bears_of}
use Rattle.ua_conn.proofs.BothEnds.ReadyLemmas.{granted_go}
use Rattle.ua_conn.proofs.BothEnds.SpokenLemmas.{BeginsSpoken}
use Rattle.ua_conn.proofs.BothEnds.StoryBaseLemmas.{Base, base_begun, base_kept, here_of, sends, up_are, here_timely}
use Rattle.ua_conn.proofs.BothEnds.StoryLemmas.{all_spoken}
use Rattle.ua_conn.proofs.BothEnds.PlainForms.{IsPlain}

-- ---- where a story stands

pub data Stage (s : Setup) (cmds : Commands) (u v : List TimedByte) : Type 0 where
  -- no command was accepted yet
  unasked : cmds ≡ [] → Stage s cmds u v
  -- the server refused nothing of what came to it
  going : first_fault s.site u ≡ None → (let past = (client_reading_of s.asker cmds v).past in Core s cmds (length (granted_in past)) (sent_by s.asker cmds past) u) → Stage s cmds u v
  -- it refused a token that was dead; what it made of what came before stays
  stopped : (status : ℕ) → first_fault s.site u ≡ Some status → (LiveUp u → ⊥) → Answered s cmds (reading_of s.site u).past → HandsOn s cmds (reading_of s.site u).past → Stage s cmds u v

pub record Inv (s : Setup) (w : World) : Type 0 where
  pub base : Base s w
  pub stage : Stage s w.cmds w.up w.down

-- ---- before a command

pub unasked_bears : (s : Setup) → IsPlain s → (w : World) → Base s w → w.cmds ≡ [] → BearsAll s w.cmds (sends s w) w.up
unasked_bears s h w i e =
    let past = here_of s w in
    subst (λ cs. BearsAll s cs (sent_by s.asker cs past) w.up) (sym e) (first_bears s h past w.up (here_timely s h w i))

pub unasked_calm : (s : Setup) → IsPlain s → (w : World) → Base s w → w.cmds ≡ [] → first_fault s.site w.up ≡ None
unasked_calm s h w i e =
    let past = here_of s w in
    first_calm s h past w.up (subst (λ cs. BeginsSpoken w.up (all_spoken s.asker.first_sequence 0 (sent_by s.asker cs past))) e (up_are s h w i)) i.timely.up (here_timely s h w i)

-- ---- a command

stage_told : (s : Setup) → IsPlain s → (w : World) → Base s w → (act : Act) → IsAct act → ask_fault s.asker w.cmds w.down act ≡ None → Stage s w.cmds w.up w.down → Stage s (given w act ∷ w.cmds) w.up w.down
stage_told s h w i act is e (unasked none) =
    let past = here_of s w in
    let f = accepted_acked s.asker w.cmds w.down act e in
    let core = subst (λ cs. Core s cs (come s w) (sent_by s.asker cs past) w.up) (sym none) (first_core s h (come s w) past f.0 w.up (here_timely s h w i) f.1) in
    let calm = unasked_calm s h w i none in
    going calm (core_told s h w i act is e calm core)
stage_told s h w i act is e (going calm core) = going calm (core_told s h w i act is e calm core)
stage_told s h w i act is e (stopped status f dead order hands) =
    let there = (reading_of s.site w.up).past in
    stopped status f dead (answered_told s (given w act) w.cmds there order) (hands_told s (given w act) w.cmds there hands)

-- ---- more comes to the server

pub frames_grow : (u t : List TimedByte) → IsPrefix (frames_of u) (frames_of (u ++ t))
frames_grow u t = (frames_of (rest_of u ++ t), sym (frames_more u t).0)

core_up : (s : Setup) (cmds : Commands) (o : ℕ) (xs : List Sent) (u t : List TimedByte) → Core s cmds o xs u → Core s cmds o xs (u ++ t)
core_up s cmds o xs u t core ps rs c =
    core ps rs (record { front = prefix_trans (frames_of u) (frames_of (u ++ t)) ps (frames_grow u t) c.front; sent = c.sent; clock = c.clock; replied = c.replied })

refused_stops : (e : End) (status : ℕ) → fault_of e ≡ Some status → stop e ≡ Some (Refused status)
refused_stops (Refused n) status h = let same : n ≡ status = cc h in ap (λ m. Some (Refused m)) same
refused_stops Closed status h = absurd (cc h)
refused_stops InputEnded status h = absurd (cc h)
refused_stops Truncated status h = absurd (cc h)
refused_stops LinkFailed status h = absurd (cc h)
refused_stops TurnsSpent status h = absurd (cc h)
refused_stops NoMemory status h = absurd (cc h)

-- the world once these bytes came to the server
abbrev raised : World → List TimedByte → World
raised w t = record w { up = w.up ++ t }

stage_up : (s : Setup) → IsPlain s → (w : World) (t : List TimedByte) → Base s (raised w t) → Stage s w.cmds w.up w.down → Stage s w.cmds (w.up ++ t) w.down
stage_up s h w t i (unasked none) = unasked none
stage_up s h w t i (stopped status f dead order hands) =
    let same = reading_stays s.site w.up t (Refused status) (refused_stops (end_of s.site w.up) status f) in
    stopped status (ap (λ (R : Reading). fault_of R.ending) same ∙ f)
    (λ live. dead (all_prefix (λ past x. IsLive (tokens_in past) x) [] (frames_of w.up) (frames_of (w.up ++ t)) (frames_grow w.up t) live))
    (subst (λ (R : Reading). Answered s w.cmds R.past) (sym same) order)
    (subst (λ (R : Reading). HandsOn s w.cmds R.past) (sym same) hands)
stage_up s h w t i (going calm core) = by (first_fault s.site (w.up ++ t)) refl
  where
    u : List TimedByte
    u = w.up ++ t

    grown : Core s w.cmds (come s w) (sends s w) u
    grown = core_up s w.cmds (come s w) (sends s w) w.up t core

    bears : BearsAll s w.cmds (sends s w) u
    bears = bears_of s w.cmds (come s w) (sends s w) u grown

    b : BeginsSpoken u (all_spoken s.asker.first_sequence 0 (sends s w))
    b = up_are s h (raised w t) i

    by : (o : Option ℕ) → first_fault s.site u ≡ o → Stage s w.cmds u w.down
    by None e = going e grown
    by (Some status) e =
        stopped status e (λ live. (let clash : None ≡ Some status = sym (calm_if_live s w.cmds (sends s w) u b i.timely.up bears live) ∙ e in cc clash))
        (answered s h w.cmds (sends s w) u b i.timely.up bears) (hands_on s w.cmds (sends s w) u b i.timely.up bears)

-- ---- more comes to the client

core_later : (s : Setup) (cmds : Commands) (o p : ℕ) (xs : List Sent) (u : List TimedByte) → o ≤ p → Core s cmds o xs u → Core s cmds p xs u
core_later s cmds o p xs u le core ps rs c = let k = core ps rs c in record { sound = k.sound; taken = k.taken; holds = hold_later k.holds }
  where
    later : (used : Option ℕ) → IfSome used (λ n. n ≤ o) → IfSome used (λ n. n ≤ p)
    later None h = tt
    later (Some n) h = omega (arith, h, le)

    hold_later : {n sent said : ℕ} {there here : Past} → Hold s cmds o n sent said there here → Hold s cmds p n sent said there here
    hold_later h = record {
      last = h.last;
      used = h.used;
      last_here = h.last_here;
      known_is = h.known_is;
      next = h.next;
      many = h.many;
      within = later h.used h.within;
      said_is = h.said_is;
      hears_is = h.hears_is;
      next_here = h.next_here;
      tokens = h.tokens;
      none_due = h.none_due;
      fresh = h.fresh;
      answers_are = h.answers_are;
      many_served = h.many_served;
      many_answers = h.many_answers;
    }

stage_down : (s : Setup) (w : World) (t : List TimedByte) → Base s w → Stage s w.cmds w.up w.down → Stage s w.cmds w.up (w.down ++ t)
stage_down s w t i (unasked none) = unasked none
stage_down s w t i (stopped status f dead order hands) = stopped status f dead order hands
stage_down s w t i (going calm core) = by i.flow.started
  where
    by : IsStarted w.cmds (here_of s w) → Stage s w.cmds w.up (w.down ++ t)
    by (untold none) = unasked none
    by (acknowledged f e) =
        let a = s.asker in
        let past = here_of s w in
        let r = reads_more a w.cmds w.down t in
        let same = sent_same a (length w.down) w.cmds r.more past f i.flow.seen (stands_behind a w.cmds w.down t r) (greeted_of a w.cmds w.down) e in
        let go = granted_go past r.more in
        let le : come s w ≤ length (granted_in (newest_first r.more past)) = omega (arith, ap length go.1, length-append go.0 (granted_in past)) in
        let later = core_later s w.cmds (come s w) (length (granted_in (newest_first r.more past))) (sends s w) w.up le core in
        let moved = subst (λ xs. Core s w.cmds (length (granted_in (newest_first r.more past))) xs w.up) same later in
        going calm (subst (λ p. Core s w.cmds (length (granted_in p)) (sent_by a w.cmds p) w.up) (sym r.behind) moved)

-- ---- every schedule

told_stage : (s : Setup) → IsPlain s → (w : World) → Inv s w → (act : Act) → IsAct act → (o : Option AskFault) → ask_fault s.asker w.cmds w.down act ≡ o
    → (let w2 = told_by w act o in Stage s w2.cmds w2.up w2.down)
told_stage s h w i act is (Some fault) e = i.stage
told_stage s h w i act is None e = stage_told s h w i.base act is e i.stage

came_stage : (s : Setup) (w : World) (t : List TimedByte) (o : Option ClientFault) → Inv s w → (let w2 = came_by w (w.down ++ t) o in Stage s w2.cmds w2.up w2.down)
came_stage s w t (Some fault) i = stage_down s w t i.base i.stage
came_stage s w t None i = stage_down s w t i.base i.stage

stage_kept : (s : Setup) → IsPlain s → (w : World) → Inv s w → (e : Step) → IsStep e → (let w2 = happens s w e in Stage s w2.cmds w2.up w2.down)
stage_kept s h w i (steps.Ask request part) is = told_stage s h w i (Ask request part) is (ask_fault s.asker w.cmds w.down (Ask request part)) refl
stage_kept s h w i steps.Renew is = told_stage s h w i Renew tt (ask_fault s.asker w.cmds w.down Renew) refl
stage_kept s h w i steps.Close is = told_stage s h w i Close tt (ask_fault s.asker w.cmds w.down Close) refl
stage_kept s h w i (steps.Tick n) is = i.stage
stage_kept s h w i (steps.Up n) is =
    stage_up s h w (map (at (moment_of w.clock)) (take n (drop (length w.up) (client_stream s w)))) (base_kept s h w (steps.Up n) i.base) i.stage
stage_kept s h w i (steps.Down n) is =
    came_stage s w (map (at (moment_of w.clock)) (take n (drop (length w.down) (server_stream s w)))) (client_fault s.asker w.cmds (delivered w.clock w.down n (server_stream s w))) i

inv_run : (s : Setup) → IsPlain s → (es : List Step) (w : World) → Inv s w → IsSchedule es → Inv s (run s w es)
inv_run s h [] w i is = i
inv_run s h (e ∷ es) w i is = inv_run s h es (happens s w e) (record { base = base_kept s h w e i.base; stage = stage_kept s h w i e is.0 }) is.1

pub inv : (s : Setup) → IsPlain s → (schedule : List Step) → IsSchedule schedule → Inv s (final s schedule)
inv s h schedule is = inv_run s h schedule (begun s) (record { base = base_begun s h; stage = unasked refl }) is
