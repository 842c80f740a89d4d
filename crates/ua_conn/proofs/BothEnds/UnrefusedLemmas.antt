-- The law of both ends, its second part: while the tokens live that are used, nothing is refused.
use mathlib.Core.List.{IsPrefix}
use Rattle.std.proofs.Common.{◌≡◌, ℕ, List, [], ◌++◌, Some, None, refl, sym, ap, subst, ◌∙◌, append_assoc, ◌⊎◌, inl, inr}
use Rattle.std.proofs.lemmas.List.{append-nil, map-append}
use Rattle.ua_frame.specs.Streams.{plain, rest_of}
use Rattle.ua_frame.specs.Layout.{frames_of}
use Rattle.ua_frame.specs.Beginnings.{IsPart, nothing, cut}
use Rattle.ua_conn.specs.Past.{known}
use Rattle.ua_conn.specs.server.Faults.{fault_at}
use Rattle.ua_conn.specs.server.Feeding.{replies_of}
use Rattle.ua_conn.specs.server.Replies.{numbered_after, replies, reading_of, fault_of, first_fault, end_of}
use Rattle.ua_conn.specs.server.Held.{stop}
use Rattle.ua_conn.specs.client.Reading.{ClientReading, client_reading_of}
use Rattle.ua_conn.specs.Story.{Setup, World, final}
use Rattle.ua_conn.specs.BothEnds.{AllAfter, TokensLive, IsSchedule}
use Rattle.ua_conn.specs.declared.outcome.End.{End}
use Rattle.ua_conn.specs.declared.outcome.End.TheVariants.{Closed, InputEnded, Truncated, Refused, LinkFailed, TurnsSpent, NoMemory}
use Rattle.ua_conn.specs.declared.schedule.Step.{Step}
use Rattle.ua_conn.proofs.BothEnds.AcceptLemmas.{come}
use Rattle.ua_conn.proofs.BothEnds.AliveLemmas.{client_well}
use Rattle.ua_conn.proofs.BothEnds.CommandStepLemmas.{calm_says_nothing}
use Rattle.ua_conn.proofs.BothEnds.FaithfulLemmas.{prefix_trans}
use Rattle.ua_conn.proofs.BothEnds.FirstStageLemmas.{LiveUp, stands_if_live}
use Rattle.ua_conn.proofs.BothEnds.FrameListLemmas.{replied_cut, replies_begin}
use Rattle.ua_conn.proofs.BothEnds.InvariantForms.{BearsAll, bears_of}
use Rattle.ua_conn.proofs.BothEnds.InvariantLemmas.{Stage, unasked, going, stopped, Inv, inv, unasked_bears}
use Rattle.ua_conn.proofs.BothEnds.OnTheWayLemmas.{frames_replied, past_of}
use Rattle.ua_conn.proofs.BothEnds.OpeningKeepLemmas.{replied_are}
use Rattle.ua_conn.proofs.BothEnds.SpokenLemmas.{spell, spelled_list}
use Rattle.ua_conn.proofs.BothEnds.StoryBaseLemmas.{Base, sends, up_are}
use Rattle.ua_conn.proofs.BothEnds.WayLemmas.{way, server_stands, front_replies, down_are}
use Rattle.ua_conn.proofs.BothEnds.PlainForms.{IsPlain, plain_down, RefusesNothing}

-- whatever is on the way will be accepted
pub bears_live : (s : Setup) → IsPlain s → (w : World) → Base s w → LiveUp w.up → Stage s w.cmds w.up w.down → BearsAll s w.cmds (sends s w) w.up
bears_live s h w i live (unasked none) = unasked_bears s h w i none
bears_live s h w i live (going calm core) = bears_of s w.cmds (come s w) (sends s w) w.up core
bears_live s h w i live (stopped status f dead order hands) = absurd (dead live)

-- less than the next frame is less than the next of more frames
part_more : (rest : List ℕ) (next more : List (List ℕ)) → IsPart rest next → IsPart rest (next ++ more)
part_more rest next more (nothing none) = nothing none
part_more rest next more (cut f fs left is whole some) = cut f (fs ++ more) left (ap (λ l. l ++ more) is) whole some

-- what the server says, where it refused nothing
pub calm_replies : (s : Setup) (w : World) → first_fault s.site w.up ≡ None → replies_of s.site w.up ≡ replies s.site (reading_of s.site w.up).past
calm_replies s w calm =
    let said = replies s.site (reading_of s.site w.up).past in
    ap (λ l. said ++ l) (calm_says_nothing (end_of s.site w.up) calm) ∙ append-nil said

-- The client reads all that came, and refuses nothing.
pub client_calm : (s : Setup) → IsPlain s → (w : World) → Base s w → TokensLive w → BearsAll s w.cmds (sends s w) w.up → first_fault s.site w.up ≡ None
    → client_reading_of s.asker w.cmds w.down ≡ record { past = past_of (frames_of w.down); fault = None }
client_calm s h w i live bears calm =
    let site = s.site in
    let b = down_are s w.up w.down h (plain_down s h w (plain w.down) i.flow.down) in
    let all = replies_of site w.up in
    let spoken : spelled_list b.front ++ spelled_list b.back ≡ frames_replied site 0 all = sym (map-append spell b.front b.back) ∙ ap spelled_list b.whole ∙ sym (replied_are site 0 all) in
    let said = front_replies site 0 all (spelled_list b.front) (spelled_list b.back, spoken) in
    let g = server_stands site [] (frames_of w.up) (plain (rest_of w.up)) in
    let there : all ≡ replies site (past_of g.0) = calm_replies s w calm ∙ ap (replies site) g.1 in
    let y = way s (sends s w) w.up (frames_of w.down) g.0 said.0 (up_are s h w i) i.timely.up (b.frames ∙ said.2) g.2 (subst (IsPrefix said.0) there said.1) in
    let first = prefix_trans g.0 (frames_of w.up) y.ps g.2 y.comes.front in
    let q : IsPrefix all (replies site (past_of y.ps)) = subst (λ l. IsPrefix l (replies site (past_of y.ps))) (sym there) (replies_begin site g.0 y.ps first) in
    let more = frames_replied site (numbered_after 0 all) q.0 in
    let back = spelled_list b.back ++ more in
    let whole : spelled_list b.front ++ back ≡ frames_replied site 0 (replies site (past_of y.ps)) =
    sym (append_assoc (spelled_list b.front) (spelled_list b.back) more) ∙ ap (λ l. l ++ more) spoken ∙ sym (replied_cut site 0 all q.0) ∙ ap (frames_replied site 0) q.1 in
    client_well s.asker w.cmds w.down (frames_of w.down ++ y.tail) (spelled_list b.front) back (frames_replied site 0 (replies site (past_of y.ps))) h.plain (y.tail, refl) b.frames whole y.comes.replied
    (part_more (plain (rest_of w.down)) (spelled_list b.back) more b.part) (bears y.ps (frames_of w.down ++ y.tail) y.comes).taken live.down

-- What live tokens give.
pub record Lives (s : Setup) (w : World) : Type 0 where
  pub bears : BearsAll s w.cmds (sends s w) w.up
  pub stands : AllAfter (λ past f. fault_at s.site (known s.site past) f ≡ None) [] (frames_of w.up)
  pub calm : first_fault s.site w.up ≡ None
  pub reads : client_reading_of s.asker w.cmds w.down ≡ record { past = past_of (frames_of w.down); fault = None }

pub lives : (s : Setup) → IsPlain s → (w : World) → Inv s w → TokensLive w → Lives s w
lives s h w i live =
    let bears = bears_live s h w i.base live.up i.stage in
    let well = stands_if_live s w.cmds (sends s w) w.up (up_are s h w i.base) i.base.timely.up bears live.up in
    record { bears = bears; stands = well.0; calm = well.1; reads = client_calm s h w i.base live bears well.1 }

calm_end : (e : End) → fault_of e ≡ None → (stop e ≡ None) ⊎ (stop e ≡ Some Closed)
calm_end Closed h = inr refl
calm_end InputEnded h = inl refl
calm_end Truncated h = inl refl
calm_end LinkFailed h = inl refl
calm_end TurnsSpent h = inl refl
calm_end NoMemory h = inl refl
calm_end (Refused status) h = absurd (cc h)

pub unrefused_plain : (s : Setup) (schedule : List Step) → IsPlain s → IsSchedule schedule → RefusesNothing s (final s schedule)
unrefused_plain s schedule h is live =
    let w = final s schedule in
    let l = lives s h w (inv s h schedule is) live in
    (calm_end (end_of s.site w.up) l.calm, ap (λ (R : ClientReading). R.fault) l.reads)
