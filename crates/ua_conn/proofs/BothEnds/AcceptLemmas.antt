-- Where a client takes a command, it knows what its step asks for; so an accepted command keeps what both ends make of all that is on the way.
use mathlib.Core.List.{IsPrefix}
use Rattle.std.proofs.Common.{◌≡◌, ℕ, ◌+◌, ◌<◌, ◌≤◌, ◌^◌, [], ◌∷◌, ◌++◌, map, length, None, sym, ap, subst, ◌∙◌, arith, append_assoc, Some}
use Rattle.ua_frame.specs.Streams.{moment_of, plain, rest_of}
use Rattle.ua_frame.specs.Layout.{frames_of}
use Rattle.ua_chunk.specs.Cut.{fill}
use Rattle.ua_channel.specs.Token.{newest_id}
use Rattle.ua_service.specs.Requests.{canon_request, request_message}
use Rattle.ua_conn.specs.Past.{agreed, tokens_in}
use Rattle.ua_conn.specs.server.Replies.{replies, first_fault}
use Rattle.ua_conn.specs.server.Held.{newest_first}
use Rattle.ua_conn.specs.client.Asker.{hello_by}
use Rattle.ua_conn.specs.client.Commands.{Act, Ask, Renew, Close, Command, opens_asked, next_id}
use Rattle.ua_conn.specs.client.Past.{ClientKnown, client_known, acknowledge_frame_in, granted_in}
use Rattle.ua_conn.specs.client.Pending.{come_by}
use Rattle.ua_conn.specs.client.Questions.{open_asked_body, close_asked_body}
use Rattle.ua_conn.specs.client.Reading.{ClientReading, client_reading_of}
use Rattle.ua_conn.specs.client.Sending.{Opening, Asking, Closing, greets, opens, act_says, commands_say, sent_by}
use Rattle.ua_conn.specs.client.Asking.{ask_fault}
use Rattle.ua_conn.specs.Story.{Setup, World}
use Rattle.ua_conn.proofs.ServerEnd.ReadyLemmas.{newest_append}
use Rattle.ua_conn.proofs.ClientEnd.AcceptedLemmas.{accepted_token, over_not, ask_fits}
use Rattle.ua_conn.proofs.ClientEnd.CountLemmas.{tokens_left, ids_left}
use Rattle.ua_conn.proofs.ClientEnd.PlaceLemmas.{frames_within}
use Rattle.ua_conn.proofs.ClientEnd.ReadingLemmas.{reads_same}
use Rattle.ua_conn.proofs.BothEnds.CommandAddsLemmas.{ask_adds, renew_adds, close_adds}
use Rattle.ua_conn.proofs.BothEnds.CommandStepLemmas.{Adds, core_step, reaches}
use Rattle.ua_conn.proofs.BothEnds.FaithfulLemmas.{accepted_acked}
use Rattle.ua_conn.proofs.BothEnds.FrameListLemmas.{all_back}
use Rattle.ua_conn.proofs.BothEnds.HoldLemmas.{ids_of, Fits}
use Rattle.ua_conn.proofs.BothEnds.InvariantForms.{Core}
use Rattle.ua_conn.proofs.BothEnds.OnTheWayLemmas.{past_of, Accepts}
use Rattle.ua_conn.proofs.BothEnds.ReadyLemmas.{stands_come, newest_came, channel_along, ack_along, known_newest}
use Rattle.ua_conn.proofs.BothEnds.ScheduleLemmas.{tokens_of}
use Rattle.ua_conn.proofs.BothEnds.StoryBaseLemmas.{Base, here_of, sends, up_are, standing_of}
use Rattle.ua_conn.proofs.BothEnds.WayLemmas.{way, server_stands}
use Rattle.ua_conn.proofs.BothEnds.PlainForms.{IsPlain, plain_down}

-- how many tokens came to the client
abbrev pub come : Setup → World → ℕ
come s w = length (granted_in (here_of s w))

pub record Ready (s : Setup) (w : World) : Type 0 where
  pub some : 1 ≤ come s w
  pub low : come s w ≤ length (opens_asked w.cmds)
  pub high : length (opens_asked w.cmds) ≤ come s w + 1
  pub short : come s w < 2 ^ 32
  pub view : come_by (length w.down) (here_of s w) ≡ here_of s w
  pub channel : (client_known (here_of s w)).channel ≡ s.site.channel
  pub token : newest_id (client_known (here_of s w)).tokens ≡ come s w
  pub ack : (client_known (here_of s w)).ack ≡ Some (agreed s.site (hello_by s.asker)).ack

pub ready : (s : Setup) → IsPlain s → (w : World) → Base s w → (act : Act) → ask_fault s.asker w.cmds w.down act ≡ None → Core s w.cmds (come s w) (sends s w) w.up → Ready s w
ready s h w i act e core =
    let a = s.asker in
    let st = standing_of s h w i in
    let site = s.site in
    let g = server_stands site [] (frames_of w.up) (plain (rest_of w.up)) in
    let y = way s (sends s w) w.up st.frames g.0 st.said (up_are s h w i) i.timely.up st.are g.2 (subst (λ past. IsPrefix st.said (replies site past)) g.1 st.begins) in
    let k = core y.ps (st.frames ++ y.tail) y.comes in
    let mine = past_of st.frames in
    let all : past_of (st.frames ++ y.tail) ≡ newest_first y.tail mine = newest_append st.frames y.tail [] in
    let some = accepted_token a w.cmds w.down act e in
    let some_mine : 1 ≤ length (granted_in mine) = subst (λ past. 1 ≤ length (granted_in past)) st.is some in
    let acked = accepted_acked a w.cmds w.down act e in
    let fit = tokens_of s w i.asks in
    let heard = k.holds.hears_is in
    let channel : (client_known mine).channel ≡ site.channel =
    sym (channel_along a w.cmds mine y.tail (all_back (Accepts a w.cmds) [] st.frames y.tail k.taken) some_mine) ∙ ap (λ past. (client_known past).channel) (sym all) ∙ ap (λ (x : ClientKnown). x.channel) heard in
    let ids : ids_of (granted_in (newest_first y.tail mine)) ≡ ids_of (tokens_in (past_of y.ps)) = ap (λ past. ids_of (granted_in past)) (sym all) ∙ k.holds.tokens in
    let token : newest_id (client_known mine).tokens ≡ length (granted_in mine) = known_newest mine ∙ newest_came (past_of y.ps) mine y.tail ids in
    let ack : (client_known mine).ack ≡ Some (agreed site (hello_by a)).ack =
    sym (ack_along mine y.tail acked.0 (subst (λ past. acknowledge_frame_in past ≡ Some acked.0) st.is acked.1)) ∙ ap (λ past. (client_known past).ack) (sym all) ∙ ap (λ (x : ClientKnown). x.ack) heard in
    record {
      some = some;
      low = fit.most;
      high = fit.least;
      short = fit.fits;
      view = subst (λ past. come_by (length w.down) past ≡ past) (sym st.is) (stands_come w.down st.frames st.first);
      channel = subst (λ past. (client_known past).channel ≡ site.channel) (sym st.is) channel;
      token = subst (λ past. newest_id (client_known past).tokens ≡ length (granted_in past)) (sym st.is) token;
      ack = subst (λ past. (client_known past).ack ≡ Some (agreed site (hello_by a)).ack) (sym st.is) ack;
    }

-- ---- what an accepted command adds

-- the command, at this moment
abbrev pub given : World → Act → Command
given w act = record { act = act; moment = moment_of w.clock; seen = length w.down }

-- each asked request is a value
abbrev pub IsAct : Act → Type 0
IsAct (Ask request part) = request_message.IsValue request
IsAct Renew = Unit {0}
IsAct Close = Unit {0}

adds : (s : Setup) → IsPlain s → (w : World) → Base s w → (act : Act) → IsAct act → ask_fault s.asker w.cmds w.down act ≡ None → Ready s w
    → Adds s w.cmds (given w act) (come s w) (act_says s.asker (next_id w.cmds) (moment_of w.clock) (client_known (come_by (length w.down) (here_of s w))) act)
adds s h w i act is e r = by act is e
  where
    now : ℕ
    now = moment_of w.clock

    id : ℕ
    id = next_id w.cmds

    k : ClientKnown
    k = client_known (come_by (length w.down) (here_of s w))

    channel : k.channel ≡ s.site.channel
    channel = ap (λ past. (client_known past).channel) r.view ∙ r.channel

    token : newest_id k.tokens ≡ come s w
    token = ap (λ past. newest_id (client_known past).tokens) r.view ∙ r.token

    by : (act : Act) → IsAct act → ask_fault s.asker w.cmds w.down act ≡ None → Adds s w.cmds (given w act) (come s w) (act_says s.asker id now k act)
    by (Ask request part) is e =
        let f = ask_fits s.asker w.cmds w.down request part (agreed s.site (hello_by s.asker)).ack e r.ack in
        let limits = s.site.settings.limits in
        let bounds = h.site.settings.bounds.limits in
        let fits : Fits s w.cmds request part = record {
          value = is;
          some = f.some;
          room = f.room;
          small = over_not limits.max_message (length (canon_request request)) f.small bounds.message_least;
          few = over_not limits.max_chunks _ f.few bounds.chunks_least;
          unspent = omega (arith, f.unspent);
        } in
        subst (λ ms. Adds s w.cmds (given w (Ask request part)) (come s w) ms) (λ j. map (Asking (sym channel j) (sym token j)) (fill id (canon_request request) part))
        (ask_adds s w.cmds request part now (length w.down) (come s w) h fits r.some r.low r.high r.short)
    by Renew is e =
        let left = ids_left s.asker w.cmds w.down Renew e in
        subst (λ ms. Adds s w.cmds (given w Renew) (come s w) ms) (λ j. Opening (sym channel j) id (open_asked_body now id 1 s.asker.config.lifetime) ∷ [])
        (renew_adds s w.cmds now (length w.down) (come s w) h (omega (arith, r.some, r.low)) (omega (arith, tokens_left w.cmds left)) (omega (arith, left)) i.timely.clock)
    by Close is e =
        let left = ids_left s.asker w.cmds w.down Close e in
        subst (λ ms. Adds s w.cmds (given w Close) (come s w) ms) (λ j. Closing (sym channel j) (sym token j) id (close_asked_body now id) ∷ [])
        (close_adds s w.cmds now (length w.down) (come s w) h r.some r.low r.high r.short (omega (arith, left)) i.timely.clock)

-- One more command, where the server refused nothing.
pub core_told : (s : Setup) → IsPlain s → (w : World) → Base s w → (act : Act) → IsAct act → ask_fault s.asker w.cmds w.down act ≡ None → first_fault s.site w.up ≡ None
    → Core s w.cmds (come s w) (sends s w) w.up
    → (let cmds = given w act ∷ w.cmds in let past = (client_reading_of s.asker cmds w.down).past in Core s cmds (length (granted_in past)) (sent_by s.asker cmds past) w.up)
core_told s h w i act is e calm core =
    let a = s.asker in
    let c = given w act in
    let cmds = c ∷ w.cmds in
    let past = here_of s w in
    let r = ready s h w i act e core in
    let ms = act_says a (next_id w.cmds) (moment_of w.clock) (client_known (come_by (length w.down) past)) act in
    let same : client_reading_of a cmds w.down ≡ client_reading_of a w.cmds w.down = reads_same a c w.cmds w.down (frames_within w.down) in
    let all : sends s w ++ ms ≡ sent_by a cmds past =
    append_assoc (greets a past) (opens a past ++ commands_say a w.cmds past) ms ∙ ap (λ l. greets a past ++ l) (append_assoc (opens a past) (commands_say a w.cmds past) ms) in
    let step = core_step s w.cmds c (come s w) (sends s w) ms w.up (up_are s h w i) (λ ps rs x. reaches s (sends s w) w.up w.down ps rs calm (plain_down s h w (plain w.down) i.flow.down) x) (adds s h w i act is e r) core in
    subst (λ (R : ClientReading). Core s cmds (length (granted_in R.past)) (sent_by a cmds R.past) w.up) (sym same) (subst (λ xs. Core s cmds (come s w) xs w.up) all step)
