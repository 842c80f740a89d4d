-- What a server hands on is a beginning of what is asked, and what a client makes of any first replies answers it in order.
use mathlib.Core.List.{IsPrefix}
use Rattle.std.proofs.Common.{◌≡◌, ℕ, ◌+◌, ◌<◌, ◌≤◌, ◌^◌, max, List, [], ◌∷◌, ◌++◌, map, length, refl, sym, ap, subst, ◌∙◌, arith}
use Rattle.std.proofs.lemmas.List.{length-append, length-map, map-append}
use Rattle.std.proofs.lemmas.List.Elements.{filter-append}
use Rattle.std.specs.List.{filter}
use Rattle.ua_frame.specs.Streams.{TimedByte, plain, rest_of}
use Rattle.ua_frame.specs.Layout.{Frame, frames_of}
use Rattle.ua_frame.specs.Beginnings.{AreMoments}
use Rattle.ua_service.specs.declared.request.Request.{Request}
use Rattle.ua_conn.specs.Past.{Past}
use Rattle.ua_conn.specs.server.Replies.{Reply, replies, requests, reading_of}
use Rattle.ua_conn.specs.server.Held.{newest_first}
use Rattle.ua_conn.specs.client.Commands.{Command, Commands, Asked, asked, asked_in, asked_by, next_id}
use Rattle.ua_conn.specs.client.Reading.{answers}
use Rattle.ua_conn.specs.client.Sending.{Sent}
use Rattle.ua_conn.specs.Story.{Setup}
use Rattle.ua_conn.specs.BothEnds.{Served, served_by, AnswersInOrder}
use Rattle.ua_conn.specs.declared.client.answer.Answer.{Answer}
use Rattle.ua_conn.proofs.ServerEnd.ReadyLemmas.{newest_append}
use Rattle.ua_conn.proofs.ClientEnd.FreshLemmas.{AreFresh}
use Rattle.ua_conn.proofs.ClientEnd.IdLemmas.{fresh_later, fresh_before}
use Rattle.ua_conn.proofs.ClientEnd.CommandLemmas.{answers_stay}
use Rattle.ua_conn.proofs.BothEnds.EndLemmas.{ends_reply, endings, replies_end, frames_end}
use Rattle.ua_conn.proofs.BothEnds.FaithfulLemmas.{prefix_trans}
use Rattle.ua_conn.proofs.BothEnds.InvariantForms.{BearsAll}
use Rattle.ua_conn.proofs.BothEnds.OnTheWayLemmas.{frames_replied, Are, past_of}
use Rattle.ua_conn.proofs.BothEnds.OrderLemmas.{order_front, order_requests, requests_served, answers_go, served_go, requests_begin, answers_end}
use Rattle.ua_conn.proofs.BothEnds.SpokenLemmas.{BeginsSpoken}
use Rattle.ua_conn.proofs.BothEnds.SpokenReplyLemmas.{AllFit, replies_fit, replies_sized}
use Rattle.ua_conn.proofs.BothEnds.StoryLemmas.{all_spoken}
use Rattle.ua_conn.proofs.BothEnds.WayLemmas.{way, server_stands}
use Rattle.ua_conn.proofs.BothEnds.PlainForms.{IsPlain}

-- ---- answers in order

-- more that is asked changes nothing of it
order_longer : (s : Setup) (xs ys : List Asked) (vs : List Served) (is : List Answer) → AnswersInOrder s xs vs is → AnswersInOrder s (xs ++ ys) vs is
order_longer s xs ys vs [] h = tt
order_longer s [] ys vs (i ∷ is) h = elim h [ ]
order_longer s (x ∷ xs) ys [] (i ∷ is) h = elim h [ ]
order_longer s (x ∷ xs) ys (v ∷ vs) (i ∷ is) h = (h.0, order_longer s xs ys vs is h.1)

fresh_front : (n : ℕ) (past : Past) (fs : List Frame) → AreFresh n (newest_first fs past) → AreFresh n past
fresh_front n past [] h = h
fresh_front n past (f ∷ fs) h = fresh_before n past f (fresh_front n (f ∷ past) fs h)

-- ---- how many messages replies end

endings_join : (rs qs : List Reply) → endings (rs ++ qs) ≡ endings rs + endings qs
endings_join rs qs = ap length (filter-append ends_reply rs qs) ∙ length-append (filter ends_reply rs) (filter ends_reply qs)

fit_front : (limit : ℕ) (rs qs : List Reply) → AllFit limit (rs ++ qs) → AllFit limit rs
fit_front limit [] qs h = tt
fit_front limit (r ∷ rs) qs h = (h.0, fit_front limit rs qs h.1)

few_answers : (s : Setup) → IsPlain s → (cmds : Commands) (there : Past) (rs : List Frame) (said : List Reply) → Are rs (frames_replied s.site 0 said) → IsPrefix said (replies s.site there) → length (answers cmds (past_of rs)) ≤ length (served_by s.site there)
few_answers s h cmds there rs said is p =
    let site = s.site in
    let limit = max 8192 site.settings.limits.send in
    let fit : AllFit limit said = fit_front limit said p.0 (subst (AllFit limit) (sym p.1) (replies_fit site there limit (omega arith) (omega arith))) in
    let sized = replies_sized site 0 limit said (omega (arith, h.site.settings.bounds.limits.send_most)) fit in
    omega (
      arith,
      answers_end cmds (past_of rs),
      frames_end site 0 said rs [] sized is,
      ap endings p.1,
      endings_join said p.0,
      replies_end site there,
      ap length (requests_served site there),
      length-map (served_by site there) (λ (v : Served). v.request),
    )

-- ---- the two statements

-- any frames of the first replies are answers to what is asked, in order
abbrev pub Answered : Setup → Commands → Past → Type 0
Answered s cmds there = (rs : List Frame) (said : List Reply) → Are rs (frames_replied s.site 0 said) → IsPrefix said (replies s.site there)
    → AnswersInOrder s (asked_in cmds) (served_by s.site there) (answers cmds (past_of rs)) × AreFresh (next_id cmds) (past_of rs)

abbrev pub HandsOn : Setup → Commands → Past → Type 0
HandsOn s cmds there = IsPrefix (requests s.site there) (asked cmds)

pub answered : (s : Setup) → IsPlain s → (cmds : Commands) (xs : List Sent) (u : List TimedByte) → BeginsSpoken u (all_spoken s.asker.first_sequence 0 xs) → AreMoments (λ m. m < 2 ^ 63) u → BearsAll s cmds xs u → Answered s cmds (reading_of s.site u).past
answered s h cmds xs u b clock bears rs said is p =
    let site = s.site in
    let g = server_stands site [] (frames_of u) (plain (rest_of u)) in
    let there = (reading_of site u).past in
    let w = way s xs u rs g.0 said b clock is g.2 (subst (λ past. IsPrefix said (replies site past)) g.1 p) in
    let a = bears w.ps (rs ++ w.tail) w.comes in
    let first = prefix_trans g.0 (frames_of u) w.ps g.2 w.comes.front in
    let all : past_of w.ps ≡ newest_first first.0 there = ap past_of (sym first.1) ∙ newest_append g.0 first.0 [] ∙ ap (newest_first first.0) (sym g.1) in
    let come : past_of (rs ++ w.tail) ≡ newest_first w.tail (past_of rs) = newest_append rs w.tail [] in (
      order_front s (asked_in cmds) (served_by site (past_of w.ps)) (served_by site there) (answers cmds (past_of (rs ++ w.tail))) (answers cmds (past_of rs))
          (subst (λ past. IsPrefix (served_by site there) (served_by site past)) (sym all) (served_go site there first.0))
          (subst (λ past. IsPrefix (answers cmds (past_of rs)) (answers cmds past)) (sym come) (answers_go cmds (past_of rs) w.tail))
          (few_answers s h cmds there rs said is p) a.order,
      fresh_front (next_id cmds) (past_of rs) w.tail (subst (AreFresh (next_id cmds)) come a.fresh),
    )

pub hands_on : (s : Setup) (cmds : Commands) (xs : List Sent) (u : List TimedByte) → BeginsSpoken u (all_spoken s.asker.first_sequence 0 xs) → AreMoments (λ m. m < 2 ^ 63) u → BearsAll s cmds xs u → HandsOn s cmds (reading_of s.site u).past
hands_on s cmds xs u b clock bears =
    let site = s.site in
    let g = server_stands site [] (frames_of u) (plain (rest_of u)) in
    let there = (reading_of site u).past in
    let w = way s xs u [] [] [] b clock refl (frames_of u, refl) (replies site [], refl) in
    let a = bears w.ps w.tail w.comes in
    let first = prefix_trans g.0 (frames_of u) w.ps g.2 w.comes.front in
    let all : past_of w.ps ≡ newest_first first.0 there = ap past_of (sym first.1) ∙ newest_append g.0 first.0 [] ∙ ap (newest_first first.0) (sym g.1) in
    let same : requests site (past_of w.ps) ≡ asked cmds = requests_served site (past_of w.ps)
    ∙ order_requests s (asked_in cmds) (served_by site (past_of w.ps)) (answers cmds (past_of w.tail)) a.many_served a.many_answers a.order in
    subst (IsPrefix (requests site there)) (ap (requests site) (sym all) ∙ same) (requests_begin site there first.0)

-- ---- one more command

pub answered_told : (s : Setup) (c : Command) (cmds : Commands) (there : Past) → Answered s cmds there → Answered s (c ∷ cmds) there
answered_told s c cmds there h rs said is p =
    let old = h rs said is p in (
      subst (λ zs. AnswersInOrder s (asked_in (c ∷ cmds)) (served_by s.site there) zs) (sym (answers_stay c cmds (past_of rs) (old.1.ended (next_id cmds) (omega arith))))
          (order_longer s (asked_in cmds) (asked_by (next_id cmds) c.seen c.act) (served_by s.site there) (answers cmds (past_of rs)) old.0),
      fresh_later (next_id cmds) (next_id (c ∷ cmds)) (past_of rs) (omega arith) old.1,
    )

pub hands_told : (s : Setup) (c : Command) (cmds : Commands) (there : Past) → HandsOn s cmds there → HandsOn s (c ∷ cmds) there
hands_told s c cmds there h =
    let more : List Request = map (λ (a : Asked). a.request) (asked_by (next_id cmds) c.seen c.act) in
    prefix_trans (requests s.site there) (asked cmds) (asked (c ∷ cmds)) h (more, sym (map-append (λ (a : Asked). a.request) (asked_in cmds) (asked_by (next_id cmds) c.seen c.act)))
