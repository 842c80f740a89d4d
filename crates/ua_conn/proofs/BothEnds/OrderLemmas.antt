-- Answers in order, joined and cut; and how many there are: no more than messages that ended, which are no more than the requests that were handed on.
use mathlib.Core.List.{IsPrefix}
use Rattle.std.proofs.Common.{◌≡◌, ℕ, ◌≤◌, Bool, true, false, cond, List, [], ◌∷◌, ◌++◌, map, length, Option, Some, None, refl, sym, ap, subst, ◌∙◌, arith, append_assoc}
use Rattle.std.proofs.lemmas.List.{append-nil, length-append, map-append}
use Rattle.ua_frame.specs.Layout.{Frame, kind_of, flag_of}
use Rattle.ua_service.specs.declared.request.Request.{Request}
use Rattle.ua_conn.specs.server.Site.{Site}
use Rattle.ua_conn.specs.Past.{Past, known, is_message, carried}
use Rattle.ua_conn.specs.server.Replies.{handed_at, requests}
use Rattle.ua_conn.specs.server.Held.{newest_first}
use Rattle.ua_conn.specs.client.Commands.{Commands, Asked}
use Rattle.ua_conn.specs.client.Past.{ClientKnown, client_known}
use Rattle.ua_conn.specs.client.Pending.{bytes_in, ends_one, ended_ids, wanted_at}
use Rattle.ua_conn.specs.client.Reading.{result_by, answer_with, answer_at, answers}
use Rattle.ua_conn.specs.Story.{Setup}
use Rattle.ua_conn.specs.BothEnds.{Served, served_by, AnswersOne, AnswersInOrder}
use Rattle.ua_conn.specs.declared.client.answer.Answer.{Answer}
use Rattle.ua_conn.specs.declared.client.answer.AnswerResult.{AnswerResult}
use Rattle.ua_conn.proofs.ClientEnd.CommandLemmas.{answer_quiet}

-- ---- in order

pub order_join : (s : Setup) (xs : List Asked) (vs : List Served) (is : List Answer) (ys : List Asked) (ws : List Served) (js : List Answer) → length vs ≡ length xs → length is ≡ length xs →
    AnswersInOrder s xs vs is → AnswersInOrder s ys ws js → AnswersInOrder s (xs ++ ys) (vs ++ ws) (is ++ js)
order_join s [] [] [] ys ws js a b h k = k
order_join s [] (v ∷ vs) is ys ws js a b h k = absurd (omega (arith, a))
order_join s [] [] (i ∷ is) ys ws js a b h k = absurd (omega (arith, b))
order_join s (x ∷ xs) [] is ys ws js a b h k = absurd (omega (arith, a))
order_join s (x ∷ xs) (v ∷ vs) [] ys ws js a b h k = absurd (omega (arith, b))
order_join s (x ∷ xs) (v ∷ vs) (i ∷ is) ys ws js a b h k = (h.0, order_join s xs vs is ys ws js (omega (arith, a)) (omega (arith, b)) h.1 k)

-- a beginning of the servings and a beginning of the answers, which are no more
pub order_front : (s : Setup) (xs : List Asked) (vs ws : List Served) (is js : List Answer) → IsPrefix ws vs → IsPrefix js is → length js ≤ length ws → AnswersInOrder s xs vs is → AnswersInOrder s xs ws js
order_front s xs vs ws is [] p q le h = tt
order_front s xs vs ws [] (j ∷ js) p q le h = absurd (cc (q.1))
order_front s [] vs ws (i ∷ is) (j ∷ js) p q le h = elim h [ ]
order_front s (x ∷ xs) [] ws (i ∷ is) (j ∷ js) p q le h = elim h [ ]
order_front s (x ∷ xs) (v ∷ vs) [] (i ∷ is) (j ∷ js) p q le h = absurd (omega (arith, le))
order_front s (x ∷ xs) (v ∷ vs) (w ∷ ws) (i ∷ is) (j ∷ js) p q le h =
    let same_served : v ≡ w = cc (p.1) in
    let same_answer : i ≡ j = cc (q.1) in (
      subst (λ (k : Answer). AnswersOne s x w k) same_answer (subst (λ (u : Served). AnswersOne s x u i) same_served h.0),
      order_front s xs vs ws is js (p.0, cc (p.1)) (q.0, cc (q.1)) (omega (arith, le)) h.1,
    )

-- what was served is what was asked, where all of it was answered
pub order_requests : (s : Setup) (xs : List Asked) (vs : List Served) (is : List Answer) → length vs ≡ length xs → length is ≡ length xs → AnswersInOrder s xs vs is → map (λ v. v.request) vs ≡ map (λ x. x.request) xs
order_requests s [] [] [] a b h = refl
order_requests s [] (v ∷ vs) is a b h = absurd (omega (arith, a))
order_requests s [] [] (i ∷ is) a b h = absurd (omega (arith, b))
order_requests s (x ∷ xs) [] is a b h = absurd (omega (arith, a))
order_requests s (x ∷ xs) (v ∷ vs) [] a b h = absurd (omega (arith, b))
order_requests s (x ∷ xs) (v ∷ vs) (i ∷ is) a b h = λ j. h.0.handed j ∷ order_requests s xs vs is (omega (arith, a)) (omega (arith, b)) h.1 j

-- what was served is what was handed on
pub requests_served : (site : Site) (past : Past) → requests site past ≡ map (λ v. v.request) (served_by site past)
requests_served site [] = refl
requests_served site (f ∷ past) =
    (λ i. requests_served site past i ++ same (handed_at (known site past) f) f.moment i)
    ∙ sym (map-append (λ (v : Served). v.request) (served_by site past) (map (λ r. record { request = r; moment = f.moment }) (handed_at (known site past) f)))
  where
    same : (l : List Request) (now : ℕ) → l ≡ map (λ (v : Served). v.request) (map (λ r. record { request = r; moment = now }) l)
    same [] now = refl
    same (r ∷ l) now = ap (λ (x : List Request). r ∷ x) (same l now)

-- ---- with more frames

-- a beginning of the frames brings a beginning of the answers,
pub answers_go : (cmds : Commands) (past : Past) (fs : List Frame) → IsPrefix (answers cmds past) (answers cmds (newest_first fs past))
answers_go cmds past [] = ([], append-nil (answers cmds past))
answers_go cmds past (f ∷ fs) =
    let here = answer_at (client_known past) (wanted_at cmds past (bytes_in (f ∷ past)) (carried f).request_id) f in
    let rest = answers_go cmds (f ∷ past) fs in
    (here ++ rest.0, sym (append_assoc (answers cmds past) here rest.0) ∙ rest.1)

-- of the servings,
pub served_go : (site : Site) (past : Past) (fs : List Frame) → IsPrefix (served_by site past) (served_by site (newest_first fs past))
served_go site past [] = ([], append-nil (served_by site past))
served_go site past (f ∷ fs) =
    let here : List Served = map (λ r. record { request = r; moment = f.moment }) (handed_at (known site past) f) in
    let rest = served_go site (f ∷ past) fs in
    (here ++ rest.0, sym (append_assoc (served_by site past) here rest.0) ∙ rest.1)

-- and of the requests.
pub requests_begin : (site : Site) (past : Past) (fs : List Frame) → IsPrefix (requests site past) (requests site (newest_first fs past))
requests_begin site past [] = ([], append-nil (requests site past))
requests_begin site past (f ∷ fs) =
    let here = handed_at (known site past) f in
    let rest = requests_begin site (f ∷ past) fs in
    (here ++ rest.0, sym (append_assoc (requests site past) here rest.0) ∙ rest.1)

-- ---- how many answers

one_at_most : (id : ℕ) (o : Option Request) (r : Option AnswerResult) → length (answer_with id o r) ≤ 1
one_at_most id None r = omega arith
one_at_most id (Some q) None = omega arith
one_at_most id (Some q) (Some r) = omega arith

answer_few : (k : ClientKnown) (wanted : Option Request) (f : Frame) → length (answer_at k wanted f) ≤ 1
unfolding answer_at
answer_few k wanted f = by (is_message (kind_of f.bytes))
  where
    by : (b : Bool) → length (cond b (answer_with (carried f).request_id wanted (result_by k (flag_of f.bytes) (carried f))) []) ≤ 1
    by true = one_at_most (carried f).request_id wanted (result_by k (flag_of f.bytes) (carried f))
    by false = omega arith

-- no more than messages that ended
pub answers_end : (cmds : Commands) (past : Past) → length (answers cmds past) ≤ length (ended_ids past)
answers_end cmds [] = omega arith
answers_end cmds (f ∷ past) = by (ends_one f) refl (answers_end cmds past)
  where
    wanted : Option Request
    wanted = wanted_at cmds past (bytes_in (f ∷ past)) (carried f).request_id

    here : List Answer
    here = answer_at (client_known past) wanted f

    by : (b : Bool) → ends_one f ≡ b → length (answers cmds past) ≤ length (ended_ids past) → length (answers cmds (f ∷ past)) ≤ length (ended_ids (f ∷ past))
    by true e k =
        let more : ended_ids (f ∷ past) ≡ (carried f).request_id ∷ ended_ids past = rw e refl in
        omega (arith, k, ap length more, answer_few (client_known past) wanted f, length-append (answers cmds past) here)
    by false e k =
        let same : ended_ids (f ∷ past) ≡ ended_ids past = rw e refl in
        omega (arith, k, ap length same, ap length (answer_quiet (client_known past) wanted f e), length-append (answers cmds past) here)
