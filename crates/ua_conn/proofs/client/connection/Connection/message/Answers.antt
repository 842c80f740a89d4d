use Rattle.std.proofs.Common.{◌≡◌, ◌++◌, Option, None, Some, cond, true, sym, ap, subst, ◌∙◌}
use Rattle.std.specs.Prelude.{option_copied}
use Rattle.ua_chunk.specs.Layout.{chunk_of}
use Rattle.ua_chunk.specs.Half.{may_have_id}
use Rattle.ua_conn.specs.client.Machine.{waiting_under, without}
use Rattle.ua_conn.specs.client.Reading.{answer_with}
use Rattle.ua_conn.specs.client.Parts.{Gathers}
use Rattle.ua_conn.specs.declared.client.answer.AnswerResult.{AnswerResult}
use Rattle.ua_conn.proofs.ServerEnd.MessageLemmas.{chunk_of_flagged}
use Rattle.ua_conn.proofs.ClientEnd.AnswerLemmas.{Ends, answer_acts}
use Rattle.ua_conn.proofs.client.connection.Connection.message.Goals as goal

pub returns-clause-does : goal.returns-clause-does
returns-clause-does c = λ bytes.
    let s = c.self.inside in
    let p = c.args.frame.now in
    let chunk = c.in_ok-chunk.chunk in
    let heard = c.in_ok-chunk.ensures.heard in
    let is = chunk_of_flagged p.kind p.flag (chunk_of p.fields) chunk heard.chunk in
    let id = c.request_id-id.ensures in
    let same : may_have_id s.half.half chunk.chunk.request_id ≡ true =
    ap (λ w. may_have_id (cond w None s.half.half) chunk.chunk.request_id) (sym c.self.invariant.between.whole) ∙ ap (λ n. may_have_id (cond s.half.whole None s.half.half) n) (sym id) ∙ c.in_ok-same_message.ensures.same in
    let wanted : waiting_under chunk.chunk.request_id s.pending.requests ≡ Some c.in-Some.request.now =
    ap (λ n. waiting_under n s.pending.requests) (sym id) ∙ sym c.get.ensures ∙ ap option_copied c.in-Some.is in
    let judged = c.in_ok-came.ensures.judged in
    let gathers = subst (λ (r : Option AnswerResult). Gathers s.half c.gather.new.half chunk r) c.in-Some-2.is judged.1 in
    let ends : Ends chunk.chunk.request_id s.pending.requests c.hand_answer.new.pending.requests (Some c.in-Some-2.came) c.args.answers.now.items c.hand_answer.new.answers.items = record {
      left = c.in_ok-hand_answer.ensures.left ∙ ap (λ n. without n s.pending.requests) id;
      given = c.in_ok-hand_answer.ensures.given ∙ ap (λ n. c.args.answers.now.items ++ answer_with n (waiting_under n s.pending.requests) (Some c.in-Some-2.came)) id;
    } in
    rw (← c.self.view_is) (answer_acts s.config s.reverse s.ack s.channel c.admitted_chunk.new.channel s.half c.gather.new.half s.pending.requests c.hand_answer.new.pending.requests s.due s.next c.args.now p.flag (chunk_of p.fields) chunk p.kind c.in-Some.request.now (Some c.in-Some-2.came) bytes c.args.answers.now.items c.hand_answer.new.answers.items
    c.self.invariant.between is c.in_ok-chunk.ensures.admitted heard.channel same wanted judged.0 gathers ends)
