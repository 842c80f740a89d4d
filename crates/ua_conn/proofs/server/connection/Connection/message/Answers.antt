use Rattle.std.proofs.Common.{◌++◌, Option, Some, None, length, refl, sym, ap, subst, ◌∙◌}
use Rattle.ua_chunk.specs.Layout.{chunk_of}
use Rattle.ua_chunk.specs.Numbers.{number_after}
use Rattle.ua_chunk.specs.Written.{message_frames}
use Rattle.ua_channel.specs.Channel.{Shown, most}
use Rattle.ua_conn.specs.Past.{Agreed}
use Rattle.ua_conn.specs.server.Answers.{answer_body}
use Rattle.ua_conn.specs.server.Replies.{answer_parts}
use Rattle.ua_conn.proofs.ServerEnd.MessageLemmas.{Answers, site_of, gains, chunk_of_flagged, token_is, silent, answered, no_answer, message_acts}
use Rattle.ua_conn.proofs.server.connection.Connection.message.Goals as goal

pub returns-clause-does : goal.returns-clause-does
returns-clause-does c =
    let s = c.self.inside in
    let p = c.args.frame.now in
    let chunk = c.in_ok-chunk.chunk in
    let judged = c.in_ok-chunk.ensures.judged in
    let is = chunk_of_flagged p.kind p.flag (chunk_of p.fields) chunk judged.1.chunk in
    let gathered = rw c.in-Ok-Some.field-0-is at c.in-Ok-Some.ensures.judged in
    let site = site_of s.settings.now s.id in
    let token = most s.channel.channel.used chunk.chunk.token in
    let id = chunk.chunk.request_id in
    let out = c.args.out.now.items in
    let asked = c.args.asked.now.items in
    let agreed = c.in-Some.agreed in
    let body = answer_body s.settings.now c.in-Ok-Some.request c.args.now in
    let used = token_is c.sending_token.result c.unwrap.result token c.unwrap.ensures (c.sending_token.ensures ∙ ap (λ (x : Shown). x.channel.used) judged.1.channel) in
    let said = c.in_ok-hand_on.ensures.said ∙ (λ i. out ++ message_frames s.id c.unwrap.result s.next 0 (answer_parts agreed (c.request_id.ensures i) body)) in
    let numbered = c.in_ok-hand_on.ensures.numbered ∙ (λ i. number_after s.next (length (answer_parts agreed (c.request_id.ensures i) body))) in
    let says = subst (λ (a : Option Agreed). Answers site a token id s.next c.args.now (Some c.in-Ok-Some.request) c.hand_on.new.next (gains out asked) (gains c.hand_on.new.out.items c.hand_on.new.asked.items)) (sym c.in-Some.is)
    (answered site agreed token c.unwrap.result id s.next c.args.now c.in-Ok-Some.request body c.hand_on.new.next out c.hand_on.new.out.items asked c.hand_on.new.asked.items c.self.invariant.number used refl said numbered c.in_ok-hand_on.ensures.asked) in
    rw (← c.self.view_is) (message_acts s.settings.now s.id s.agreed s.channel c.admitted_chunk.new.channel s.half c.gather.new.half s.next c.hand_on.new.next c.args.now p.flag (chunk_of p.fields) chunk p.kind (Some c.in-Ok-Some.request) (gains out asked) (gains c.hand_on.new.out.items c.hand_on.new.asked.items)
    c.self.invariant.same c.self.invariant.between is judged.0 judged.1.channel gathered.0 gathered.1 says)

pub returns-in_default-clause-does : goal.returns-in_default-clause-does
returns-in_default-clause-does c =
    let s = c.self.inside in
    let p = c.args.frame.now in
    let chunk = c.in_ok-chunk.chunk in
    let judged = c.in_ok-chunk.ensures.judged in
    let is = chunk_of_flagged p.kind p.flag (chunk_of p.fields) chunk judged.1.chunk in
    let gathered = rw c.in-Ok-Some.field-0-is at c.in-Ok-Some.ensures.judged in
    let site = site_of s.settings.now s.id in
    let token = most s.channel.channel.used chunk.chunk.token in
    let id = chunk.chunk.request_id in
    let out = c.args.out.now.items in
    let asked = c.args.asked.now.items in
    let says = subst (λ (a : Option Agreed). Answers site a token id s.next c.args.now (Some c.in-Ok-Some.request) s.next (gains out asked) (gains out c.push.new.self.items)) (sym c.in_default.is)
    (silent site token id s.next c.args.now c.in-Ok-Some.request out asked c.push.new.self.items c.in_ok-push.ensures.items) in
    rw (← c.self.view_is) (message_acts s.settings.now s.id s.agreed s.channel c.admitted_chunk.new.channel s.half c.gather.new.half s.next s.next c.args.now p.flag (chunk_of p.fields) chunk p.kind (Some c.in-Ok-Some.request) (gains out asked) (gains out c.push.new.self.items)
    c.self.invariant.same c.self.invariant.between is judged.0 judged.1.channel gathered.0 gathered.1 says)

pub returns-in-Ok-None-clause-does : goal.returns-in-Ok-None-clause-does
returns-in-Ok-None-clause-does c =
    let s = c.self.inside in
    let p = c.args.frame.now in
    let chunk = c.in_ok-chunk.chunk in
    let judged = c.in_ok-chunk.ensures.judged in
    let is = chunk_of_flagged p.kind p.flag (chunk_of p.fields) chunk judged.1.chunk in
    let gathered = rw c.in-Ok-None.field-0-is at c.in-Ok-None.ensures.judged in
    let had = gains c.args.out.now.items c.args.asked.now.items in
    rw (← c.self.view_is) (message_acts s.settings.now s.id s.agreed s.channel c.admitted_chunk.new.channel s.half c.gather.new.half s.next s.next c.args.now p.flag (chunk_of p.fields) chunk p.kind None had had
    c.self.invariant.same c.self.invariant.between is judged.0 judged.1.channel gathered.0 gathered.1 (no_answer (site_of s.settings.now s.id) s.agreed (most s.channel.channel.used chunk.chunk.token) chunk.chunk.request_id s.next c.args.now had))
