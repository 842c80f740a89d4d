use Rattle.std.proofs.Common.{◌≡◌, false, is_none, sym, ap, ◌∙◌}
use Rattle.ua_chunk.specs.Layout.{chunk_of}
use Rattle.ua_service.specs.ChannelMessages.{close_of}
use Rattle.ua_conn.proofs.ServerEnd.ContentLemmas.{flagged_some}
use Rattle.ua_conn.proofs.ServerEnd.MessageLemmas.{close_acts}
use Rattle.ua_conn.proofs.server.connection.Connection.close.Goals as goal

pub returns-clause-does : goal.returns-clause-does
returns-clause-does c = λ bytes asked.
    let s = c.self.inside in
    let p = c.args.frame.now in
    let chunk = c.in_ok-chunk.chunk in
    let judged = c.in_ok-chunk.ensures.judged in
    let body : is_none (close_of chunk.chunk.body) ≡ false = ap (λ b. is_none (close_of b)) (sym c.body.ensures) ∙ ap is_none c.in_ok-read_close.ensures.gives in
    rw (← c.self.view_is) (close_acts s.settings.now s.id s.agreed s.channel c.admitted_chunk.new.channel s.half.half s.next c.args.now (chunk_of p.fields) chunk.chunk bytes asked
    c.self.invariant.same (flagged_some p.kind p.flag (chunk_of p.fields) chunk judged.1.chunk) judged.0 judged.1.channel body)
