use Rattle.std.proofs.Common.{sym, ◌∙◌}
use Rattle.ua_conn.proofs.ServerEnd.ReplyLemmas.{parts_numbered}
use Rattle.ua_conn.proofs.server.connection.message.say.Goals as goal

pub returns-clause-numbered : goal.returns-clause-numbered
returns-clause-numbered g c =
    parts_numbered c.write_measured.result c.args.next.now c.write_measured.new.sequence c.args.head.now.request_id c.args.agreed.now (g.M.Emit.spelling c.args.answer.now)
    (sym (c.is_too_large.ensures (g.M.Emit.spelling c.args.answer.now) c.emit_len-len.ensures.length) ∙ c.if-is_too_large.false) c.write_measured.ensures.numbered
