use Rattle.std.proofs.Common.{true}
use Rattle.ua_conn.specs.server.Site.{Site}
use Rattle.ua_conn.proofs.server.conversation.answer_all_reverse.Goals as goal

pub returns-in-Ok-clause-reply : goal.returns-in-Ok-clause-reply
returns-in-Ok-clause-reply c =
    let site : Site = record { settings = c.args.settings.now; channel = c.args.channel_id } in
    c.in-Ok.ensures.reply true site c.in_ok-server.ensures.answering

pub returns-in-Ok-clause-handed : goal.returns-in-Ok-clause-handed
returns-in-Ok-clause-handed c =
    let site : Site = record { settings = c.args.settings.now; channel = c.args.channel_id } in
    c.in-Ok.ensures.handed true site c.in_ok-server.ensures.answering

pub returns-in-Ok-clause-end : goal.returns-in-Ok-clause-end
returns-in-Ok-clause-end c =
    let site : Site = record { settings = c.args.settings.now; channel = c.args.channel_id } in
    c.in-Ok.ensures.end true site c.in_ok-server.ensures.answering
