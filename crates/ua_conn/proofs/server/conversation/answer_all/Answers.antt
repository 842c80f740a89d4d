use Rattle.std.proofs.Common.{false, [], refl}
use Rattle.ua_conn.specs.server.Site.{Site}
use Rattle.ua_conn.proofs.ServerEnd.WholeInputLemmas.{none_yet}
use Rattle.ua_conn.proofs.server.conversation.answer_all.Goals as goal

pub returns-in-Ok-clause-reply : goal.returns-in-Ok-clause-reply
returns-in-Ok-clause-reply c =
    let site : Site = record { settings = c.args.settings.now; channel = c.args.channel_id } in
    c.in-Ok.ensures.reply false site (none_yet false site c.new-reply.result.items [] c.in_ok-server.server c.new-reply.ensures.items refl c.in_ok-server.ensures)

pub returns-in-Ok-clause-handed : goal.returns-in-Ok-clause-handed
returns-in-Ok-clause-handed c =
    let site : Site = record { settings = c.args.settings.now; channel = c.args.channel_id } in
    c.in-Ok.ensures.handed false site (none_yet false site c.new-reply.result.items [] c.in_ok-server.server c.new-reply.ensures.items refl c.in_ok-server.ensures)

pub returns-in-Ok-clause-end : goal.returns-in-Ok-clause-end
returns-in-Ok-clause-end c =
    let site : Site = record { settings = c.args.settings.now; channel = c.args.channel_id } in
    c.in-Ok.ensures.end false site (none_yet false site c.new-reply.result.items [] c.in_ok-server.server c.new-reply.ensures.items refl c.in_ok-server.ensures)
