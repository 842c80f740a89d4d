use Rattle.std.proofs.Common.{true, [], ◌++◌, refl, ap, ◌∙◌}
use Rattle.ua_conn.specs.server.Site.{Site}
use Rattle.ua_conn.specs.server.Greeting.{greeting}
use Rattle.ua_conn.proofs.ServerEnd.WholeInputLemmas.{none_yet}
use Rattle.ua_conn.proofs.server.conversation.opened.Goals as goal

pub returns-in-Ok-clause-answering : goal.returns-in-Ok-clause-answering
returns-in-Ok-clause-answering c =
    let site : Site = record { settings = c.args.settings.now; channel = c.args.channel_id } in
    none_yet true site c.new_reverse.new.out.items [] c.in-Ok.server (c.in-Ok.ensures.said ∙ ap (λ l. l ++ greeting true c.args.settings.now) c.new-said.ensures.items) refl c.in-Ok.ensures.server
