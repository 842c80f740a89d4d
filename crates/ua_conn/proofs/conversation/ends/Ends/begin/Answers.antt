use Rattle.std.proofs.Common.{rules, w64, ◌++◌, refl, ap, ◌∙◌}
use mir.Val.{SFits}
use Rattle.std.proofs.lemmas.Int.{to_z-of_z}
use Rattle.ua_conn.specs.server.Greeting.{greeting}
use Rattle.ua_conn.specs.Conversing.{setup_of}
use Rattle.ua_conn.proofs.BothEnds.BetweenRunLemmas.{begins_between}
use Rattle.ua_conn.proofs.conversation.ends.Ends.begin.Goals as goal

pub returns-in-Ok : goal.returns-in-Ok
returns-in-Ok c =
    let fits : SFits w64 c.args.setup.now.start = search rules in
    let said = c.in_ok-server.ensures.said ∙ ap (λ l. l ++ greeting c.args.setup.now.reverse c.args.setup.now.settings.now) c.new-down.ensures.items in
    begins_between (setup_of c.args.setup.now) _ c.requires.first_least (to_z-of_z w64 c.args.setup.now.start fits)
    c.in-Ok.ensures.client c.in_ok-server.ensures.server c.in-Ok.ensures.up refl refl
    c.new.ensures.items c.new-in-Ok.ensures.items c.new-in-Ok-2.ensures.items said refl refl
