use Rattle.std.proofs.Common.{arith, sym, ap, subst, List, [], ℕ, pos, None, false}
use Rattle.ua_conn.specs.server.Site.{Site}
use Rattle.ua_conn.specs.server.Feeding.{Shown as Server}
use Rattle.ua_conn.specs.server.Held.{held}
use Rattle.ua_link.specs.Fronts.{IsFront}
use Rattle.ua_link.specs.Connections.{Stands}
use Rattle.ua_link.proofs.ConnectionLemmas.{fresh, first_rest}
use Rattle.ua_link.proofs.connection.ServerConnection.new.Goals as goal

pub returns-clause-begins : goal.returns-clause-begins
returns-clause-begins c = λ s.
    let site : Site = record { settings = c.args.settings.now; channel = c.args.id } in
    let begun : Server = record { site = site; held = held site []; failed = false } in
    subst (λ (server : Server). Stands site c.args.turns server c.in-Ok.waiting (pos 0) c.new-4.result.items c.args.turns None [] 0 s s) (sym c.in_ok-server.ensures)
    (subst (λ (waiting : List ℕ). Stands site c.args.turns begun waiting (pos 0) c.new-4.result.items c.args.turns None [] 0 s s) (sym c.in-Ok.ensures)
    (subst (λ (owed : List ℕ). Stands site c.args.turns begun [] (pos 0) owed c.args.turns None [] 0 s s) (sym c.new-4.ensures.items) (fresh site c.args.turns s c.requires.turns)))

pub invariant_of-result : goal.invariant_of-result
invariant_of-result c =
    let site : Site = record { settings = c.args.settings.now; channel = c.args.id } in
    let none = ap (λ (v : Server). v.held.rest) c.in_ok-server.ensures in
    (omega arith, omega arith, omega arith, omega arith, λ e w. c.requires.turns, λ e. subst (λ (rest : List ℕ). IsFront c.new-3.result.header c.new-3.result.got c.new-3.result.missing rest) (sym (first_rest site c.in_ok-server.server.held.rest none)) c.new-3.ensures)
