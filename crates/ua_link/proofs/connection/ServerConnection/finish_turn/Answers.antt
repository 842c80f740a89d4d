use Rattle.std.proofs.Common.{◌∙◌, ◌+◌, sym, ap, subst, drop, if◌then◌else◌}
use Rattle.ua_link.specs.Turns.{Seen}
use Rattle.ua_link.specs.declared.connection.ReadyTurn.{ReadyTurn}
use Rattle.ua_link.specs.Connections.{Shown, Judges, Leaves}
use Rattle.ua_link.proofs.ConnectionLemmas.{spoken, leaves, broken, same_kept}
use Rattle.ua_link.proofs.connection.ServerConnection.finish_turn.Goals as goal

pub returns-in-Ok-clause-leaves : goal.returns-in-Ok-clause-leaves
returns-in-Ok-clause-leaves g c = λ site turns cuts n begun s.
    let w = c.in-Ok.written in
    let before : Seen = record { input = g.L.ReadyLink.input c.args.link.now; output = g.L.ReadyLink.output c.args.link.now; faults = g.L.ReadyLink.fault_count c.args.link.now } in
    let after : Seen = record { input = g.L.ReadyLink.input c.send.new.link; output = g.L.ReadyLink.output c.send.new.link; faults = g.L.ReadyLink.fault_count c.send.new.link } in
    let mid : Shown = record c.args.self.now { owed = drop w c.args.self.now.owed } in
    let moved = c.has_moved.result in
    let over = c.over-over.result in
    let e = c.in-Ok.ensures.dropped in
    let spoke = spoken site turns c.args.self.now cuts n w begun before after s c.in-Ok.ensures.within c.in-Ok.ensures.sent c.in-Ok.ensures.kept c.in-Ok.ensures.counted in
    let judged = subst (λ (v : Shown). Judges v moved c.args.patience over) e c.over-over.ensures.judged in
    let is = c.over-over.ensures.active ∙ ap (λ (v : Shown). record v { active = if moved then v.latest else v.active }) e in
    subst (λ (v : Shown). Leaves site turns v cuts (n + w) begun after over) (sym is) (leaves site turns mid (if moved then mid.latest else mid.active) cuts (n + w) begun after moved c.args.patience over spoke judged)

pub returns-in-Err-clause-leaves : goal.returns-in-Err-clause-leaves
returns-in-Err-clause-leaves g c = λ site turns cuts n begun s.
    let before : Seen = record { input = g.L.ReadyLink.input c.args.link.now; output = g.L.ReadyLink.output c.args.link.now; faults = g.L.ReadyLink.fault_count c.args.link.now } in
    let after : Seen = record { input = g.L.ReadyLink.input c.send.new.link; output = g.L.ReadyLink.output c.send.new.link; faults = g.L.ReadyLink.fault_count c.send.new.link } in
    broken site turns c.args.self.now c.send.new.self cuts n _ begun before after _ s (same_kept before.input after.input c.in-Err.ensures.kept) c.in-Err.ensures.unsent c.in-Err.ensures.counted (ap (λ (t : ReadyTurn). t.over) c.ended.ensures) (ap (λ (t : ReadyTurn). t.written) c.ended.ensures)
