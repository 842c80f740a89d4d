use Rattle.std.proofs.Common.{rules, w64, ◌≡◌, ◌+◌, Option, sym, ap, subst, IfSome, true, ◌≤◌}
use mir.Val.{SFits}
use Rattle.ua_conn.specs.declared.outcome.End.TheVariants.{NoMemory}
use Rattle.ua_link.specs.Reads.{Cut}
use Rattle.ua_link.specs.Turns.{Seen}
use Rattle.ua_link.specs.Reports.{cuts_with}
use Rattle.ua_link.specs.Connections.{Shown, Leaves, IsFed, is_read}
use Rattle.ua_link.specs.declared.connection.ReadyTurn.{ReadyTurn}
use Rattle.ua_link.proofs.ConnectionLemmas.{broken, same_kept, noted_so, heard_so, starved, ended_with_none, cut_so, fed_so, fed_still, waits_so}
use Rattle.ua_link.proofs.connection.ServerConnection.turn.Goals as goal

pub returns-in_default-clause-leaves : goal.returns-in_default-clause-leaves
returns-in_default-clause-leaves g c = λ site turns cuts n begun s.
    let now = c.now-moment.result in
    let fits : SFits w64 now = search rules in
    let before : Seen = record { input = g.L.ReadyLink.input c.args.link.now; output = g.L.ReadyLink.output c.args.link.now; faults = g.L.ReadyLink.fault_count c.args.link.now } in
    let after : Seen = record { input = g.L.ReadyLink.input c.read-came.new.link; output = g.L.ReadyLink.output c.read-came.new.link; faults = g.L.ReadyLink.fault_count c.read-came.new.link } in
    let ended = c.ended.ensures in
    subst (λ (k : Option Cut). Leaves site turns c.note.new.self (cuts_with k cuts) (n + c.ended.result.written) begun after c.ended.result.over) (sym (ap (λ (t : ReadyTurn). t.cut) ended))
    (broken site turns c.args.self.now c.note.new.self cuts n _ begun before after _ s c.in_default.ensures.failed.2 (same_kept before.output after.output c.in_default.ensures.kept) c.in_default.ensures.counted
    (ap (λ (t : ReadyTurn). t.over) ended) (ap (λ (t : ReadyTurn). t.written) ended))

pub returns-in-Ok-hear-clause-leaves : goal.returns-in-Ok-hear-clause-leaves
returns-in-Ok-hear-clause-leaves g c = λ site turns cuts n begun s.
    let before : Seen = record { input = g.L.ReadyLink.input c.args.link.now; output = g.L.ReadyLink.output c.args.link.now; faults = g.L.ReadyLink.fault_count c.args.link.now } in
    let mid : Seen = record { input = g.L.ReadyLink.input c.read-came.new.link; output = g.L.ReadyLink.output c.read-came.new.link; faults = g.L.ReadyLink.fault_count c.read-came.new.link } in
    let after : Seen = record { input = g.L.ReadyLink.input c.finish_turn.new.link; output = g.L.ReadyLink.output c.finish_turn.new.link; faults = g.L.ReadyLink.fault_count c.finish_turn.new.link } in
    let noted = noted_so site turns c.args.self.now c.read-came.new.self c.note.new.self _ cuts c.in-Ok.cut n begun before mid s c.in-Ok.ensures.reads c.in-Ok.ensures.kept c.in-Ok.ensures.counted c.note.ensures.noted in
    let stands = heard_so site turns c.note.new.self c.hear.new.self (cuts_with c.in-Ok.cut cuts) n begun mid noted c.in-Ok-hear.ensures.hears in
    subst (λ (k : Option Cut). Leaves site turns c.finish_turn.new.self (cuts_with k cuts) (n + c.finish_turn.result.written) begun after c.finish_turn.result.over) (sym c.finish_turn.ensures.cut)
    (c.finish_turn.ensures.leaves site turns (cuts_with c.in-Ok.cut cuts) n begun stands)

pub returns-in-Err-clause-leaves : goal.returns-in-Err-clause-leaves
returns-in-Err-clause-leaves g c = λ site turns cuts n begun s.
    let before : Seen = record { input = g.L.ReadyLink.input c.args.link.now; output = g.L.ReadyLink.output c.args.link.now; faults = g.L.ReadyLink.fault_count c.args.link.now } in
    let mid : Seen = record { input = g.L.ReadyLink.input c.read-came.new.link; output = g.L.ReadyLink.output c.read-came.new.link; faults = g.L.ReadyLink.fault_count c.read-came.new.link } in
    let noted = noted_so site turns c.args.self.now c.read-came.new.self c.note.new.self _ cuts c.in-Ok.cut n begun before mid s c.in-Ok.ensures.reads c.in-Ok.ensures.kept c.in-Ok.ensures.counted c.note.ensures.noted in
    let ended = c.ended-in-Err.ensures in
    subst (λ (k : Option Cut). Leaves site turns c.hear.new.self (cuts_with k cuts) (n + c.ended-in-Err.result.written) begun mid c.ended-in-Err.result.over) (sym (ap (λ (t : ReadyTurn). t.cut) ended))
    (ended_with_none site turns c.hear.new.self (cuts_with c.in-Ok.cut cuts) n _ begun mid _ NoMemory (starved site turns c.note.new.self (cuts_with c.in-Ok.cut cuts) n begun mid noted)
    (ap (λ (t : ReadyTurn). t.over) ended) (ap (λ (t : ReadyTurn). t.written) ended))

pub returns-in-Ok-hear-clause-cut : goal.returns-in-Ok-hear-clause-cut
returns-in-Ok-hear-clause-cut g c =
    subst (λ (k : Option Cut). IfSome k (λ cut. (is_read c.args.self.now ≡ true) × (cut.1 ≤ 4096))) (sym c.finish_turn.ensures.cut) (cut_so c.args.self.now c.read-came.new.self _ _ c.in-Ok.cut c.in-Ok.ensures.reads)

pub returns-in-Err-clause-cut : goal.returns-in-Err-clause-cut
returns-in-Err-clause-cut g c =
    subst (λ (k : Option Cut). IfSome k (λ cut. (is_read c.args.self.now ≡ true) × (cut.1 ≤ 4096))) (sym (ap (λ (t : ReadyTurn). t.cut) c.ended-in-Err.ensures)) (cut_so c.args.self.now c.read-came.new.self _ _ c.in-Ok.cut c.in-Ok.ensures.reads)

pub returns-in-Ok-hear-clause-fed : goal.returns-in-Ok-hear-clause-fed
returns-in-Ok-hear-clause-fed g c = λ over none.
    let fed = fed_still c.args.self.now c.hear.new.self _ _ c.in-Ok.cut (fed_so c.args.self.now c.read-came.new.self c.note.new.self c.hear.new.self _ _ _ c.in-Ok.cut c.in-Ok.ensures.reads c.note.ensures.noted c.in-Ok-hear.ensures.hears) in
    subst (λ (k : Option Cut). IsFed c.args.self.now c.finish_turn.new.self k) (sym c.finish_turn.ensures.cut)
    (subst (λ (v : Shown). IsFed c.args.self.now v c.in-Ok.cut) (sym c.finish_turn.ensures.rest) fed)

pub returns-in-Ok-hear-clause-waits : goal.returns-in-Ok-hear-clause-waits
returns-in-Ok-hear-clause-waits g c = λ over none bound.
    waits_so c.hear.new.self c.finish_turn.new.self c.finish_turn.result.written _ c.in-Ok-hear.ensures.enough c.finish_turn.ensures.rest c.finish_turn.ensures.within none bound
