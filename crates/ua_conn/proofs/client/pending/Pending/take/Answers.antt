use Rattle.std.proofs.Common.{nat_eq, ap, sym, ◌∙◌}
use Rattle.std.specs.Map.{lookup}
use Rattle.ua_conn.proofs.ClientEnd.WaitingLemmas.{waiting_is_found, without_is_removed}
use Rattle.ua_conn.proofs.client.pending.Pending.take.Goals as goal

pub returns-clause-taken : goal.returns-clause-taken
returns-clause-taken c = rw (← c.self.view_is) (c.shift_remove.ensures.value ∙ waiting_is_found c.args.id c.self.inside.map.entries)

pub returns-clause-left : goal.returns-clause-left
returns-clause-left c =
    let e = c.shift_remove.ensures in
    rw (← c.self.view_is) (e.entries ∙ without_is_removed c.args.id c.self.inside.map.entries (ap (lookup (nat_eq c.args.id)) (sym e.entries) ∙ e.updates.1))
