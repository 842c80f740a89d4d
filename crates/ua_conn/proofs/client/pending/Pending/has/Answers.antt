use Rattle.std.proofs.Common.{ap, is_some, ◌∙◌}
use Rattle.ua_conn.proofs.ClientEnd.WaitingLemmas.{waiting_is_found}
use Rattle.ua_conn.proofs.client.pending.Pending.has.Goals as goal

pub returns : goal.returns
returns c = rw (← c.self.view_is) (c.contains_key.ensures ∙ ap is_some (waiting_is_found c.args.id c.self.inside.map.entries))
