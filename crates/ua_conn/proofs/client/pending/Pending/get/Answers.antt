use Rattle.std.proofs.Common.{◌∙◌}
use Rattle.ua_conn.proofs.ClientEnd.WaitingLemmas.{waiting_is_found}
use Rattle.ua_conn.proofs.client.pending.Pending.get.Goals as goal

pub returns : goal.returns
returns c = rw (← c.self.view_is) (c.get.ensures.value ∙ waiting_is_found c.args.id c.self.inside.map.entries)
