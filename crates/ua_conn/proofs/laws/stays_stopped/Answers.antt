use Rattle.ua_conn.proofs.ServerEnd.StopLemmas.{stays}
use Rattle.ua_conn.proofs.laws.stays_stopped.Goals as goal

pub returns : goal.returns
returns c = stays
