use Rattle.ua_conn.proofs.BothEnds.OpenedLemmas.{opened_law}
use Rattle.ua_conn.proofs.laws.opened_by_server.Goals as goal

pub returns : goal.returns
returns c = opened_law
