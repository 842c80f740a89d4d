use Rattle.ua_conn.proofs.BothEnds.ReverseLemmas as law
use Rattle.ua_conn.proofs.laws.handed.Goals as goal

pub returns : goal.returns
returns c = law.handed_law
