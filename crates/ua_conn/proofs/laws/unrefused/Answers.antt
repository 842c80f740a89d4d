use Rattle.ua_conn.proofs.BothEnds.ReverseLemmas as law
use Rattle.ua_conn.proofs.laws.unrefused.Goals as goal

pub returns : goal.returns
returns c = law.unrefused_law
