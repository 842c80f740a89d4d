use Rattle.ua_conn.proofs.BothEnds.ReverseLemmas as law
use Rattle.ua_conn.proofs.laws.answered.Goals as goal

pub returns : goal.returns
returns c = law.answered_law
