use Rattle.ua_conn.proofs.ClientEnd.UnansweredLemmas as law
use Rattle.ua_conn.proofs.laws.pending.Goals as goal

pub returns : goal.returns
returns c = law.pending_law
