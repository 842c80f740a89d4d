use Rattle.ua_conn.proofs.ClientEnd.FirstFaultLemmas as law
use Rattle.ua_conn.proofs.laws.client_stays_stopped.Goals as goal

pub returns : goal.returns
returns c = law.stays_stopped
