use Rattle.ua_conn.proofs.ClientEnd.FirstFaultLemmas as law
use Rattle.ua_conn.proofs.laws.client_first_fault.Goals as goal

pub returns : goal.returns
returns c = law.stops_first
