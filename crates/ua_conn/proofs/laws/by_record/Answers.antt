use Rattle.ua_conn.proofs.ServerEnd.RecordLemmas as law
use Rattle.ua_conn.proofs.laws.by_record.Goals as goal

pub returns : goal.returns
returns c = law.by_record
