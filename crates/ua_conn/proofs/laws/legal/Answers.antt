use Rattle.ua_conn.proofs.ServerEnd.LegalLemmas.{legal_law}
use Rattle.ua_conn.proofs.ServerEnd.OpeningLemmas.{opens}
use Rattle.ua_conn.proofs.laws.legal.Goals as goal

pub returns : goal.returns
returns c = λ site room. legal_law site room (opens site room)
