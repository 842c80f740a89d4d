use Rattle.std.proofs.Common.{[]}
use Rattle.ua_conn.proofs.ServerEnd.FirstFaultLemmas.{first}
use Rattle.ua_conn.proofs.laws.first_fault.Goals as goal

pub returns : goal.returns
returns c = λ site fs rest. first site [] fs rest
