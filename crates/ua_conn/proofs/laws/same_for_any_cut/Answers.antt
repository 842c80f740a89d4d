use Rattle.std.proofs.Common.{ap}
use Rattle.ua_conn.specs.server.Replies.{reply_bytes, handed, end_of}
use Rattle.ua_conn.proofs.laws.same_for_any_cut.Goals as goal

pub returns : goal.returns
returns c = λ reverse site ps qs e. (ap (reply_bytes reverse site) e, ap (handed site) e, ap (end_of site) e)
