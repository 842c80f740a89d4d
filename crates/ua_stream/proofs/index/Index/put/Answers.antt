use Rattle.ua_stream.proofs.IndexLemmas.{is_kept}
use Rattle.ua_stream.proofs.index.Index.put.Goals as goal

pub returns-clause-kept : goal.returns-clause-kept
returns-clause-kept c = is_kept c.args.self.now record { numbers = c.insert.new.self } c.args.one c.args.other c.args.number c.ends_of.result c.ends_of.ensures c.in_ok-insert.ensures.updates.0
