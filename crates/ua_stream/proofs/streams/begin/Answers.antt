use Rattle.std.proofs.Common.{subst, sym, ◌∙◌}
use Rattle.ua_stream.specs.Index.{IsIndex}
use Rattle.ua_stream.proofs.IndexLemmas.{begun, undone}
use Rattle.ua_stream.proofs.streams.begin.Goals as goal

pub returns-in_err-push-clause-indexed : goal.returns-in_err-push-clause-indexed
returns-in_err-push-clause-indexed c = subst (λ cs. IsIndex cs c.args.index.now) (sym c.in_err-push.ensures.items) c.requires

pub returns-in-Ok-clause-indexed : goal.returns-in-Ok-clause-indexed
returns-in-Ok-clause-indexed c = begun c.args.connections.now.items c.push.new.self.items c.args.segment.now c.new.result c.len-number.result c.from.result c.to.result c.args.index.now c.put.new.self
    c.requires (c.len-number.ensures ∙ c.args.connections.now.ok.0) c.from.ensures c.to.ensures c.new.ensures c.in_ok-push.ensures.items c.in-Ok.ensures.kept

pub returns-in-Err-clause-indexed : goal.returns-in-Err-clause-indexed
returns-in-Err-clause-indexed c = undone c.args.connections.now.items c.push.new.self.items c.truncate.new.self.items c.new.result c.len-number.result c.args.index.now c.put.new.self
    c.requires (c.len-number.ensures ∙ c.args.connections.now.ok.0) c.in_ok-push.ensures.items c.truncate.ensures.items c.in-Err.ensures.unchanged
