use Rattle.std.proofs.Common.{subst, sym}
use Rattle.ua_stream.specs.Index.{IsIndex}
use Rattle.ua_stream.proofs.IndexLemmas.{none_yet}
use Rattle.ua_stream.proofs.streams.Streams.new.Goals as goal

pub invariant_of-result : goal.invariant_of-result
invariant_of-result c = subst (λ cs. IsIndex cs c.new-2.result) (sym c.new.ensures.items) (none_yet c.new-2.result c.new-2.ensures)
