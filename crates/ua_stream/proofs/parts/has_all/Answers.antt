use Rattle.std.proofs.Common.{arith}
use Rattle.ua_stream.proofs.Places.{some_at}
use Rattle.ua_stream.proofs.parts.has_all.Goals as goal

pub returns-then-end : goal.returns-then-end
returns-then-end c = λ e k from to. some_at c.args.parts.now c.loop-part.part-index c.part-item.result k (omega arith) c.part-item.is (omega arith) (omega arith)
