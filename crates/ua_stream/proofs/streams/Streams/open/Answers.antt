use Rattle.ua_stream.proofs.IndexLemmas.{stays}
use Rattle.ua_stream.proofs.streams.Streams.open.Goals as goal

pub invariant_of-self-in_err-put_at : goal.invariant_of-self-in_err-put_at
invariant_of-self-in_err-put_at c = stays c.begin.new.connections.items c.put_at.new.connections.items c.begin.new.index c.put_at.ensures.ends c.begin.ensures.indexed

pub invariant_of-self-2 : goal.invariant_of-self-2
invariant_of-self-2 c = stays c.begin.new.connections.items c.put_at.new.connections.items c.begin.new.index c.put_at.ensures.ends c.begin.ensures.indexed
