use Rattle.std.proofs.Common.{subst, sym}
use Rattle.ua_stream.specs.Index.{IsIndex}
use Rattle.ua_stream.proofs.IndexLemmas.{stays}
use Rattle.ua_stream.proofs.streams.Streams.take.Goals as goal

pub place_of-requires : goal.place_of-requires
place_of-requires c = subst (λ cs. IsIndex cs c.self.inside.index) (sym c.deref.ensures.value) c.self.invariant

pub invariant_of-self : goal.invariant_of-self
invariant_of-self c = stays c.self.inside.connections.items c.put_at.new.connections.items c.self.inside.index c.put_at.ensures.ends c.self.invariant

pub invariant_of-self-in-Some : goal.invariant_of-self-in-Some
invariant_of-self-in-Some c = stays c.self.inside.connections.items c.put_at.new.connections.items c.self.inside.index c.put_at.ensures.ends c.self.invariant
