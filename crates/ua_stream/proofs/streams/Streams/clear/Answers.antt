use Rattle.ua_stream.proofs.IndexLemmas.{keeps_all, stays}
use Rattle.ua_stream.proofs.streams.Streams.clear.Goals as goal

pub invariant_of-self : goal.invariant_of-self
invariant_of-self c =
    let at = c.clear_at.ensures in
    stays c.self.inside.connections.items c.clear_at.new.connections.items c.self.inside.index
    (keeps_all c.self.inside.connections.items c.clear_at.new.connections.items c.args.number at.was at.now at.before at.after at.ends) c.self.invariant
