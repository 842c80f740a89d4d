use Rattle.std.proofs.Common.{◌≡◌, replicate}
use Rattle.ua_serve.specs.declared.place.Seat.TheVariants.{Free}
use Rattle.ua_serve.proofs.connections.Connections.new.Given as goal

abbrev pub invariant-places : goal.invariant-places
invariant-places g l = l.places.items ≡ replicate l.counter Free
