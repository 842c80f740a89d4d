use Rattle.std.proofs.Common.{inl}
use Rattle.ua_serve.proofs.place.Place.turn.Goals as goal

pub returns : goal.returns
returns g c = λ settings. inl (c.turn_over_link.ensures settings)
