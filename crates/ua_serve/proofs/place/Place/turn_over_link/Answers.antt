use Rattle.std.proofs.Common.{◌+◌, ap, refl, ◌∙◌}
use Rattle.ua_serve.specs.Turn.{counted, site_of}
use Rattle.ua_serve.proofs.place.Place.turn_over_link.Goals as goal

pub returns : goal.returns
returns g c = λ settings. record {
  id = refl;
  asks = c.turn-turn.ensures.asked;
  times = c.turn-turn.ensures.timed;
  cut = c.turn-turn.ensures.cut;
  calls = c.turn-turn.ensures.calls;
  failed = c.turn-turn.ensures.failed;
  fed = c.turn-turn.ensures.fed;
  waits = c.turn-turn.ensures.waits;
  begun = c.turn-turn.ensures.begun;
  latest = c.turn-turn.ensures.latest;
  active = c.turn-turn.ensures.active;
  frame = c.turn-turn.ensures.frame;
  patient = c.turn-turn.ensures.patient;
  impatient = c.turn-turn.ensures.impatient;
  read = c.saturating_add-self.ensures ∙ ap (λ k. counted (c.args.self.now.read + k)) c.came.ensures;
  written = c.saturating_add-self-2.ensures;
  leaves = λ cuts n began s. c.turn-turn.ensures.leaves (site_of settings c.args.self.now) 65536 cuts n began s;
}
