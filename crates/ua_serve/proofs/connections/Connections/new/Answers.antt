use Rattle.std.proofs.Common.{rules, ◌≡◌, ◌∙◌, ap, sym, replicate, slice_get}
use Rattle.ua_serve.specs.declared.place.Seat.TheVariants.{Free}
use Rattle.ua_serve.proofs.PlaceLemmas.{none_placed, all_free}
use Rattle.ua_serve.proofs.connections.Connections.new.Goals as goal

pub returns-clause-new : goal.returns-clause-new
returns-clause-new g c =
    let places : c.places.places.items ≡ replicate c.args.at_once Free = all_free c.args.at_once c.places.counter c.places.places.items c.places.invariant c.places-test.false c.places.auto.counter-end in
    search (rules, places)

pub returns-clause-stand : goal.returns-clause-stand
returns-clause-stand g c = λ k p has. absurd (none_placed c.places.counter k p (ap (λ ps. slice_get ps k) (sym c.places.invariant) ∙ has))

pub returns-clause-numbered : goal.returns-clause-numbered
returns-clause-numbered g c = record {
  positive = λ k p has. absurd (none_placed c.places.counter k p (ap (λ ps. slice_get ps k) (sym c.places.invariant) ∙ has));
  accepted = λ k p has. absurd (none_placed c.places.counter k p (ap (λ ps. slice_get ps k) (sym c.places.invariant) ∙ has));
  different = λ j k p q had has e. absurd (none_placed c.places.counter k q (ap (λ ps. slice_get ps k) (sym c.places.invariant) ∙ has));
}
