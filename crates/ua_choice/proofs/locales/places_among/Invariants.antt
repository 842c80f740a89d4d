use Rattle.std.proofs.Common.{take}
use Rattle.ua_choice.specs.Locales.{ArePlacesAmong}
use Rattle.ua_choice.proofs.locales.places_among.Given as goal

-- those that were gone through have their first places
abbrev pub invariant-loop-place : goal.invariant-loop-place
invariant-loop-place l = ArePlacesAmong (take l.place l.wanted) l.known l.places
