use Rattle.std.proofs.Common.{◌≡◌, Option, List, ℕ, drop}
use Rattle.ua_choice.specs.Names.{in_locale}
use Rattle.ua_choice.specs.Places.{place_in, name_at}
use Rattle.ua_choice.proofs.places.Places.of.Given as goal

-- the first of the names that were gone through stands at the place that is kept
abbrev pub invariant-loop-place : goal.invariant-loop-place
invariant-loop-place l = (locale : Option (List ℕ)) → name_at (place_in locale l.places) l.names ≡ in_locale locale (drop l.place l.names)
