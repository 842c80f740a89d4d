use Rattle.std.proofs.Common.{◌≡◌, drop}
use Rattle.ua_choice.specs.Names.{earliest}
use Rattle.ua_choice.proofs.names.Names.name_in_any.Given as goal

abbrev pub invariant-loop-locale : goal.invariant-loop-locale
invariant-loop-locale l = earliest l.locales l.self ≡ earliest (drop l.locale-index l.locales) l.self
