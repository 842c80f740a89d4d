use Rattle.std.proofs.Common.{◌≡◌, take}
use Rattle.ua_choice.specs.Locales.{lent, listed}
use Rattle.ua_choice.proofs.Ranked.{placed}
use Rattle.ua_choice.proofs.names.Names.by_ranks.Given as goal

abbrev pub invariant-loop-name : goal.invariant-loop-name
invariant-loop-name l = lent l.best ≡ placed (listed l.wanted) (take l.name-index l.names)
