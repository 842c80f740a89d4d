use Rattle.std.proofs.Common.{◌≡◌, Bool, take}
use Rattle.ua_compare.specs.Offer.{times, times_lent}
use Rattle.ua_compare.proofs.left.all_of.Given as goal

-- those that were gone through are there
abbrev pub invariant-loop-item : goal.invariant-loop-item
invariant-loop-item g l = (same : g.row.D.Denot → g.row.D.Denot → Bool) (one : g.row.D.Denot) → times_lent same one l.all.items ≡ times same one (take l.item-index l.items)
