use Rattle.std.proofs.Common.{◌≡◌, take}
use Rattle.ua_compare.specs.Offer.{times_lent}
use Rattle.ua_compare.proofs.left.place_of.Given as goal

-- none of those that were gone through is the same
abbrev pub invariant-loop-i : goal.invariant-loop-i
invariant-loop-i g l = times_lent g.D.PartialEq.eq l.one (take l.i l.among) ≡ 0
