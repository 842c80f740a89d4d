use Rattle.std.proofs.Common.{◌≡◌, ◌+◌, take}
use Rattle.std.specs.Prelude.{All}
use Rattle.ua_compare.specs.Offer.{times, times_lent}
use Rattle.ua_compare.proofs.left.left_of.Given as goal

-- of those that were gone through and what is left of the found, each stands there as often as among the found and what is missing; and nothing that is missing is left of the found
abbrev pub invariant-loop-one : goal.invariant-loop-one
invariant-loop-one g l = record {
  balance : (one : g.row.D.Denot) → times g.D.PartialEq.eq one (take l.one-index l.wanted) + times_lent g.D.PartialEq.eq one l.extra.items ≡ times g.D.PartialEq.eq one l.fn.found + times_lent g.D.PartialEq.eq one l.missing.items;
  apart : All (λ m. times_lent g.D.PartialEq.eq m.now l.extra.items ≡ 0) l.missing.items;
}
