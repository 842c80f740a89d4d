use Rattle.std.proofs.Common.{length, ◌-◌, ◌≡◌, ◌+◌, ◌≤◌, ◌++◌, take, drop}
use Rattle.ua_chunk.specs.Cutting.{carried, IsCut}
use Rattle.ua_chunk.proofs.cutting.cut.Given as goal

-- what is cut so far, and that the rest is still to be put
abbrev pub invariant-loop-at : goal.invariant-loop-at
invariant-loop-at l = record {
  cut : IsCut l.plan.head.channel l.plan.head.token l.plan.head.request_id l.plan.part_limit l.plan.total l.plan.first l.at.number l.at.left l.at.room l.at.full (drop l.plan.start l.out.items);
  carried : carried l.at.full l.plan.part_limit (drop l.plan.start l.out.items) ++ l.rest ≡ carried l.fn.at.full l.plan.part_limit (drop l.plan.start l.fn.out.items) ++ l.fn.bytes;
  longer : length l.fn.out.items ≤ length l.out.items;
  begins : take (length l.fn.out.items) l.out.items ≡ l.fn.out.items;
}

abbrev pub decreases-loop-at : goal.decreases-loop-at
decreases-loop-at l = l.at.left + l.at.left - l.at.room
