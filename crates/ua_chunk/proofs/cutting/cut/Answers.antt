use Rattle.std.proofs.Common.{◌≡◌, ◌≤◌, ◌++◌, List, ℕ, length, take, refl, ap, ◌∙◌, arith, append_assoc, inl, inr}
use Rattle.std.specs.Prelude.{◌⊎◌}
use Rattle.std.proofs.lemmas.List.{length-append, length-drop, take_all}
use Rattle.ua_chunk.proofs.CutLemmas.{begins_more, few_full, cut_by_chunk, carried_by_chunk, cut_by_end, carried_by_end}
use Rattle.ua_chunk.proofs.cutting.cut.Goals as goal
use Rattle.ua_chunk.proofs.cutting.cut.Goals.{then-loop-at-test+else-at, else-loop-at-test}

pub loop-at-init : goal.loop-at-init
loop-at-init c = record {
  cut = c.requires.cut;
  carried = refl;
  longer = omega arith;
  begins = take_all (length c.args.out.now.items) c.args.out.now.items (omega arith);
}

pub returns-in_err-extend_from_slice-clause-begins :
    goal.returns-in_err-extend_from_slice-clause-begins
returns-in_err-extend_from_slice-clause-begins c = ap (take (length c.args.out.now.items)) c.in_err-extend_from_slice.ensures.items ∙ c.loop-at.invariant.begins

pub next_header-header-requires-clause-number : goal.next_header-header-requires-clause-number
next_header-header-requires-clause-number c = c.loop-at.invariant.cut.range

pub returns-in_err-extend_from_slice-2-clause-begins :
    goal.returns-in_err-extend_from_slice-2-clause-begins
returns-in_err-extend_from_slice-2-clause-begins c =
    begins_more c.args.out.now.items c.loop-at.out.items c.split_at.result.0.now c.extend_from_slice-in-loop-at.new.self.items
    (c.in_err-extend_from_slice-2.ensures.items ∙ c.in_ok-extend_from_slice.ensures.items) c.loop-at.invariant.longer c.loop-at.invariant.begins

pub overflow_add-at : goal.overflow_add-at
overflow_add-at c =
    let l = c.loop-at in
    omega (arith, few_full l.at.full c.args.plan.now.part_limit, l.invariant.cut.least, length-drop c.args.plan.now.start l.out.items, l.out.ok.0, l.out.small, c.next_header-header.ensures.full)

pub loop-at-smaller : goal.loop-at-smaller
loop-at-smaller c = omega (arith, c.loop-at.invariant.cut.enough, c.loop-at.invariant.cut.some, c.if-at.true, c.next_header-header.ensures.left, c.next_header-header.ensures.room)

pub loop-at-preserved : goal.loop-at-preserved
loop-at-preserved c =
    let p = c.args.plan.now in
    let l = c.loop-at in
    let i = l.invariant in
    let front = c.split_at.result.0.now in
    let header = c.next_header-header in
    let new = c.extend_from_slice-in-loop-at.new.self.items in
    let put : new ≡ (l.out.items ++ front) ++ header.result = c.in_ok-extend_from_slice-2.ensures.items ∙ ap (λ (b : List ℕ). b ++ header.result) c.in_ok-extend_from_slice.ensures.items in
    let whole : new ≡ l.out.items ++ (front ++ header.result) = put ∙ append_assoc l.out.items front header.result in
    record {
      cut = cut_by_chunk p.head.channel p.head.token p.head.request_id p.part_limit p.total p.first p.start l.at.number l.at.left l.at.room l.at.full l.out.items front header.result new
          header.new.at.number header.new.at.left header.new.at.room header.new.at.full i.cut c.if-at.true c.split_at.ensures.front_len header.ensures.header header.ensures.number header.ensures.left header.ensures.room header.ensures.full put;
      carried = carried_by_chunk p.head.channel p.head.token p.head.request_id p.part_limit p.total p.first p.start l.at.number l.at.left l.at.room l.at.full l.out.items front c.split_at.result.1.now l.rest.now header.result new
          header.new.at.full _ i.cut c.if-at.true c.split_at.ensures.front_len header.ensures.header.size header.ensures.full put c.split_at.ensures.by_index.0 i.carried;
      longer = omega (arith, i.longer, ap length whole, length-append l.out.items (front ++ header.result));
      begins = begins_more c.args.out.now.items l.out.items (front ++ header.result) new whole i.longer i.begins;
    }

pub returns-in_err-extend_from_slice-3-clause-begins :
    goal.returns-in_err-extend_from_slice-3-clause-begins
returns-in_err-extend_from_slice-3-clause-begins c = ap (take (length c.args.out.now.items)) c.in_err-extend_from_slice-3.ensures.items ∙ c.loop-at.invariant.begins

pub returns-clause-cut : goal.returns-clause-cut
returns-clause-cut c =
    let p = c.args.plan.now in
    let l = c.loop-at in
    let ends : (length l.rest.now ≤ l.at.room) ⊎ (l.at.left ≤ l.at.room) =
    elim c.loop-at-test.branch [
      | then-loop-at-test+else-at w ↦ inr (omega (arith, w.if-at.false))
      | else-loop-at-test w ↦ inl (omega (arith, w.loop-at-test.false))
    ] in
    cut_by_end p.head.channel p.head.token p.head.request_id p.part_limit p.total p.first p.start l.at.number l.at.left l.at.room l.at.full l.out.items l.rest.now c.extend_from_slice-2.new.self.items
    _ _ l.invariant.cut ends c.saturating_sub-at.ensures c.saturating_sub-at-2.ensures c.in_ok-extend_from_slice-3.ensures.items

pub returns-clause-carried : goal.returns-clause-carried
returns-clause-carried c =
    let p = c.args.plan.now in
    let l = c.loop-at in
    carried_by_end p.head.channel p.head.token p.head.request_id p.part_limit p.total p.first p.start l.at.number l.at.left l.at.room l.at.full l.out.items l.rest.now c.extend_from_slice-2.new.self.items
    _ l.invariant.cut c.in_ok-extend_from_slice-3.ensures.items l.invariant.carried

pub returns-clause-begins : goal.returns-clause-begins
returns-clause-begins c =
    begins_more c.args.out.now.items c.loop-at.out.items c.loop-at.rest.now c.extend_from_slice-2.new.self.items c.in_ok-extend_from_slice-3.ensures.items
    c.loop-at.invariant.longer c.loop-at.invariant.begins
