use Rattle.std.proofs.Common.{◌≡◌, ◌<◌, sym, arith, subst, length, false}
use Rattle.std.proofs.lemmas.List.Edits.{length-remove}
use Rattle.ua_compare.specs.Offer.{times_lent}
use Rattle.ua_compare.proofs.Counts.{differs_at, apart_still}
use Rattle.ua_compare.proofs.differing.add_missing.Goals as goal
use Rattle.ua_compare.proofs.differing.add_missing.Goals.{in-Some+in_ok-add_pair-in-Some, in-None+in_ok-add_alone-in-None}

-- what is missing stands nowhere in the rest, so the one that has its name differs
pub add_pair-requires-clause-other : goal.add_pair-requires-clause-other
add_pair-requires-clause-other g c =
    let same = g.D.PartialEq.eq in
    let one = c.one-item.result in
    let extra = c.loop-one.extra.items in
    let none = subst (λ o. times_lent same o.now extra ≡ 0) (sym c.one-item.is) (c.loop-one.invariant.apart c.loop-one.one-index one c.loop-one-test.true) in
    let within = subst (λ l. c.in-Some.place < length l) c.as_slice.ensures.value c.in-Some.ensures.within in
    let differs = differs_at same one.now extra c.in-Some.place c.remove-other.result within none in
    subst (λ o. same one.now o.now ≡ false) (sym c.remove-other.ensures.value) differs

pub loop-one-preserved : goal.loop-one-preserved
loop-one-preserved g c =
    elim c.match-place_named.branch [
      | in-Some+in_ok-add_pair-in-Some w ↦
          let extra = c.loop-one.extra.items in
          let within = subst (λ l. w.in-Some.place < length l) c.as_slice.ensures.value w.in-Some.ensures.within in
          let fewer = length-remove extra w.in-Some.place within in
          rw (w.extra-is, w.text-is, w.remove-other.ensures.items) (record {
            apart = apart_still g.D.PartialEq.eq c.args.missing.now extra w.in-Some.place w.remove-other.result within c.loop-one.invariant.apart;
            grown = omega (arith, c.loop-one.invariant.grown, w.in_ok-add_pair-in-Some.ensures);
            taken = omega (arith, c.loop-one.invariant.taken, fewer);
          })
      | in-None+in_ok-add_alone-in-None w ↦
          rw (w.extra-is, w.text-is) (record {
            apart = c.loop-one.invariant.apart;
            grown = omega (arith, c.loop-one.invariant.grown, w.in_ok-add_alone-in-None.ensures);
            taken = omega (arith, c.loop-one.invariant.taken);
          })
    ]
