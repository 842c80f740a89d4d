use Rattle.std.proofs.Common.{◌≡◌, ◌+◌, ◌<◌, subst, true, length, take, get_or}
use Rattle.std.proofs.lemmas.List.{take_all}
use Rattle.std.proofs.lemmas.List.Elements.{All-push}
use Rattle.ua_compare.specs.Offer.{times, times_lent}
use Rattle.ua_compare.proofs.Counts.{taken, missed, apart_still, nothing_left, none_left}
use Rattle.ua_compare.proofs.left.left_of.Goals as goal
use Rattle.ua_compare.proofs.left.left_of.Goals.{in-Some, in-None+in_ok-push-in-None}

pub loop-one-preserved : goal.loop-one-preserved
loop-one-preserved g c =
    elim c.match-place_of.branch [
      | in-Some w ↦
          let same = g.D.PartialEq.eq in
          let extra = c.loop-one.extra.items in
          let place = w.in-Some.place in
          let other = w.remove.result in
          let within = subst (λ l. place < length l) c.as_slice.ensures.value w.in-Some.ensures.within in
          let is = subst (λ l. same c.one-item.result (get_or l place other).now ≡ true) c.as_slice.ensures.value (w.in-Some.ensures.same other) in
          rw (w.missing-is, w.extra-is, w.remove.ensures.items) (record {
            balance = taken same g.met.D.Eq.laws c.args.wanted.now c.args.found.now c.loop-one.missing.items extra c.loop-one.one-index place c.one-item.result other c.loop-one-test.true c.one-item.is within is c.loop-one.invariant.balance;
            apart = apart_still same c.loop-one.missing.items extra place other within c.loop-one.invariant.apart;
          })
      | in-None+in_ok-push-in-None w ↦
          let same = g.D.PartialEq.eq in
          let extra = c.loop-one.extra.items in
          let none = subst (λ l. times_lent same c.one-item.result l ≡ 0) c.as_slice.ensures.value w.in-None.ensures.none in
          rw (w.extra-is, w.missing-is, w.in_ok-push-in-None.ensures.items) (record {
            balance = missed same c.args.wanted.now c.args.found.now c.loop-one.missing.items extra c.loop-one.one-index _ c.loop-one-test.true c.one-item.is c.loop-one.invariant.balance;
            apart = All-push (λ m. times_lent same m.now extra ≡ 0) c.loop-one.missing.items _ c.loop-one.invariant.apart none;
          })
    ]

pub returns-clause-none : goal.returns-clause-none
returns-clause-none g c =
    let same = g.D.PartialEq.eq in
    let whole : take c.loop-one.one-index c.args.wanted.now ≡ c.args.wanted.now = take_all c.loop-one.one-index c.args.wanted.now c.loop-one-test.false in
    let balance = subst (λ l. (x : g.row.D.Denot) → times same x l + times_lent same x c.loop-one.extra.items ≡ times same x c.args.found.now + times_lent same x c.loop-one.missing.items) whole c.loop-one.invariant.balance in (
      (λ (no_missing, no_extra). nothing_left same c.args.wanted.now c.args.found.now c.loop-one.missing.items c.loop-one.extra.items balance no_missing no_extra),
      none_left same g.met.D.Eq.laws c.args.wanted.now c.args.found.now c.loop-one.missing.items c.loop-one.extra.items balance c.loop-one.invariant.apart,
    )
