use Rattle.std.proofs.Common.{arith}
use Rattle.ua_print.proofs.Digits.{length_digit, length_pair, length_rest, length_most, digits_more, digits_two, digits_one}
use Rattle.ua_print.proofs.row.put_digits.Goals as goal

pub overflow_sub-at : goal.overflow_sub-at
overflow_sub-at c = omega (arith, length_most c.args.n c.ranges.n.fits, length_rest c.pairs.left (omega arith) c.pairs.auto.left-fits.fits)

pub pairs-preserved : goal.pairs-preserved
pairs-preserved c =
    let l = c.pairs in
    let most = length_most c.args.n c.ranges.n.fits in
    let rest = length_rest l.left (omega arith) l.auto.left-fits.fits in
    record {
      within = omega arith;
      long = c.put_pair.array_long;
      count = omega arith;
      told = digits_more l.row _ _ l.at l.left (omega arith) (omega (arith, l.auto.left-fits.fits)) (omega arith) c.put_pair.ensures l.invariant.told;
    }

pub overflow_sub-at-then-left-ge10 : goal.overflow_sub-at-then-left-ge10
overflow_sub-at-then-left-ge10 c = omega (arith, length_most c.args.n c.ranges.n.fits, length_pair c.pairs.left (omega arith) (omega arith))

pub returns-then-left-ge10-clause-low : goal.returns-then-left-ge10-clause-low
returns-then-left-ge10-clause-low c = omega (arith, length_most c.args.n c.ranges.n.fits, length_pair c.pairs.left (omega arith) (omega arith))

pub returns-then-left-ge10-clause-written : goal.returns-then-left-ge10-clause-written
returns-then-left-ge10-clause-written c =
    let l = c.pairs in
    let most = length_most c.args.n c.ranges.n.fits in
    let two = length_pair l.left (omega arith) (omega arith) in
    digits_two l.row _ _ l.at l.left (omega arith) (omega arith) (omega arith) c.put_pair-then-left-ge10.ensures l.invariant.told

pub overflow_sub-at-2 : goal.overflow_sub-at-2
overflow_sub-at-2 c = omega (arith, length_most c.args.n c.ranges.n.fits, length_digit c.pairs.left (omega arith))

pub returns-clause-low : goal.returns-clause-low
returns-clause-low c = omega (arith, length_most c.args.n c.ranges.n.fits, length_digit c.pairs.left (omega arith))

pub returns-clause-written : goal.returns-clause-written
returns-clause-written c =
    let l = c.pairs in
    let most = length_most c.args.n c.ranges.n.fits in
    let one = length_digit l.left (omega arith) in
    digits_one l.row _ l.at l.left (omega arith) (omega arith) (omega arith) l.invariant.told
