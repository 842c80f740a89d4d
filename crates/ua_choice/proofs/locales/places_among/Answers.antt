use Rattle.ua_choice.proofs.Ranked.{one_more}
use Rattle.ua_choice.proofs.locales.places_among.Goals as goal

pub loop-place-preserved : goal.loop-place-preserved
loop-place-preserved c =
    one_more c.args.wanted.now c.loop-place.place c.index-wanted-place.result c.args.known.now c.loop-place.places c.keep_first.new.places c.loop-place-test.true c.index-wanted-place.is c.in_ok-keep_first.ensures c.loop-place.invariant
