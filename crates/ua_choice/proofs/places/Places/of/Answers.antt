use Rattle.std.proofs.Common.{◌≡◌, ◌+◌, ◌-◌, ◌<◌, length, get_or, arith}
use Rattle.std.proofs.lemmas.Option.{slice_get-get_or}
use Rattle.ua_choice.proofs.Kept.{one_more}
use Rattle.ua_choice.proofs.places.Places.of.Goals as goal

pub loop-place-preserved : goal.loop-place-preserved
loop-place-preserved c =
    let names = c.args.names.now in
    let place = c.loop-place.place - 1 in
    let name = get_or names place c.index-names-place.result in
    let next : place + 1 ≡ c.loop-place.place = grind (arith) in
    let below : place < length names = grind (arith) in
    let here = slice_get-get_or names place c.index-names-place.result below in
    one_more names place c.loop-place.place name c.loop-place.places c.keep.new.self next below here c.in_ok-keep.ensures c.loop-place.invariant
