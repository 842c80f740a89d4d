use Rattle.std.proofs.Common.{◌≡◌, ◌++◌, ◌-◌, length, take, drop}
use Rattle.std.specs.List.{flat_map}
use Rattle.ua_value.proofs.Chunks.{wrote_more, first_eight}
use Rattle.ua_value.proofs.bulk.emit_fixed.Goals as goal

pub loop-rest-preserved : goal.loop-rest-preserved
loop-rest-preserved g c =
    let canon = g.T.Fixed.format.canon in
    let rest = c.loop-rest.rest.now in
    let split : flat_map canon rest ≡ c.as_flattened.result.now ++ flat_map canon (take (length rest - 8) (drop 8 rest)) =
    rw (c.as_flattened.ensures.value, c.to_bytes.ensures, c.to_bytes-in-len8-up.ensures, c.to_bytes-in-len8-up-2.ensures, c.to_bytes-in-len8-up-3.ensures, c.to_bytes-in-len8-up-4.ensures, c.to_bytes-in-len8-up-5.ensures, c.to_bytes-in-len8-up-6.ensures, c.to_bytes-in-len8-up-7.ensures)
    (first_eight canon rest c.a-item.result c.b-item.result c.c-item.result c.d-item.result c.e-item.result c.f-item.result c.g-item.result c.h-item.result c.in-len8-up.len_at_least
    c.a-item.is c.b-item.is c.c-item.is c.d-item.is c.e-item.is c.f-item.is c.g-item.is c.h-item.is) in
    wrote_more (g.S.Sink.contents c.args.out.now) (g.S.Sink.contents c.loop-rest.out) (flat_map canon c.args.items.now) (flat_map canon rest) c.as_flattened.result.now (g.S.Sink.contents c.put.new.self) (flat_map canon (take (length rest - 8) (drop 8 rest)))
    c.loop-rest.invariant split c.in_ok-put.ensures
