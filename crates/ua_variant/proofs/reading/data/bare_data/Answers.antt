use Rattle.std.proofs.Common.{◌≡◌, Some, arith, rules}
use Rattle.ua_variant.specs.Values.{without}
use Rattle.ua_variant.specs.Reading.{behind_mask, within}
use Rattle.ua_variant.proofs.Steps.{is_data_behind}
use Rattle.ua_variant.proofs.reading.data.bare_data.Goals as goal

pub of-requires : goal.of-requires
of-requires c =
    let found : (behind_mask (within 0) c.args.mask).front c.args.input.now ≡ Some (without c.in_ok-stamps.stamps, c.in_ok-stamps.rest.now) = search rules in
    is_data_behind 0 c.args.mask c.args.input.now _ _ (omega arith) c.ranges.mask.fits (λ i. omega (arith, c.type_inv.input i)) c.requires.short found
