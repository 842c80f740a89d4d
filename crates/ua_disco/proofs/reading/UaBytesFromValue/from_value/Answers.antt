use Rattle.std.proofs.Common.{arith}
use Rattle.hex.proofs.HexLemmas.{decode_of-ok}
use Rattle.ua_disco.proofs.reading.UaBytesFromValue.from_value.Goals as goal

pub returns-in-Ok-from_vec-clause-kept : goal.returns-in-Ok-from_vec-clause-kept
returns-in-Ok-from_vec-clause-kept c =
    let d = decode_of-ok c.in-Some.text.now c.in-Ok.bytes.items c.in-Ok.ensures.ok in
    rw c.in-Ok-from_vec.ensures.ok (omega (arith, d.2, c.if-text-gt-MOST_DIGITS.false))
