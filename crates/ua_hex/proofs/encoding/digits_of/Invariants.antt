use Rattle.std.proofs.Common.{◌≡◌, ◌*◌, ◌++◌, length, take, drop}
use Rattle.hex.specs.Hex.{encode_lower}
use Rattle.ua_hex.proofs.encoding.digits_of.Given as goal

abbrev pub invariant-bytes : goal.invariant-bytes
invariant-bytes l = record {
  long : length l.digits ≡ 64;
  written : take (2 * l.i) l.digits ++ encode_lower (drop l.i l.block) ≡ encode_lower l.block;
}
