use Rattle.std.proofs.Common.{◌≡◌, ◌<◌, ◌*◌, length, take, drop}
use Rattle.hex.specs.Hex.{decode_pairs}
use Rattle.hex.proofs.Pairs.{prepend}
use Rattle.ua_hex.proofs.Blocks.{AreValues}
use Rattle.ua_hex.proofs.decoding.bytes_of.Given as goal

abbrev pub invariant-digits : goal.invariant-digits
invariant-digits l = record {
  long : length l.values ≡ 64;
  read : AreValues l.block l.values l.k l.greatest;
}

abbrev pub invariant-pairs : goal.invariant-pairs
invariant-pairs l = record {
  long : length l.bytes ≡ 32;
  read : l.greatest < 16 → decode_pairs 0 l.block ≡ prepend (take l.i l.bytes) (decode_pairs (2 * l.i) (drop (2 * l.i) l.block));
}
