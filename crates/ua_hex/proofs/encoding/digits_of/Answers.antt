use Rattle.std.proofs.Common.{arith, refl, rules}
use Rattle.hex.specs.Hex.{lower_digits}
use Rattle.hex.proofs.Pairs.{encode_done, encode_step}
use Rattle.ua_hex.proofs.encoding.digits_of.Goals as goal

pub bytes-init : goal.bytes-init
bytes-init c = record { long = search rules; written = refl }

pub bytes-preserved : goal.bytes-preserved
bytes-preserved c = record {
  long = search rules;
  written = encode_step lower_digits c.args.block.now c.bytes.digits c.bytes.i c.digit.result c.digit-in-bytes.result (omega arith) (omega arith) c.digit.ensures c.digit-in-bytes.ensures c.bytes.invariant.written;
}

pub returns : goal.returns
returns c = encode_done lower_digits c.args.block.now c.bytes.digits c.bytes.i (omega arith) (omega arith) c.bytes.invariant.written
