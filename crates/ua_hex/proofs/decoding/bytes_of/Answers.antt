use Rattle.std.proofs.Common.{◌+◌, ◌*◌, [], arith, rules, slice_index}
use Rattle.hex.proofs.Pairs.{decode_done, decode_start}
use Rattle.ua_hex.proofs.Blocks.{value_step}
use Rattle.ua_hex.proofs.decoding.bytes_of.Goals as goal

pub pairs-init : goal.pairs-init
pairs-init c = record { long = search rules; read = λ _. decode_start c.args.block.now [] }

pub pairs-preserved : goal.pairs-preserved
pairs-preserved c = record {
  long = search rules;
  read = λ below.
      let high = c.digits.invariant.read.most (2 * c.pairs.i) (omega arith) in
      let low = c.digits.invariant.read.most (2 * c.pairs.i + 1) (omega arith) in
      value_step c.args.block.now c.pairs.bytes c.pairs.i (slice_index c.digits.values (2 * c.pairs.i)) (slice_index c.digits.values (2 * c.pairs.i + 1)) (omega arith) (omega arith)
      (c.digits.invariant.read.same (2 * c.pairs.i) (omega arith)) (c.digits.invariant.read.same (2 * c.pairs.i + 1) (omega arith)) (omega arith) (omega arith) (c.pairs.invariant.read below);
}

pub returns : goal.returns
returns c = λ below. decode_done c.args.block.now c.pairs.bytes c.pairs.i (omega arith) (omega arith) (c.pairs.invariant.read below)
