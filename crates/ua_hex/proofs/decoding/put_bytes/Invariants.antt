use Rattle.std.proofs.Common.{length}
use Rattle.ua_hex.proofs.Blocks.{ReadTo}
use Rattle.ua_hex.proofs.decoding.put_bytes.Given as goal

abbrev pub invariant-blocks-2 : goal.invariant-blocks-2
invariant-blocks-2 l = ReadTo l.digits l.rest l.bytes.items

abbrev pub decreases-blocks-2 : goal.decreases-blocks-2
decreases-blocks-2 l = length l.rest

abbrev pub invariant-pairs : goal.invariant-pairs
invariant-pairs l = ReadTo l.digits l.rest l.bytes.items

abbrev pub decreases-pairs : goal.decreases-pairs
decreases-pairs l = length l.rest
