use Rattle.std.proofs.Common.{◌≡◌, ◌++◌, ◌+◌, ◌*◌, ◌∷◌, [], arith, rules}
use Rattle.ua_hex.proofs.Blocks.{cut_at, none_left, read_all, read_block, read_cut_pair, read_none}
use Rattle.ua_hex.proofs.decoding.put_bytes.Goals as goal

pub blocks-2-init : goal.blocks-2-init
blocks-2-init c = read_none _ _ c.requires

pub blocks-2-preserved : goal.blocks-2-preserved
blocks-2-preserved c =
    let put : c.extend_from_slice.new.self.items ≡ c.blocks-2.bytes.items ++ c.bytes_of-greatest.result.0 = search rules in
    rw put (read_block _ c.blocks-2.rest.now _ c.split_at.result.0.now c.split_at.result.1.now _ (cut_at 64 _ _ _ c.split_at.ensures.front c.split_at.ensures.back) (c.bytes_of-greatest.ensures (omega arith)) c.blocks-2.invariant)

pub pairs-preserved : goal.pairs-preserved
pairs-preserved c =
    let put : c.push.new.self.items ≡ c.pairs.bytes.items ++ (c.value-high.result * 16 + c.value-low.result) ∷ [] = search rules in
    rw put (read_cut_pair _ c.pairs.rest.now c.split_at-in-pairs.result.0.now c.split_at-in-pairs.result.1.now _ c.value-high.result c.value-low.result (cut_at 2 _ _ _ c.split_at-in-pairs.ensures.front c.split_at-in-pairs.ensures.back) c.split_at-in-pairs.ensures.front_len c.value-high.ensures c.value-low.ensures (omega arith) (omega arith) c.pairs.invariant)

pub returns : goal.returns
returns c = λ done. read_all _ c.pairs.rest.now _ (none_left c.pairs.rest.now c.is_empty.result c.is_empty.ensures done) c.pairs.invariant
