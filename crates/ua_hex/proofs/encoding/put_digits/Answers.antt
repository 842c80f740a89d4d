use Rattle.std.proofs.Common.{◌≡◌, ◌++◌, ◌∙◌, List, ℕ, ap, arith}
use Rattle.hex.specs.Hex.{encode_lower}
use Rattle.std.proofs.lemmas.Bool.{cond-true}
use Rattle.ua_hex.proofs.Blocks.{cut_at, written_all, written_block, written_byte}
use Rattle.ua_hex.proofs.encoding.put_digits.Goals as goal

pub blocks-2-preserved : goal.blocks-2-preserved
blocks-2-preserved c =
    let fits = c.extend_from_slice.ensures.succeeds (omega (arith, c.blocks-2.invariant.room, c.split_at.ensures.front_len)) in
    let items = c.extend_from_slice.ensures.items ∙ cond-true _ _ _ fits in
    let put : c.extend_from_slice.new.self.items ≡ c.blocks-2.text.items ++ encode_lower c.split_at.result.0.now =
    items ∙ ap (λ (ds : List ℕ). c.blocks-2.text.items ++ ds) c.digits_of.ensures in
    let len = c.extend_from_slice.ensures.len ∙ cond-true _ _ _ fits in
    record {
      written = rw put (written_block _ c.blocks-2.rest.now c.split_at.result.0.now c.split_at.result.1.now _ (cut_at 32 _ _ _ c.split_at.ensures.front c.split_at.ensures.back) c.blocks-2.invariant.written);
      room = omega (arith, len, c.blocks-2.invariant.room, c.split_at.ensures.back_len, c.extend_from_slice.ensures.capacity);
      kept = omega (arith, c.blocks-2.invariant.kept, c.extend_from_slice.ensures.capacity);
    }

pub bytes-preserved : goal.bytes-preserved
bytes-preserved c =
    let fits = c.extend_from_slice-in-bytes.ensures.succeeds (omega (arith, c.bytes.invariant.room)) in
    let items = c.extend_from_slice-in-bytes.ensures.items ∙ cond-true _ _ _ fits in
    let len = c.extend_from_slice-in-bytes.ensures.len ∙ cond-true _ _ _ fits in
    record {
      written = rw items (written_byte _ c.blocks-2.rest.now _ c.bytes.byte-index c.digit.result c.digit-in-bytes.result (omega arith) c.digit.ensures c.digit-in-bytes.ensures c.bytes.invariant.written);
      room = omega (arith, len, c.bytes.invariant.room, c.extend_from_slice-in-bytes.ensures.capacity);
      kept = omega (arith, c.bytes.invariant.kept, c.extend_from_slice-in-bytes.ensures.capacity);
    }

pub returns-clause-items : goal.returns-clause-items
returns-clause-items c = written_all _ c.blocks-2.rest.now _ c.bytes.byte-index (omega arith) c.bytes.invariant.written
