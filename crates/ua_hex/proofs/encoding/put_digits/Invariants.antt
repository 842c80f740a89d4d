use Rattle.std.proofs.Common.{◌≡◌, ◌≤◌, ◌+◌, ◌*◌, ◌-◌, ◌++◌, drop, length, vec_len, vec_capacity}
use Rattle.hex.specs.Hex.{encode_lower}
use Rattle.ua_hex.proofs.encoding.put_digits.Given as goal

abbrev pub invariant-blocks-2 : goal.invariant-blocks-2
invariant-blocks-2 l = record {
  written : l.text.items ++ encode_lower l.rest ≡ l.fn.text.items ++ encode_lower l.bytes;
  room : vec_len l.text + 2 * length l.rest ≤ vec_capacity l.text;
  kept : vec_capacity l.fn.text ≤ vec_capacity l.text;
}

abbrev pub decreases-blocks-2 : goal.decreases-blocks-2
decreases-blocks-2 l = length l.rest

abbrev pub invariant-bytes : goal.invariant-bytes
invariant-bytes l = record {
  written : l.text.items ++ encode_lower (drop l.byte-index l.byte-items) ≡ l.fn.text.items ++ encode_lower l.fn.bytes;
  room : vec_len l.text + 2 * (length l.byte-items - l.byte-index) ≤ vec_capacity l.text;
  kept : vec_capacity l.fn.text ≤ vec_capacity l.text;
}
