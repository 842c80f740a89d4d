use Rattle.std.proofs.Common.{◌≡◌, ◌≤◌, ◌-◌, ◌+◌, ◌*◌, length}
use Rattle.std.specs.Prelude.{max, vec_len, vec_capacity}
use Rattle.ua_value.specs.Array.{items_at}
use Rattle.ua_value.proofs.Items.{with_front}
use Rattle.ua_value.proofs.wire.Wire.read_into.Given as goal

abbrev pub invariant-values : goal.invariant-values
invariant-values g l = record {
  within : length l.rest ≤ length l.input;
  so_far : with_front l.items.items (items_at g.Self.Wire.format.grammar (l.count - l.read) l.rest) ≡ items_at g.Self.Wire.format.grammar l.count l.input;
  as_many : vec_len l.items ≡ l.read;
  read : vec_capacity l.items ≤ max l.room (64 + 2 * vec_len l.items);
  limit : vec_capacity l.items ≤ max l.room (max l.limit (4 + 2 * vec_len l.items));
  count : vec_capacity l.items ≤ l.count;
}
