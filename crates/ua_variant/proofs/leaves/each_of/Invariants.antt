use Rattle.std.proofs.Common.{◌≡◌, ◌≤◌, ◌-◌, length, map}
use Rattle.ua_value.specs.Array.{items_at}
use Rattle.ua_value.specs.Sequence.{made}
use Rattle.ua_variant.specs.View.{element}
use Rattle.ua_value.proofs.Items.{with_front}
use Rattle.ua_variant.proofs.leaves.each_of.Given as goal

abbrev pub invariant-loop : goal.invariant-loop
invariant-loop g l =
    let values = made g.T.Leaf.wrap g.T.Wire.format.grammar in
    record {
      within : length l.rest ≤ length l.input;
      so_far : with_front (map element l.items.items) (items_at values (l.count - l.counter) l.rest) ≡ items_at values l.count l.input;
      counted : length l.items.items ≡ l.counter;
    }
