use Rattle.std.proofs.Common.{◌≡◌, ◌≤◌, ◌+◌, ◌-◌, ◌*◌, length, map}
use Rattle.ua_value.specs.Array.{items_at}
use Rattle.ua_variant.specs.Kinds.{data_kind}
use Rattle.ua_variant.specs.Reading.{elements_within}
use Rattle.ua_variant.specs.View.{kind_of, element}
use Rattle.ua_value.proofs.Items.{with_front}
use Rattle.ua_variant.proofs.reading.+read.Given as goal

abbrev pub decreases-variant_within : goal.decreases-variant_within
decreases-variant_within l = 8 * l.allowance

abbrev pub decreases-body_behind : goal.decreases-body_behind
decreases-body_behind l = 8 * l.allowance + 7

abbrev pub decreases-single_within : goal.decreases-single_within
decreases-single_within l = 8 * l.allowance + 6

abbrev pub decreases-array_within : goal.decreases-array_within
decreases-array_within l = 8 * l.allowance + 6

abbrev pub decreases-list_within : goal.decreases-list_within
decreases-list_within l = 8 * l.allowance + 5

abbrev pub decreases-each_within : goal.decreases-each_within
decreases-each_within l = 8 * l.allowance + 4

abbrev pub decreases-element_within : goal.decreases-element_within
decreases-element_within l = 8 * l.allowance + 3

abbrev pub decreases-variant_element : goal.decreases-variant_element
decreases-variant_element l = 8 * l.allowance + 2

abbrev pub decreases-data::data_element : goal.decreases-data::data_element
decreases-data::data_element l = 8 * l.allowance + 2

abbrev pub decreases-data::data_within : goal.decreases-data::data_within
decreases-data::data_within l = 8 * l.allowance

abbrev pub decreases-data::valued_data : goal.decreases-data::valued_data
decreases-data::valued_data l = 8 * l.allowance + 6

abbrev pub decreases-data::boxed_within : goal.decreases-data::boxed_within
decreases-data::boxed_within l = 8 * l.allowance + 1

abbrev pub decreases-data::each_data : goal.decreases-data::each_data
decreases-data::each_data l = 8 * l.allowance + 2

abbrev pub invariant-data::each_data-loop : goal.invariant-data::each_data-loop
invariant-data::each_data-loop l =
    let g = elements_within l.allowance data_kind in
    record {
      within : length l.rest ≤ length l.input;
      so_far : with_front (map element l.items.items) (items_at g (l.count - l.counter) l.rest) ≡ items_at g l.count l.input;
      counted : length l.items.items ≡ l.counter;
    }

abbrev pub invariant-each_within-loop : goal.invariant-each_within-loop
invariant-each_within-loop l =
    let g = elements_within l.allowance (kind_of l.kind) in
    record {
      within : length l.rest ≤ length l.input;
      so_far : with_front (map element l.items.items) (items_at g (l.count - l.counter) l.rest) ≡ items_at g l.count l.input;
      counted : length l.items.items ≡ l.counter;
    }
