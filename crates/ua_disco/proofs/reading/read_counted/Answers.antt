use Rattle.std.proofs.Common.{Some, arith, ◌∙◌}
use Rattle.toml.specs.View.{array_view}
use Rattle.ua_disco.specs.Faults.{bad_value}
use Rattle.ua_disco.specs.Paths.{path_text}
use Rattle.ua_disco.specs.Reading.{items_value, counted_items}
use Rattle.ua_disco.proofs.EachItem.{list_gives, list_long, fault_fails, fails_same}
use Rattle.ua_disco.proofs.reading.read_counted.Goals as goal

pub returns-then-len-gt-MOST_ITEMS-clause-gives : goal.returns-then-len-gt-MOST_ITEMS-clause-gives
returns-then-len-gt-MOST_ITEMS-clause-gives g c =
    fault_fails c.is_bad_value.result (bad_value (path_text c.args.path.now)) (counted_items g.T.FromValue.rule (path_text c.args.path.now) (Some (array_view c.args.values.now))) c.is_bad_value.ensures
    (list_long g.T.FromValue.rule (path_text c.args.path.now) c.args.values.now.items (omega arith))

pub returns-in-Ok-clause-gives : goal.returns-in-Ok-clause-gives
returns-in-Ok-clause-gives g c = list_gives g.T.FromValue.rule (path_text c.args.path.now) c.args.values.now.items (omega arith) ∙ c.in-Ok.ensures.gives

pub returns-in-Err-clause-gives : goal.returns-in-Err-clause-gives
returns-in-Err-clause-gives g c =
    fails_same c.in-Err.fault (counted_items g.T.FromValue.rule (path_text c.args.path.now) (Some (array_view c.args.values.now))) (items_value g.T.FromValue.rule (path_text c.args.path.now) 0 (array_view c.args.values.now))
    (list_gives g.T.FromValue.rule (path_text c.args.path.now) c.args.values.now.items (omega arith)) c.in-Err.ensures.gives
