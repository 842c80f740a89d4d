use Rattle.std.proofs.Common.{◌≡◌, length, drop}
use Rattle.std.specs.List.{AllByRecursion}
use Rattle.toml.specs.View.{items_view}
use Rattle.ua_disco.specs.Paths.{path_text}
use Rattle.ua_disco.specs.Reading.{items_value}
use Rattle.ua_disco.proofs.EachItem.{with_front}
use Rattle.ua_disco.proofs.reading.read_items.Given as goal

abbrev pub invariant-loop-index : goal.invariant-loop-index
invariant-loop-index g l =
    (with_front l.items.items (items_value g.T.FromValue.rule (path_text l.path) l.index (items_view (drop l.index l.values.items))) ≡ items_value g.T.FromValue.rule (path_text l.path) 0 (items_view l.values.items))
    × AllByRecursion g.T.FromValue.keeps l.items.items
    × (length l.items.items ≡ l.index)
