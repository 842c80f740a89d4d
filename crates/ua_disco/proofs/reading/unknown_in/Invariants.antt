use Rattle.std.proofs.Common.{◌≡◌, map}
use Rattle.toml.specs.View.{table_view, members_view}
use Rattle.ua_disco.proofs.Least.{first_unknown}
use Rattle.ua_disco.proofs.reading.unknown_in.Given as goal

abbrev pub invariant-loop-key : goal.invariant-loop-key
invariant-loop-key l =
    (goal.iterator-loop-key).can_next l.key-iterator
    × (goal.iterator-loop-key).is_finite l.key-iterator
    × (first_unknown (map (λ k. k.now) l.known) (table_view l.table) ≡ first_unknown (map (λ k. k.now) l.known) (members_view l.key-iterator))
