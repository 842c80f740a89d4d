use Rattle.std.proofs.Common.{◌≡◌, Some, map, take}
use Rattle.ua_value.proofs.texts.copies.Given as goal

abbrev pub invariant-loop-text : goal.invariant-loop-text
invariant-loop-text l = l.copies.items ≡ map (λ t. Some t.now) (take l.text-index l.texts)
