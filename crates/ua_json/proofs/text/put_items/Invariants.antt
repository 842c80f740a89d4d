use Rattle.std.proofs.Common.{◌≡◌}
use Rattle.ua_json.specs.Nesting.{place, array}
use Rattle.ua_json.proofs.text.put_items.Given as goal

abbrev pub invariant-loop-item : goal.invariant-loop-item
invariant-loop-item g l = place l.line.json.tokens ≡ array (place l.fn.line.json.tokens)
