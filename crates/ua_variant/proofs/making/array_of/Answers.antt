use Rattle.std.proofs.Common.{ℤ, ◌≤◌, length}
use Rattle.std.specs.Global.{Vec}
use Rattle.ua_value.specs.Text.{longest}
use Rattle.ua_variant.proofs.Made.{few_bytes, in_some}
use Rattle.ua_variant.proofs.making.array_of.Goals as goal

pub new-requires : goal.new-requires
new-requires c = few_bytes c.in-Some.dimensions.items (in_some (λ (v : Vec ℤ). length v.items ≤ longest) c.args.dimensions c.in-Some.dimensions c.in-Some.is c.requires)
