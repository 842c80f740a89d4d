use Rattle.std.proofs.Common.{rules, ◌≤◌, ℕ, ◌+◌, ◌*◌, List, [], ◌∷◌, ap, arith, Option}
use Rattle.std.specs.Global.{Vec}
use denote.Param.Weighed.{most}
use Rattle.ua_variant.specs.declared.variant.DataValue.TheDeep.{size-Element, size-Elements, deep-Element}
use Rattle.ua_variant.specs.declared.variant.Element.{Element}
use Rattle.ua_variant.specs.declared.variant.Elements.{Elements}
use Rattle.ua_variant.proofs.+variant.Goals as goal

-- letting go of one element comes before letting go of all
each_below : (es : List Element) → most size-Element es ≤ 4 * most deep-Element es + 1
each_below [] = omega arith
each_below (e ∷ es) = omega (arith, each_below es)

abbrev size_of : Option (Vec Element) → ℕ
size_of o = size-Elements (record { list = o })

pub variant::Elements::drop-forget_each-requires : goal.variant::Elements::drop-forget_each-requires
variant::Elements::drop-forget_each-requires t c κs = (((omega (arith, c.decreases, ap size_of c.in-Some.is, c.empty_each.ensures, each_below c.empty_each.new.list.items), tt), tt), λ a m. search rules)

pub variant::Elements::drop-let_go-requires : goal.variant::Elements::drop-let_go-requires
variant::Elements::drop-let_go-requires t c κs = (((omega (arith, c.decreases, ap size_of c.in-Some.is, each_below c.in-Some.list.items), tt), tt), λ a m. search rules)
