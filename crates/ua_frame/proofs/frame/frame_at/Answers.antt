use Rattle.std.proofs.Common.{arith, refl, sym, ◌∙◌}
use Rattle.ua_value.specs.Lists.{IsBytes-take}
use Rattle.ua_frame.specs.StreamLaws.{cut_has_none}
use Rattle.ua_frame.specs.LayoutLaws.{front_is, fields_at, frame_spelled}
use Rattle.ua_frame.proofs.frame.frame_at.Goals as goal

pub returns-then-bytes-size-clause-none : goal.returns-then-bytes-size-clause-none
returns-then-bytes-size-clause-none c = λ n le f. cut_has_none n c.args.bytes.now (omega (arith, c.size_in-size.ensures, c.if-bytes-size.true)) le f

pub returns-clause-frame : goal.returns-clause-frame
returns-clause-frame c =
    front_is c.args.bytes.now _ (omega (arith, c.size_in-size.ensures, c.in_ok-kind.ensures.headed)) (omega (arith, c.size_in-size.ensures, c.if-bytes-size.false)) (sym c.kind_in.ensures ∙ c.in_ok-kind.ensures.known.0) refl
    (fields_at _ _ c.args.bytes.now c.size_in-size.ensures (omega (arith, c.size_in-size.ensures, c.in_ok-kind.ensures.headed)))

pub returns-clause-spelled : goal.returns-clause-spelled
returns-clause-spelled c = frame_spelled _ _ (IsBytes-take _ c.args.bytes.now (λ i. omega (arith, c.type_inv.bytes i))) (returns-clause-frame c)
