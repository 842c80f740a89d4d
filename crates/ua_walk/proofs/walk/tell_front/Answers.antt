use Rattle.std.proofs.Common.{◌∷◌, [], refl}
use Rattle.ua_walk.specs.Told.{bad_told}
use Rattle.ua_walk.proofs.Stories.{header_then, known_tells}
use Rattle.ua_walk.proofs.walk.tell_front.Goals as goal

pub returns-in-Ok-Some : goal.returns-in-Ok-Some
returns-in-Ok-Some g c =
    let found = rw c.in-Ok-Some.field-0-is at c.in-Ok-Some.ensures in
    known_tells g.T.Teller.heard c.args.offset c.args.bytes.now c.in-Ok-Some.frame c.args.half.now c.tell_known.new.half c.args.teller.now c.tell_known.new.teller c.tell_known.result found.passed found.within found.frame c.tell_known.ensures

pub returns-in_ok-tell_bad-in-Err : goal.returns-in_ok-tell_bad-in-Err
returns-in_ok-tell_bad-in-Err g c = (
  bad_told c.args.offset c.in-Err.status ∷ [],
  c.in_ok-tell_bad-in-Err.ensures,
  refl,
  λ next. header_then c.args.offset c.args.half.now c.args.bytes.now next c.in-Err.status c.in-Err.ensures.refused,
)
