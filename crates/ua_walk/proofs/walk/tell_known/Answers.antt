use Rattle.std.proofs.Common.{◌+◌, ◌∷◌, [], length, refl, ap}
use Rattle.ua_walk.specs.Told.{frame_told, long_told, bad_told}
use Rattle.ua_walk.specs.Walk.{frame_story}
use Rattle.ua_walk.proofs.Stories.{hears_both, too_long}
use Rattle.ua_walk.proofs.walk.tell_known.Goals as goal

pub returns-in-Ok-false : goal.returns-in-Ok-false
returns-in-Ok-false g c =
    let size = 8 + length c.args.frame.now.fields in
    let first = rw c.len-size.ensures at c.in_ok-tell_frame-in-Ok.ensures in
    let long = rw c.in-Ok-false.field-0-test at c.in-Ok-false.ensures in (
      frame_told c.args.offset size c.in-Ok.content ∷ (long_told c.args.offset ∷ []),
      hears_both g.T.Teller.heard (frame_told c.args.offset size c.in-Ok.content ∷ []) (long_told c.args.offset ∷ []) _ _ _ first long.1,
      refl,
      λ others. too_long c.args.offset size c.args.half.now c.in-Ok.content _ others c.in-Ok.ensures.found long.0,
    )

pub returns-in-Err-Refused : goal.returns-in-Err-Refused
returns-in-Err-Refused g c =
    let found = rw c.in-Err-Refused.field-0-is at c.in-Err-Refused.ensures in (
      bad_told c.args.offset c.in-Err-Refused.status ∷ [],
      c.in_ok-tell_bad-in-Err-Refused.ensures,
      refl,
      λ others. ap (λ r. frame_story c.args.offset (8 + length c.args.frame.now.fields) c.args.half.now r others) found.refused,
    )
