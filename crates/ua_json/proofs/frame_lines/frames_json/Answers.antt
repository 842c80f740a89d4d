use Rattle.std.proofs.Common.{[]}
use Rattle.ua_json.proofs.Appending.{nothing_told}
use Rattle.ua_json.proofs.frame_lines.frames_json.Goals as goal

pub returns-in-Ok-clause-lines : goal.returns-in-Ok-clause-lines
returns-in-Ok-clause-lines c = c.in-Ok.ensures.told [] (nothing_told _ c.new.ensures.bytes)
