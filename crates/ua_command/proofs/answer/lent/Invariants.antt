use Rattle.std.proofs.Common.{◌≡◌, map, take}
use Rattle.ua_frame.specs.Streams.{pieces_of}
use Rattle.ua_command.specs.Answer.{piece_of}
use Rattle.ua_command.specs.Script.{times}
use Rattle.ua_command.proofs.answer.lent.Given as goal

abbrev pub invariant-pieces : goal.invariant-pieces
invariant-pieces l = pieces_of l.lent.items ≡ map piece_of (times (take l.piece-index l.pieces))
