use Rattle.ua_value.specs.Ascii.{AreAscii}
use Rattle.ua_value.proofs.ascii.is_part_ascii.Given as goal

abbrev pub invariant-bytes : goal.invariant-bytes
invariant-bytes l = AreAscii l.bytes 0 l.byte-index
