use Rattle.std.proofs.lemmas.Fmt.{IsAscii-decimal}
use Rattle.std.proofs.lemmas.Str.{IsUtf8-append, IsUtf8-from_ascii}
use Rattle.ua_print.proofs.row.put_number.Goals as goal

pub returns-clause-utf8 : goal.returns-clause-utf8
returns-clause-utf8 c = λ rest.
    c.put_word.ensures.utf8 (rw c.put_digits-at.ensures.written (IsUtf8-append _ _ (IsUtf8-from_ascii _ (IsAscii-decimal c.args.n c.ranges.n.fits)) rest))
