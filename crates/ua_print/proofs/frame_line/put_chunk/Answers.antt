use Rattle.std.proofs.Common.{drop, arith}
use Rattle.std.proofs.lemmas.List.{drop_all}
use Rattle.std.proofs.lemmas.Str.{IsUtf8-nil}
use Rattle.std.specs.Str.{IsUtf8}
use Rattle.ua_print.proofs.FrameLines.{chunk_row}
use Rattle.ua_print.proofs.frame_line.put_chunk.Goals as goal

pub returns-clause-written : goal.returns-clause-written
returns-clause-written c =
    chunk_row c.args.chunk.now _ _ _ _ _ _ _ _ _ _ _ (cc) (cc) (cc) (cc) (cc) (rw (drop_all 256 c.args.row.now (omega arith)) at c.put_word-at.ensures.written)
    c.put_number-at.ensures.written c.put_number-at-2.ensures.written c.put_number-at-3.ensures.written c.put_number-at-4.ensures.written c.put_number.ensures.written

pub returns-clause-utf8 : goal.returns-clause-utf8
returns-clause-utf8 c =
    let none : IsUtf8 (drop 256 c.args.row.now) = rw (drop_all 256 c.args.row.now (omega arith)) IsUtf8-nil in
    let word = c.put_word-at.ensures.utf8 none in
    let body = c.put_number-at.ensures.utf8 word in
    let request = c.put_number-at-2.ensures.utf8 body in
    let sequence = c.put_number-at-3.ensures.utf8 request in
    let token = c.put_number-at-4.ensures.utf8 sequence in
    c.put_number.ensures.utf8 token
