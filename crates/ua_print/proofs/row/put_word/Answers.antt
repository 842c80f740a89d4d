use Rattle.std.proofs.Common.{◌≡◌, ◌-◌, ◌++◌, length, drop, arith}
use Rattle.std.proofs.lemmas.Grind.{common_steps}
use Rattle.std.proofs.lemmas.Str.{IsUtf8-append}
use borrow.Rule.Slice.PartMut.{put_mid}
use Rattle.ua_print.proofs.row.put_word.Goals as goal

pub returns-clause-utf8 : goal.returns-clause-utf8
returns-clause-utf8 c = λ rest.
    let start = c.args.end - length c.args.word.now in
    let written : drop start (put_mid start (c.args.end - start) c.args.row.now c.copy_from_slice.new.self) ≡ c.args.word.now ++ drop c.args.end c.args.row.now = grind (arith, common_steps) in
    rw written (IsUtf8-append _ _ c.utf8.word rest)
