use Rattle.std.proofs.Common.{codes}
use Rattle.std.proofs.lemmas.Result.{err_from_is_err_and}
use Rattle.clap.specs.Words.{found_of}
use Rattle.ua_words.proofs.Refusals.{refused_part, checked_place}
use Rattle.ua_words.specs.Command.{IsCalledPlace, IsNamed, words_in}
use Rattle.ua_words.proofs.command.asking.check_in.Goals as goal

pub returns-in_err-address-clause-refused : goal.returns-in_err-address-clause-refused
returns-in_err-address-clause-refused c =
    let p = err_from_is_err_and c.from_residual.result c.from_residual.ensures.1 in
    let word = words_in (found_of c.args.matches.now) in
    rw (p.1, p.2) (refused_part (IsCalledPlace word) (IsNamed (codes "check") word) _ (checked_place word) c.in_err-address.ensures.refused)
