use Rattle.std.proofs.Common.{codes}
use Rattle.std.proofs.lemmas.Result.{err_from_is_err_and}
use Rattle.clap.specs.Words.{first_value, found_of}
use Rattle.ua_words.proofs.Refusals.{refused_part}
use Rattle.ua_words.specs.Command.{IsAddressOf, IsCalledPlace, words_in}
use Rattle.ua_words.proofs.command.asking.called_place.Goals as goal

pub returns-in_err-address-clause-refused : goal.returns-in_err-address-clause-refused
returns-in_err-address-clause-refused c =
    let p = err_from_is_err_and c.from_residual.result c.from_residual.ensures.1 in
    rw (p.1, p.2) (refused_part (IsAddressOf (first_value (found_of c.args.matches.now) (codes "address"))) (IsCalledPlace (words_in (found_of c.args.matches.now))) _ (λ b is. (b.0, is.0)) c.in_err-address.ensures.refused)
