use Rattle.std.proofs.Common.{codes, rules}
use Rattle.std.proofs.lemmas.Result.{err_from_is_err_and}
use Rattle.clap.specs.Words.{found_of}
use Rattle.ua_words.proofs.Refusals.{asked_places, asked_texts, refused_part}
use Rattle.ua_words.specs.Command.{AreAskedTexts, ArePlaces, IsNamed, words_in}
use Rattle.ua_words.proofs.command.asking.ask_in.Goals as goal

pub returns-in_err-locales-clause-refused : goal.returns-in_err-locales-clause-refused
returns-in_err-locales-clause-refused c =
    let p = err_from_is_err_and c.from_residual.result c.from_residual.ensures.1 in
    let word = words_in (found_of c.args.matches.now) in
    let question = c.in-Some-question_of.question in
    rw (p.1, p.2) (refused_part (AreAskedTexts question word) (IsNamed (codes "ask") word) _ (λ asked named. asked_texts word question asked (search rules) named) c.in_err-locales.ensures.refused)

pub returns-in-Err-clause-refused : goal.returns-in-Err-clause-refused
returns-in-Err-clause-refused c =
    let word = words_in (found_of c.args.matches.now) in
    refused_part (ArePlaces word) (IsNamed (codes "ask") word) c.in-Err.fault (asked_places word) c.in-Err.ensures.refused
