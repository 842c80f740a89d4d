use Rattle.ua_words.proofs.command.parsers.with_many_words.Goals as goal

pub returns-clause-app : goal.returns-clause-app
returns-clause-app c = λ app given.
    let at_once = c.with_word-with_at_once.ensures.app app _ given c.number_word.ensures.rule in
    c.with_word.ensures.app _ _ at_once c.number_word-2.ensures.rule
