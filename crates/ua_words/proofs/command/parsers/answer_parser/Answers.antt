use Rattle.ua_words.proofs.command.parsers.answer_parser.Goals as goal

pub returns-clause-app : goal.returns-clause-app
returns-clause-app c =
    let settings = c.with_word-with_settings.ensures.app _ _ c.command-answer.ensures.app c.settings_word.ensures.rule in
    c.with_word.ensures.app _ _ settings c.reverse_flag.ensures.rule
