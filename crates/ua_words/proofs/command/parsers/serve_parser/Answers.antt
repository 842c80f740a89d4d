use Rattle.ua_words.proofs.command.parsers.serve_parser.Goals as goal

pub returns-clause-app : goal.returns-clause-app
returns-clause-app c =
    let settings = c.with_word-with_settings.ensures.app _ _ c.command-serve.ensures.app c.settings_word.ensures.rule in
    let address = c.with_word-with_address.ensures.app _ _ settings c.required.ensures.rule in
    let count = c.with_word-with_count.ensures.app _ _ address c.count_word.ensures.rule in
    let many = c.with_many_words-with_many.ensures.app _ count in
    c.with_word.ensures.app _ _ many c.reverse_flag.ensures.rule
