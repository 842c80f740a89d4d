use Rattle.ua_words.proofs.command.parsers.check_parser.Goals as goal

pub returns-clause-app : goal.returns-clause-app
returns-clause-app c =
    let settings = c.with_word-with_settings.ensures.app _ _ c.command-check.ensures.app c.settings_word.ensures.rule in
    let address = c.with_word-with_address.ensures.app _ _ settings c.address_word.ensures.rule in
    let url = c.with_word-with_url.ensures.app _ _ address c.optional.ensures.rule in
    c.with_word.ensures.app _ _ url c.timeout_word.ensures.rule
