use Rattle.ua_words.proofs.command.parsers.ask_parser.Goals as goal

pub returns-clause-app : goal.returns-clause-app
returns-clause-app c =
    let question = c.with_word-with_question.ensures.app _ _ c.command-ask.ensures.app c.named.ensures.rule in
    let address = c.with_word-with_address.ensures.app _ _ question c.address_word.ensures.rule in
    let url = c.with_word-with_url.ensures.app _ _ address c.optional.ensures.rule in
    let reverse = c.with_word-with_reverse.ensures.app _ _ url c.reverse_flag.ensures.rule in
    let timeout = c.with_word-with_timeout.ensures.app _ _ reverse c.timeout_word.ensures.rule in
    c.with_wishes.ensures.app _ timeout
