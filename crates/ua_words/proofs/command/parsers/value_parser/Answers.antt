use Rattle.ua_words.proofs.command.parsers.value_parser.Goals as goal

pub returns-clause-app : goal.returns-clause-app
returns-clause-app c =
    let kind = c.with_word-with_type.ensures.app _ _ c.command-value.ensures.app c.type_word.ensures.rule in
    let hex = c.with_word-with_hex.ensures.app _ _ kind c.required.ensures.rule in
    let show = c.with_word-with_show.ensures.app _ _ hex c.flag.ensures.rule in
    c.with_word.ensures.app _ _ show c.json_flag.ensures.rule
