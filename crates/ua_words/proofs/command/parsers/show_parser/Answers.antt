use Rattle.ua_words.proofs.command.parsers.show_parser.Goals as goal

pub returns-clause-app : goal.returns-clause-app
returns-clause-app c =
    let file = c.with_word-with_file.ensures.app _ _ c.command-show.ensures.app c.required.ensures.rule in
    let stream = c.with_word-with_stream.ensures.app _ _ file c.index_word.ensures.rule in
    let port = c.with_word-with_port.ensures.app _ _ stream c.index_word-2.ensures.rule in
    let all = c.with_word-with_all.ensures.app _ _ port c.flag.ensures.rule in
    c.with_word.ensures.app _ _ all c.json_flag.ensures.rule
