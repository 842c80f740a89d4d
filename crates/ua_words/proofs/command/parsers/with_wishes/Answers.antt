use Rattle.ua_words.proofs.command.parsers.with_wishes.Goals as goal

pub returns-clause-app : goal.returns-clause-app
returns-clause-app c = λ app given.
    let locale = c.with_word-with_locale.ensures.app app _ given c.list_word.ensures.rule in
    let profile = c.with_word-with_profile.ensures.app _ _ locale c.list_word-2.ensures.rule in
    let server = c.with_word-with_server.ensures.app _ _ profile c.list_word-3.ensures.rule in
    let all = c.with_word-with_all.ensures.app _ _ server c.flag.ensures.rule in
    c.with_word.ensures.app _ _ all c.json_flag.ensures.rule
