use Rattle.ua_words.proofs.command.parsers.parser.Goals as goal

pub returns-clause-app : goal.returns-clause-app
returns-clause-app c =
    let answer = c.with_command-parser.ensures.app _ _ c.program.ensures.app c.answer_parser.ensures.app c.answer_parser.ensures.local in
    let value = c.with_command-parser-2.ensures.app _ _ answer c.value_parser.ensures.app c.value_parser.ensures.local in
    let show = c.with_command-parser-3.ensures.app _ _ value c.show_parser.ensures.app c.show_parser.ensures.local in
    let serve = c.with_command-parser-4.ensures.app _ _ show c.serve_parser.ensures.app c.serve_parser.ensures.local in
    let ask = c.with_command-parser-5.ensures.app _ _ serve c.ask_parser.ensures.app c.ask_parser.ensures.local in
    c.with_command.ensures.app _ _ ask c.check_parser.ensures.app c.check_parser.ensures.local
