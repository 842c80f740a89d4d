use Rattle.clap.specs.Words.{found_of}
use Rattle.clap.specs.declared.parser.matches.ArgMatches.TheViews.{out-ArgMatches}
use Rattle.ua_words.proofs.Rows.{from_parts, asks_named, refused_named}
use Rattle.ua_words.proofs.command.command_in.Goals as goal

pub returns-in-answer-clause-asked : goal.returns-in-answer-clause-asked
returns-in-answer-clause-asked c =
    let found = from_parts (out-ArgMatches c.args.matches.now).subcommand c.in-Some.name.now _ c.in-Some.ensures.name c.in-Some.ensures.rows in
    asks_named _ (found_of c.in-Some.inner.now) _ c.answer_in.result (rw c.in-answer.is at found) c.answer_in.ensures.asked

pub returns-in-answer-clause-refused : goal.returns-in-answer-clause-refused
returns-in-answer-clause-refused c =
    let found = from_parts (out-ArgMatches c.args.matches.now).subcommand c.in-Some.name.now _ c.in-Some.ensures.name c.in-Some.ensures.rows in
    refused_named _ (found_of c.in-Some.inner.now) _ c.answer_in.result (rw c.in-answer.is at found) c.answer_in.ensures.refused

pub returns-in-value-clause-asked : goal.returns-in-value-clause-asked
returns-in-value-clause-asked c =
    let found = from_parts (out-ArgMatches c.args.matches.now).subcommand c.in-Some.name.now _ c.in-Some.ensures.name c.in-Some.ensures.rows in
    asks_named _ (found_of c.in-Some.inner.now) _ c.value_in.result (rw c.in-value.is at found) c.value_in.ensures.asked

pub returns-in-value-clause-refused : goal.returns-in-value-clause-refused
returns-in-value-clause-refused c =
    let found = from_parts (out-ArgMatches c.args.matches.now).subcommand c.in-Some.name.now _ c.in-Some.ensures.name c.in-Some.ensures.rows in
    refused_named _ (found_of c.in-Some.inner.now) _ c.value_in.result (rw c.in-value.is at found) c.value_in.ensures.refused

pub returns-in-show-clause-asked : goal.returns-in-show-clause-asked
returns-in-show-clause-asked c =
    let found = from_parts (out-ArgMatches c.args.matches.now).subcommand c.in-Some.name.now _ c.in-Some.ensures.name c.in-Some.ensures.rows in
    asks_named _ (found_of c.in-Some.inner.now) _ c.show_in.result (rw c.in-show.is at found) c.show_in.ensures.asked

pub returns-in-show-clause-refused : goal.returns-in-show-clause-refused
returns-in-show-clause-refused c =
    let found = from_parts (out-ArgMatches c.args.matches.now).subcommand c.in-Some.name.now _ c.in-Some.ensures.name c.in-Some.ensures.rows in
    refused_named _ (found_of c.in-Some.inner.now) _ c.show_in.result (rw c.in-show.is at found) c.show_in.ensures.refused

pub returns-in-serve-clause-asked : goal.returns-in-serve-clause-asked
returns-in-serve-clause-asked c =
    let found = from_parts (out-ArgMatches c.args.matches.now).subcommand c.in-Some.name.now _ c.in-Some.ensures.name c.in-Some.ensures.rows in
    asks_named _ (found_of c.in-Some.inner.now) _ c.serve_in.result (rw c.in-serve.is at found) c.serve_in.ensures.asked

pub returns-in-serve-clause-refused : goal.returns-in-serve-clause-refused
returns-in-serve-clause-refused c =
    let found = from_parts (out-ArgMatches c.args.matches.now).subcommand c.in-Some.name.now _ c.in-Some.ensures.name c.in-Some.ensures.rows in
    refused_named _ (found_of c.in-Some.inner.now) _ c.serve_in.result (rw c.in-serve.is at found) c.serve_in.ensures.refused

pub returns-in-ask-clause-asked : goal.returns-in-ask-clause-asked
returns-in-ask-clause-asked c =
    let found = from_parts (out-ArgMatches c.args.matches.now).subcommand c.in-Some.name.now _ c.in-Some.ensures.name c.in-Some.ensures.rows in
    asks_named _ (found_of c.in-Some.inner.now) _ c.ask_in.result (rw c.in-ask.is at found) c.ask_in.ensures.asked

pub returns-in-ask-clause-refused : goal.returns-in-ask-clause-refused
returns-in-ask-clause-refused c =
    let found = from_parts (out-ArgMatches c.args.matches.now).subcommand c.in-Some.name.now _ c.in-Some.ensures.name c.in-Some.ensures.rows in
    refused_named _ (found_of c.in-Some.inner.now) _ c.ask_in.result (rw c.in-ask.is at found) c.ask_in.ensures.refused

pub returns-in-check-clause-asked : goal.returns-in-check-clause-asked
returns-in-check-clause-asked c =
    let found = from_parts (out-ArgMatches c.args.matches.now).subcommand c.in-Some.name.now _ c.in-Some.ensures.name c.in-Some.ensures.rows in
    asks_named _ (found_of c.in-Some.inner.now) _ c.check_in.result (rw c.in-check.is at found) c.check_in.ensures.asked

pub returns-in-check-clause-refused : goal.returns-in-check-clause-refused
returns-in-check-clause-refused c =
    let found = from_parts (out-ArgMatches c.args.matches.now).subcommand c.in-Some.name.now _ c.in-Some.ensures.name c.in-Some.ensures.rows in
    refused_named _ (found_of c.in-Some.inner.now) _ c.check_in.result (rw c.in-check.is at found) c.check_in.ensures.refused
