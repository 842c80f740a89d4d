use Rattle.ua_words.proofs.Asked.{asked_for, none_asked, clap_says}
use Rattle.ua_words.specs.Command.{Choices}
use Rattle.ua_words.proofs.command.command_of.Goals as goal

pub returns-in-Ok-try_get_matches_from-clause-asked : goal.returns-in-Ok-try_get_matches_from-clause-asked
returns-in-Ok-try_get_matches_from-clause-asked c =
    let m = c.in-Ok-try_get_matches_from in
    let choices : Choices = record { types = c.type_names.result; questions = c.question_names.result } in
    asked_for choices _ _ m.matches c.asked.result (c.type_names.ensures, c.question_names.ensures) c.in-Ok.ensures.app m.ensures.matches m.ensures.kinds c.asked.ensures.asked

pub returns-in-Ok-try_get_matches_from-clause-refused : goal.returns-in-Ok-try_get_matches_from-clause-refused
returns-in-Ok-try_get_matches_from-clause-refused c =
    let m = c.in-Ok-try_get_matches_from in
    let choices : Choices = record { types = c.type_names.result; questions = c.question_names.result } in
    none_asked choices _ _ m.matches c.asked.result (c.type_names.ensures, c.question_names.ensures) c.in-Ok.ensures.app m.ensures.matches m.ensures.kinds c.asked.ensures.refused

pub returns-in-Err-clause-refused : goal.returns-in-Err-clause-refused
returns-in-Err-clause-refused c =
    let e = c.in-Err in
    let choices : Choices = record { types = c.type_names.result; questions = c.question_names.result } in
    clap_says choices _ _ e.error c.fault_of.result (c.type_names.ensures, c.question_names.ensures) c.in-Ok.ensures.app e.ensures.kinds c.fault_of.ensures
