use Rattle.clap.specs.Words.{found_of}
use Rattle.std.proofs.Common.{◌∙◌}
use Rattle.ua_words.proofs.Texts.{texts_given}
use Rattle.ua_words.specs.Command.{all_values}
use Rattle.ua_words.proofs.command.matched.texts_in.Goals as goal

pub returns-in-Ok-clause-asked : goal.returns-in-Ok-clause-asked
returns-in-Ok-clause-asked c = c.in-Ok.ensures ∙ texts_given c.in-Some.texts.now (all_values (found_of c.args.matches.now) c.args.id.now) c.in-Some.ensures
