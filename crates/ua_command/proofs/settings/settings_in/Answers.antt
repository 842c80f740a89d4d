use Rattle.std.proofs.Common.{◌≡◌, Err, IfOk, List, Ok, Result, ℕ}
use Rattle.ua_disco.specs.Configuration.{Configuration}
use Rattle.ua_disco.specs.Settings.{default_text}
use Rattle.ua_disco.specs.Tables.{settings_of}
use Rattle.ua_command.specs.Settings.{IsSettings}
use Rattle.ua_words.specs.declared.source.Source.{Source}
use Rattle.ua_words.specs.declared.source.Source.TheVariants.{Default}
use Rattle.ua_command.proofs.settings.settings_in.Goals as goal

by_default : {E : Type 0} (source : Source) (text : List ℕ) (r : Result Configuration E) → source ≡ Default → text ≡ default_text
    → IfOk r (λ s. settings_of text ≡ Ok s) → IfOk r (IsSettings source)
by_default source text (Ok s) is e h = rw is (text, e, h)
by_default source text (Err x) is e h = tt

pub returns-in-Default-clause-ok : goal.returns-in-Default-clause-ok
returns-in-Default-clause-ok g c = by_default c.args.source.now c.as_bytes.result.now c.settings_of.result c.in-Default.is c.as_bytes.ensures.value c.settings_of.ensures.ok
