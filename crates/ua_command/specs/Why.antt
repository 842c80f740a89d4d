-- What is known of what stopped a command.
use Rattle.ua_command.specs.declared.stop.Stop.{Stop}
use Rattle.ua_command.specs.declared.stop.Stop.TheVariants.{File}
use Rattle.ua_command.specs.declared.why.Why.{Why}
use Rattle.ua_command.specs.declared.why.Why.TheVariants.{Unknown}

-- what is known behind a stop: this where a file stopped the command, else what was known before
abbrev pub noted : Why → Stop → Why → Why
noted why File old = why
noted why stop old = old

-- something is known
abbrev pub IsKnown : Why → Type 0
IsKnown Unknown = ⊥
IsKnown why = Unit {0}
