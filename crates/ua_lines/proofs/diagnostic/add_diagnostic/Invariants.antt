use Rattle.ua_variant.specs.Diagnostic.{depth}
use Rattle.ua_lines.proofs.diagnostic.add_diagnostic.Given as goal

abbrev pub decreases-inner : goal.decreases-inner
decreases-inner l = depth l.info
