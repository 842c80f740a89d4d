use Rattle.ua_print.proofs.PartLemmas.{no_type}
use Rattle.ua_print.proofs.parts.has_no_type.Goals as goal

pub returns-in-len1-up : goal.returns-in-len1-up
returns-in-len1-up c = no_type c.args.bytes.now c.in-len1-up.len_at_least
