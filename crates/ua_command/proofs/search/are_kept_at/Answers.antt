use Rattle.ua_command.proofs.Runs.{block_kept}
use Rattle.ua_command.proofs.search.are_kept_at.Goals as goal

pub returns : goal.returns
returns c = block_kept c.args.line.now c.args.at c.requires
