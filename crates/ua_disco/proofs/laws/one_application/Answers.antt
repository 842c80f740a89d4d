use Rattle.ua_disco.proofs.OneServer.{one_application}
use Rattle.ua_disco.proofs.laws.one_application.Goals as goal

pub returns : goal.returns
returns c = one_application
