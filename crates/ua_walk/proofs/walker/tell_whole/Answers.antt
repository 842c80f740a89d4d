use Rattle.ua_walk.proofs.Stories.{whole_result}
use Rattle.ua_walk.proofs.walker.tell_whole.Goals as goal

pub returns-clause-whole : goal.returns-clause-whole
returns-clause-whole g c =
    let fed = c.in_ok-feed.ensures.told in
    whole_result c.end.result _ _ c.args.bytes.now fed.0 c.requires fed.2 fed.3 c.end.ensures.whole
