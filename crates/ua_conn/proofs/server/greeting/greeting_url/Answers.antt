use Rattle.ua_conn.proofs.ServerEnd.GreetingLemmas.{too_large, none_wrong}
use Rattle.ua_conn.proofs.server.greeting.greeting_url.Goals as goal

pub returns-then-len-gt-LONGEST_FRAME-clause-fault : goal.returns-then-len-gt-LONGEST_FRAME-clause-fault
returns-then-len-gt-LONGEST_FRAME-clause-fault c =
    too_large c.args.settings.now c.first_uri.result.now c.in-Some.url.now c.len.result c.len-2.result c.first_uri.ensures c.in-Some.ensures c.len.ensures.length c.len-2.ensures.length c.if-len-gt-LONGEST_FRAME.true

pub returns-clause-fine : goal.returns-clause-fine
returns-clause-fine c =
    none_wrong c.args.settings.now c.first_uri.result.now c.in-Some.url.now c.len.result c.len-2.result c.first_uri.ensures c.in-Some.ensures c.len.ensures.length c.len-2.ensures.length c.if-len-gt-LONGEST_FRAME.false
