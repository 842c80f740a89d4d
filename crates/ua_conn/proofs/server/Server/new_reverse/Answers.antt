use Rattle.ua_conn.proofs.ServerEnd.GreetingLemmas.{texts_fit}
use Rattle.ua_conn.proofs.server.Server.new_reverse.Goals as goal

pub write_reverse_hello-requires : goal.write_reverse_hello-requires
write_reverse_hello-requires c = texts_fit c.args.settings.now c.first_uri.result.now c.in_ok-url.url.now c.first_uri.ensures c.in_ok-url.ensures.url c.in_ok-url.ensures.fine
