use Rattle.std.proofs.Common.{◌++◌, ap, ◌∙◌}
use Rattle.ua_frame.specs.Hello.{reverse_hello_of, hello_frame}
use Rattle.ua_conn.specs.client.Asker.{hello_to}
use Rattle.ua_conn.proofs.ClientEnd.EffectLemmas.{reverse_acts}
use Rattle.ua_conn.proofs.client.connection.Connection.reverse_hello.Goals as goal

pub returns-clause-does : goal.returns-clause-does
returns-clause-does c = λ answers.
    let s = c.self.inside in
    let named = c.in_ok-url.ensures.1 in
    rw (← c.self.view_is) (reverse_acts s.config s.reverse s.ack s.channel s.half.half s.pending.requests s.due s.next (reverse_hello_of c.args.frame.now.fields) named.0 c.args.out.now.items c.write_hello.new.out.items answers
    c.in_ok-url.ensures.0 named.1 (c.in_ok-write_hello.ensures ∙ ap (λ url. c.args.out.now.items ++ hello_frame (hello_to s.config url)) named.2))
