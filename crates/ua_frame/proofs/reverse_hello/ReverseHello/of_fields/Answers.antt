use Rattle.std.proofs.Common.{Ok, arith}
use Rattle.std.proofs.lemmas.Result.{err_from_is_err_and}
use Rattle.ua_frame.specs.Hello.{reverse_hello_layout, lawful_reverse_hello}
use Rattle.ua_frame.proofs.Codecs.{reads_all, reverse_hello_some, reverse_hello_fails}
use Rattle.ua_frame.proofs.reverse_hello.ReverseHello.of_fields.Goals as goal

pub returns-in_err-server_uri-clause-exact : goal.returns-in_err-server_uri-clause-exact
returns-in_err-server_uri-clause-exact c =
    let p = err_from_is_err_and c.from_residual.result c.from_residual.ensures.1 in
    rw (p.1, p.2) (reverse_hello_fails c.args.fields.now c.in_err-server_uri.field-0.0 c.in_err-server_uri.ensures.gives)

pub returns-in_err-server_uri-clause-spelled : goal.returns-in_err-server_uri-clause-spelled
returns-in_err-server_uri-clause-spelled c =
    reads_all reverse_hello_layout lawful_reverse_hello c.args.fields.now (λ i. omega (arith, c.type_inv.fields i)) _ (returns-in_err-server_uri-clause-exact c)

pub returns-clause-exact : goal.returns-clause-exact
returns-clause-exact c = reverse_hello_some c.args.fields.now _ c.in_ok-server_uri.ensures.gives

pub returns-clause-spelled : goal.returns-clause-spelled
returns-clause-spelled c =
    reads_all reverse_hello_layout lawful_reverse_hello c.args.fields.now (λ i. omega (arith, c.type_inv.fields i)) (Ok _) (returns-clause-exact c)
