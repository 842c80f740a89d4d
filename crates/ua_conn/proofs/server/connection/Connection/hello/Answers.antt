use Rattle.std.proofs.Common.{sym, ap, ◌∙◌}
use Rattle.std.specs.Prelude.{option_map}
use Rattle.ua_frame.specs.Hello.{hello_of}
use Rattle.ua_conn.specs.Past.{agreed_by}
use Rattle.ua_conn.proofs.ServerEnd.EffectLemmas.{hello_acts}
use Rattle.ua_conn.proofs.server.connection.Connection.hello.Goals as goal

pub returns-clause-does : goal.returns-clause-does
returns-clause-does c = λ asked.
    let s = c.self.inside in
    let o = hello_of c.args.frame.now.fields in
    let judged = c.in_ok-agreed.ensures in
    let agreed = ap (λ limits. option_map (agreed_by limits) o) (sym c.limits-limits.ensures.limits) ∙ judged.1.0 in
    rw (← c.self.view_is) (hello_acts s.settings.now s.id s.agreed s.channel s.half.half s.next o c.in_ok-agreed.agreed c.args.out.now.items c.write.new.out.items asked judged.0 agreed c.in_ok-write.ensures)
