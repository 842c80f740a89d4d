use Rattle.ua_frame.specs.Hello.{acknowledge_of}
use Rattle.ua_conn.proofs.ClientEnd.EffectLemmas.{acknowledge_acts}
use Rattle.ua_conn.proofs.client.connection.Connection.acknowledge.Goals as goal

pub returns-clause-does : goal.returns-clause-does
returns-clause-does c = λ answers.
    let s = c.self.inside in
    rw (← c.self.view_is) (acknowledge_acts s.config s.reverse s.ack s.channel s.half.half s.pending.requests s.due s.next c.args.now (acknowledge_of c.args.frame.now.fields) c.in_ok-ack.ack c.say_open.new.self c.args.out.now.items c.say_open.new.out.items answers
    c.in_ok-ack.ensures.0 c.in_ok-ack.ensures.1.0 c.in_ok-say_open.ensures.said c.in_ok-say_open.ensures.after)
