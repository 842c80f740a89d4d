use Rattle.std.proofs.Common.{w64, None, ◌≡◌, ◌+◌, max, sym, ap, subst, ◌∙◌, arith}
use Rattle.std.proofs.lemmas.Int.{to_z-of_z}
use Rattle.ua_frame.specs.Streams.{moment_of}
use Rattle.ua_conn.specs.client.Commands.{Ask}
use Rattle.ua_conn.specs.client.Feeding.{ClientShown, AcceptsAll}
use Rattle.ua_conn.specs.client.Telling.{against, shown_of}
use Rattle.ua_conn.specs.declared.client.config.ClientConfig.{ClientConfig}
use Rattle.ua_conn.proofs.ClientEnd.BoundLemmas.{all_parts}
use Rattle.ua_conn.proofs.ClientEnd.TellingLemmas.{refused, asks}
use Rattle.ua_conn.proofs.client.Client.ask.Goals as goal

pub returns-in-Some-clause-refused : goal.returns-in-Some-clause-refused
returns-in-Some-clause-refused c = refused c.args.self.now (Ask c.args.request c.args.part_limit) c.in-Some.fault (sym c.in-Some.ensures.reason)

pub invariant_of-self-in-Ok : goal.invariant_of-self-in-Ok
invariant_of-self-in-Ok c =
    let e = c.later-self-inside.ensures in
    let held = c.self.invariant.bounded in
    record {
      timely = record { within = λ alive. omega (arith, c.in-Ok.ensures.moment, c.self.invariant.timely.within alive, e.moment); clock = omega (arith, e.moment, e.clock, c.self.invariant.timely.clock) };
      bounded = record {
        room = held.room ∙ sym (ap (λ (config : ClientConfig). config.buffer) c.in-Ok.ensures.config);
        rest = held.rest;
        half = c.in-Ok.ensures.half;
        all = all_parts _;
      };
    }

pub returns-in-Ok-clause-accepted : goal.returns-in-Ok-clause-accepted
returns-in-Ok-clause-accepted c =
    let s = c.self.inside in
    let now = moment_of c.args.now in
    let act = Ask c.args.request c.args.part_limit in
    let moment : c.later-self-inside.result ≡ max s.moment now = c.later-self-inside.ensures.moment ∙ ap (λ z. max s.moment (moment_of z)) (to_z-of_z w64 c.args.now c.ranges.now) in
    let said = c.in-Ok.ensures.said in
    rw (← c.self.view_is)
    (subst (λ m. AcceptsAll (shown_of s.connection s.closed s.next_id s.moment s.buffer.bytes s.output.items s.failed) now act (shown_of c.ask.new.self s.closed (s.next_id + 1) m s.buffer.bytes c.ask.new.out.items s.failed)) (sym moment)
    (asks s.connection c.ask.new.self s.closed s.failed s.next_id s.moment now c.args.part_limit s.buffer.bytes s.output.items c.ask.new.out.items c.args.request
    (subst (λ (v : ClientShown). against v (Ask c.args.request c.args.part_limit) ≡ None) (sym c.self.view_is) (sym c.in_default.ensures.reason)) said c.in-Ok.ensures.after))
