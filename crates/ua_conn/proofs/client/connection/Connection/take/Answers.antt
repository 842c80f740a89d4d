use Rattle.std.proofs.Common.{◌≡◌, Some, true, refl, sym, ap, subst, ◌∙◌}
use Rattle.ua_frame.specs.Hello.{acknowledge_of, reverse_hello_of}
use Rattle.ua_frame.specs.declared.kind.Kind.TheVariants as kinds
use Rattle.ua_chunk.specs.Layout.{open_chunk_of, chunk_of}
use Rattle.ua_conn.specs.client.Faults.{is_awaited}
use Rattle.ua_conn.specs.client.Effects.{Given, FaultIs, reverse_effect, acknowledge_effect, opening_effect, answer_effect}
use Rattle.ua_conn.proofs.ClientEnd.TypeLemmas.{by_reverse, by_acknowledge, by_open, by_message, by_error}
use Rattle.ua_conn.proofs.ClientEnd.TakeLemmas.{out_of_turn, taken}
use Rattle.ua_conn.proofs.client.connection.Connection.take.Goals as goal

pub returns-in-Error-clause-took : goal.returns-in-Error-clause-took
returns-in-Error-clause-took c = λ bytes is h.
    let old = c.args.self.now in
    let kind : c.args.frame.now.kind ≡ kinds.Error = sym c.kind-kind.ensures ∙ c.in-Error.is in
    (subst (λ o. FaultIs o c.server_said.result) (sym (by_error old.config old.waits (record { bytes = bytes; moment = c.args.now }) c.args.frame.now is kind h)) c.server_said.ensures, refl)

pub returns-then-not-awaits-clause-took : goal.returns-then-not-awaits-clause-took
returns-then-not-awaits-clause-took c = λ bytes is h.
    let old = c.args.self.now in
    out_of_turn old old (record { bytes = bytes; moment = c.args.now }) c.kind-kind.result (record { bytes = c.args.out.now.items; answers = c.args.answers.now.items }) h (is.kind ∙ ap Some (sym c.kind-kind.ensures)) c.in_default.not-Error (sym c.awaits.ensures ∙ c.if-not-awaits.true)

pub returns-in-ReverseHello-clause-took : goal.returns-in-ReverseHello-clause-took
returns-in-ReverseHello-clause-took c = λ bytes is h.
    let old = c.args.self.now in
    let p = c.args.frame.now in
    let kind : p.kind ≡ kinds.ReverseHello = sym c.kind-kind.ensures ∙ c.in-ReverseHello.is in
    let turn : is_awaited old.waits.reverse old.waits.known old.waits.due (Some kinds.ReverseHello) ≡ true = ap (λ kind. is_awaited old.waits.reverse old.waits.known old.waits.due (Some kind)) (sym c.in-ReverseHello.is) ∙ sym c.awaits.ensures ∙ c.if-not-awaits.false in
    taken c.reverse_hello.result old c.reverse_hello.new.self (record { bytes = bytes; moment = c.args.now }) (reverse_effect old.config old.waits (reverse_hello_of p.fields)) (record { bytes = c.args.out.now.items; answers = c.args.answers.now.items }) (record { bytes = c.reverse_hello.new.out.items; answers = c.args.answers.now.items })
    h (by_reverse old.config old.waits _ p is kind turn) (c.reverse_hello.ensures.does c.args.answers.now.items)

pub returns-in-Acknowledge-clause-took : goal.returns-in-Acknowledge-clause-took
returns-in-Acknowledge-clause-took c = λ bytes is h.
    let old = c.args.self.now in
    let p = c.args.frame.now in
    let kind : p.kind ≡ kinds.Acknowledge = sym c.kind-kind.ensures ∙ c.in-Acknowledge.is in
    let turn : is_awaited old.waits.reverse old.waits.known old.waits.due (Some kinds.Acknowledge) ≡ true = ap (λ kind. is_awaited old.waits.reverse old.waits.known old.waits.due (Some kind)) (sym c.in-Acknowledge.is) ∙ sym c.awaits.ensures ∙ c.if-not-awaits.false in
    taken c.acknowledge.result old c.acknowledge.new.self (record { bytes = bytes; moment = c.args.now }) (acknowledge_effect old.config old.waits c.args.now (acknowledge_of p.fields)) (record { bytes = c.args.out.now.items; answers = c.args.answers.now.items }) (record { bytes = c.acknowledge.new.out.items; answers = c.args.answers.now.items })
    h (by_acknowledge old.config old.waits _ p is kind turn) (c.acknowledge.ensures.does c.args.answers.now.items)

pub returns-in-Open-clause-took : goal.returns-in-Open-clause-took
returns-in-Open-clause-took c = λ bytes is h.
    let old = c.args.self.now in
    let p = c.args.frame.now in
    let kind : p.kind ≡ kinds.Open = sym c.kind-kind.ensures ∙ c.in-Open.is in
    let turn : is_awaited old.waits.reverse old.waits.known old.waits.due (Some kinds.Open) ≡ true = ap (λ kind. is_awaited old.waits.reverse old.waits.known old.waits.due (Some kind)) (sym c.in-Open.is) ∙ sym c.awaits.ensures ∙ c.if-not-awaits.false in
    let had : Given = record { bytes = c.args.out.now.items; answers = c.args.answers.now.items } in
    taken c.opening.result old c.opening.new.self (record { bytes = bytes; moment = c.args.now }) (opening_effect old.waits c.args.now (open_chunk_of p.fields)) had had
    h (by_open old.config old.waits _ p is kind turn) (c.opening.ensures.does c.args.out.now.items c.args.answers.now.items)

pub returns-in-Message-clause-took : goal.returns-in-Message-clause-took
returns-in-Message-clause-took c = λ bytes is h.
    let old = c.args.self.now in
    let p = c.args.frame.now in
    let kind : p.kind ≡ kinds.Message = sym c.kind-kind.ensures ∙ c.in-Message.is in
    let turn : is_awaited old.waits.reverse old.waits.known old.waits.due (Some kinds.Message) ≡ true = ap (λ kind. is_awaited old.waits.reverse old.waits.known old.waits.due (Some kind)) (sym c.in-Message.is) ∙ sym c.awaits.ensures ∙ c.if-not-awaits.false in
    taken c.message.result old c.message.new.self (record { bytes = bytes; moment = c.args.now }) (answer_effect old.config old.waits c.args.now p.flag (chunk_of p.fields)) (record { bytes = c.args.out.now.items; answers = c.args.answers.now.items }) (record { bytes = c.args.out.now.items; answers = c.message.new.answers.items })
    h (by_message old.config old.waits _ p is kind turn) (c.message.ensures.does c.args.out.now.items)
