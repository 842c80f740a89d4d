use Rattle.std.proofs.Common.{◌≡◌, [], Some, None, true, false, sym, ap, ◌∙◌}
use Rattle.ua_frame.specs.Layout.{IsFrameOf, kind_of}
use Rattle.ua_frame.specs.HeaderRows.{header_fault}
use Rattle.ua_frame.specs.Hello.{hello_of}
use Rattle.ua_frame.specs.declared.kind.Kind.TheVariants as kinds
use Rattle.ua_chunk.specs.Layout.{open_chunk_of, chunk_of}
use Rattle.ua_conn.specs.Past.{is_close}
use Rattle.ua_conn.specs.server.Faults.{greatest_frame, is_allowed}
use Rattle.ua_conn.specs.server.Taking.{Gained, Takes}
use Rattle.ua_conn.specs.server.Effects.{hello_effect, open_effect, message_effect, close_effect}
use Rattle.ua_conn.specs.declared.server.connection.Taken.TheVariants.{GoesOn}
use Rattle.ua_conn.proofs.ServerEnd.TypeLemmas.{by_hello, by_open, by_message, by_close}
use Rattle.ua_conn.proofs.ServerEnd.TakeLemmas.{out_of_turn, goes_on, closes, leaves, for_frames}
use Rattle.ua_conn.proofs.server.connection.Connection.take.Goals as goal

pub returns-then-not-allows-clause-took : goal.returns-then-not-allows-clause-took
returns-then-not-allows-clause-took c = λ bytes is h.
    let old = c.args.self.now in
    let turn : is_allowed old.known (kind_of bytes) ≡ false = ap (is_allowed old.known) is.kind ∙ ap (λ kind. is_allowed old.known (Some kind)) (sym c.kind-kind.ensures) ∙ sym c.allows.ensures ∙ c.if-not-allows.true in
    out_of_turn old (record { bytes = bytes; moment = c.args.now }) (record { bytes = c.args.out.now.items; asked = c.args.asked.now.items }) h turn

pub returns-in-Hello-clause-took : goal.returns-in-Hello-clause-took
returns-in-Hello-clause-took c =
    let old = c.args.self.now in
    let p = c.args.frame.now in
    let e = hello_effect old.site old.known (hello_of p.fields) in
    let had : Gained = record { bytes = c.args.out.now.items; asked = c.args.asked.now.items } in
    let has : Gained = record { bytes = c.hello.new.out.items; asked = c.args.asked.now.items } in
    let kind : p.kind ≡ kinds.Hello = sym c.kind-kind.ensures ∙ c.in-Hello.is in
    let allowed : is_allowed old.known (Some p.kind) ≡ true = ap (λ kind. is_allowed old.known (Some kind)) (sym c.kind-kind.ensures) ∙ sym c.allows.ensures ∙ c.if-not-allows.false in
    rw c.settle.ensures (for_frames _ (λ bytes. IsFrameOf bytes p) (λ bytes. header_fault (greatest_frame old.known.limits) bytes ≡ None) (λ bytes taken. Takes old c.hello.new.self (record { bytes = bytes; moment = c.args.now }) had has taken)
    (λ bytes is h. goes_on c.hello.result old c.hello.new.self (record { bytes = bytes; moment = c.args.now }) e had has h (ap (is_allowed old.known) is.kind ∙ allowed) (ap is_close (is.kind ∙ ap Some kind)) (by_hello old.site old.known _ p is kind) (c.hello.ensures.does c.args.asked.now.items)))

pub returns-in-Hello-clause-part : goal.returns-in-Hello-clause-part
returns-in-Hello-clause-part c =
    let old = c.args.self.now in
    rw c.settle.ensures (leaves c.hello.result GoesOn old c.hello.new.self _ _ _ (c.hello.ensures.does []))

pub returns-in-Open-clause-took : goal.returns-in-Open-clause-took
returns-in-Open-clause-took c =
    let old = c.args.self.now in
    let p = c.args.frame.now in
    let e = open_effect old.site old.known c.args.now (open_chunk_of p.fields) in
    let had : Gained = record { bytes = c.args.out.now.items; asked = c.args.asked.now.items } in
    let has : Gained = record { bytes = c.issue.new.out.items; asked = c.args.asked.now.items } in
    let kind : p.kind ≡ kinds.Open = sym c.kind-kind.ensures ∙ c.in-Open.is in
    let allowed : is_allowed old.known (Some p.kind) ≡ true = ap (λ kind. is_allowed old.known (Some kind)) (sym c.kind-kind.ensures) ∙ sym c.allows.ensures ∙ c.if-not-allows.false in
    rw c.settle-in-Open.ensures (for_frames _ (λ bytes. IsFrameOf bytes p) (λ bytes. header_fault (greatest_frame old.known.limits) bytes ≡ None) (λ bytes taken. Takes old c.issue.new.self (record { bytes = bytes; moment = c.args.now }) had has taken)
    (λ bytes is h. goes_on c.issue.result old c.issue.new.self (record { bytes = bytes; moment = c.args.now }) e had has h (ap (is_allowed old.known) is.kind ∙ allowed) (ap is_close (is.kind ∙ ap Some kind)) (by_open old.site old.known _ p is kind) (c.issue.ensures.does c.args.asked.now.items)))

pub returns-in-Open-clause-part : goal.returns-in-Open-clause-part
returns-in-Open-clause-part c =
    let old = c.args.self.now in
    rw c.settle-in-Open.ensures (leaves c.issue.result GoesOn old c.issue.new.self _ _ _ (c.issue.ensures.does []))

pub returns-in-Message-clause-took : goal.returns-in-Message-clause-took
returns-in-Message-clause-took c =
    let old = c.args.self.now in
    let p = c.args.frame.now in
    let e = message_effect old.site old.known c.args.now p.flag (chunk_of p.fields) in
    let had : Gained = record { bytes = c.args.out.now.items; asked = c.args.asked.now.items } in
    let has : Gained = record { bytes = c.message.new.out.items; asked = c.message.new.asked.items } in
    let kind : p.kind ≡ kinds.Message = sym c.kind-kind.ensures ∙ c.in-Message.is in
    let allowed : is_allowed old.known (Some p.kind) ≡ true = ap (λ kind. is_allowed old.known (Some kind)) (sym c.kind-kind.ensures) ∙ sym c.allows.ensures ∙ c.if-not-allows.false in
    rw c.settle-in-Message.ensures (for_frames _ (λ bytes. IsFrameOf bytes p) (λ bytes. header_fault (greatest_frame old.known.limits) bytes ≡ None) (λ bytes taken. Takes old c.message.new.self (record { bytes = bytes; moment = c.args.now }) had has taken)
    (λ bytes is h. goes_on c.message.result old c.message.new.self (record { bytes = bytes; moment = c.args.now }) e had has h (ap (is_allowed old.known) is.kind ∙ allowed) (ap is_close (is.kind ∙ ap Some kind)) (by_message old.site old.known _ p is kind) c.message.ensures.does))

pub returns-in-Close-clause-took : goal.returns-in-Close-clause-took
returns-in-Close-clause-took c =
    let old = c.args.self.now in
    let p = c.args.frame.now in
    let e = close_effect old.site old.known c.args.now (chunk_of p.fields) in
    let had : Gained = record { bytes = c.args.out.now.items; asked = c.args.asked.now.items } in
    let kind : p.kind ≡ kinds.Close = sym c.kind-kind.ensures ∙ c.in-Close.is in
    let allowed : is_allowed old.known (Some p.kind) ≡ true = ap (λ kind. is_allowed old.known (Some kind)) (sym c.kind-kind.ensures) ∙ sym c.allows.ensures ∙ c.if-not-allows.false in
    rw c.settle-in-Close.ensures (for_frames _ (λ bytes. IsFrameOf bytes p) (λ bytes. header_fault (greatest_frame old.known.limits) bytes ≡ None) (λ bytes taken. Takes old c.close.new.self (record { bytes = bytes; moment = c.args.now }) had had taken)
    (λ bytes is h. closes c.close.result old c.close.new.self (record { bytes = bytes; moment = c.args.now }) e had h (ap (is_allowed old.known) is.kind ∙ allowed) (ap is_close (is.kind ∙ ap Some kind)) (by_close old.site old.known _ p is kind) (c.close.ensures.does c.args.out.now.items c.args.asked.now.items)))
