use Rattle.std.proofs.Common.{refl}
use Rattle.ua_command.specs.Run.{Streams}
use Rattle.ua_command.proofs.Ends.{answer_done, answer_reads, value_done, show_done, show_unread, serve_done, many_done, ask_done, check_done, answer_stopped, file_stopped, serve_stopped, many_stopped, link_stopped, check_stopped, check_unlinked, asked_short, checked_short, text_done, fault_stopped, fault_unlinked}
use Rattle.ua_command.proofs.run.done.Goals as goal

pub returns-in-Err-clause-done : goal.returns-in-Err-clause-done
returns-in-Err-clause-done g c =
    let s : Streams = record { left = g.I.Read.remaining c.args.input.now; printed = g.O.Write.contents c.args.output.now; printed' = g.O.Write.contents c.say_fault.new.output; told = g.E.Write.contents c.args.errors.now; told' = g.E.Write.contents c.args.errors.now } in
    text_done _ c.in-Err.fault s c.say_fault.result c.in-Err.ensures.refused refl c.say_fault.ensures.ok

pub returns-in-Err-clause-err : goal.returns-in-Err-clause-err
returns-in-Err-clause-err g c = fault_stopped _ c.in-Err.fault _ c.say_fault.result c.in-Err.ensures.refused c.say_fault.ensures.err

pub returns-in-Err-clause-known : goal.returns-in-Err-clause-known
returns-in-Err-clause-known g c = λ linked. absurd (fault_unlinked c.in-Err.fault c.say_fault.result c.say_fault.ensures.err linked)

pub returns-in-Answer-clause-done : goal.returns-in-Answer-clause-done
returns-in-Answer-clause-done g c =
    let s : Streams = record { left = g.I.Read.remaining c.args.input.now; printed = g.O.Write.contents c.args.output.now; printed' = g.O.Write.contents c.answer.new.output; told = g.E.Write.contents c.args.errors.now; told' = g.E.Write.contents c.args.errors.now } in
    answer_done _ c.in-Answer.source c.in-Answer.reverse s c.answer.result (rw c.in-Answer.is at c.in-Ok.ensures.asked) refl c.answer.ensures.ok

pub returns-in-Answer-clause-err : goal.returns-in-Answer-clause-err
returns-in-Answer-clause-err g c = answer_stopped _ c.in-Answer.source c.in-Answer.reverse _ c.answer.result (rw c.in-Answer.is at c.in-Ok.ensures.asked) c.answer.ensures.err

pub returns-in-Answer-clause-unread : goal.returns-in-Answer-clause-unread
returns-in-Answer-clause-unread g c = answer_reads _ c.in-Answer.source c.in-Answer.reverse _ _ (rw c.in-Answer.is at c.in-Ok.ensures.asked)

pub returns-in-Value-clause-done : goal.returns-in-Value-clause-done
returns-in-Value-clause-done g c =
    let s : Streams = record { left = g.I.Read.remaining c.args.input.now; printed = g.O.Write.contents c.args.output.now; printed' = g.O.Write.contents c.value.new.output; told = g.E.Write.contents c.args.errors.now; told' = g.E.Write.contents c.args.errors.now } in
    value_done _ c.in-Value.kind c.in-Value.bytes c.in-Value.form s c.value.result (rw c.in-Value.is at c.in-Ok.ensures.asked) refl (rw c.as_slice.ensures.value at c.value.ensures.done) (rw c.as_slice.ensures.value at c.value.ensures.refused) c.value.ensures.status

pub returns-in-Value-clause-err : goal.returns-in-Value-clause-err
returns-in-Value-clause-err g c = file_stopped _ _ _ c.value.result (rw c.in-Value.is at c.in-Ok.ensures.asked) c.value.ensures.err

pub returns-in-Show-clause-done : goal.returns-in-Show-clause-done
returns-in-Show-clause-done g c =
    let s : Streams = record { left = g.I.Read.remaining c.args.input.now; printed = g.O.Write.contents c.args.output.now; printed' = g.O.Write.contents c.show.new.output; told = g.E.Write.contents c.args.errors.now; told' = g.E.Write.contents c.show.new.errors } in
    show_done _ c.in-Show.capture c.in-Show.form c.in-Show.stream c.in-Show.port s c.show.result (rw c.in-Show.is at c.in-Ok.ensures.asked) c.show.ensures.ok

pub returns-in-Show-clause-unread : goal.returns-in-Show-clause-unread
returns-in-Show-clause-unread g c = show_unread _ c.in-Show.capture c.in-Show.form c.in-Show.stream c.in-Show.port _ _ (rw c.in-Show.is at c.in-Ok.ensures.asked) c.show.ensures.unread

pub returns-in-Show-clause-err : goal.returns-in-Show-clause-err
returns-in-Show-clause-err g c = file_stopped _ _ _ c.show.result (rw c.in-Show.is at c.in-Ok.ensures.asked) c.show.ensures.err

pub returns-in-Serve-clause-done : goal.returns-in-Serve-clause-done
returns-in-Serve-clause-done g c =
    let s : Streams = record { left = g.I.Read.remaining c.args.input.now; printed = g.O.Write.contents c.args.output.now; printed' = g.O.Write.contents c.serve.new.output; told = g.E.Write.contents c.args.errors.now; told' = g.E.Write.contents c.serve.new.errors } in
    serve_done _ c.in-Serve.source c.in-Serve.address c.in-Serve.connections c.in-Serve.reverse s c.serve.result (rw c.in-Serve.is at c.in-Ok.ensures.asked) c.serve.ensures.ok

pub returns-in-Serve-clause-err : goal.returns-in-Serve-clause-err
returns-in-Serve-clause-err g c = serve_stopped _ c.in-Serve.source c.in-Serve.address c.in-Serve.connections c.in-Serve.reverse _ c.serve.result (rw c.in-Serve.is at c.in-Ok.ensures.asked) c.serve.ensures.err

pub returns-in-ServeMany-clause-done : goal.returns-in-ServeMany-clause-done
returns-in-ServeMany-clause-done g c =
    let s : Streams = record { left = g.I.Read.remaining c.args.input.now; printed = g.O.Write.contents c.args.output.now; printed' = g.O.Write.contents c.serve_many.new.output; told = g.E.Write.contents c.args.errors.now; told' = g.E.Write.contents c.serve_many.new.errors } in
    many_done _ c.in-ServeMany.source c.in-ServeMany.address c.in-ServeMany.connections c.in-ServeMany.at_once c.in-ServeMany.patience s c.serve_many.result (rw c.in-ServeMany.is at c.in-Ok.ensures.asked) c.serve_many.ensures.ok

pub returns-in-ServeMany-clause-err : goal.returns-in-ServeMany-clause-err
returns-in-ServeMany-clause-err g c = many_stopped _ c.in-ServeMany.source c.in-ServeMany.address c.in-ServeMany.connections c.in-ServeMany.at_once c.in-ServeMany.patience _ c.serve_many.result (rw c.in-ServeMany.is at c.in-Ok.ensures.asked) c.serve_many.ensures.err

pub ask-requires : goal.ask-requires
ask-requires g c = asked_short _ c.in-Ask.question c.in-Ask.locales c.in-Ask.filter c.in-Ask.address c.in-Ask.url c.in-Ask.seconds c.in-Ask.form c.as_deref.result (rw c.in-Ask.is at c.in-Ok.ensures.asked) c.as_deref.ensures.value

pub returns-in-Ask-clause-done : goal.returns-in-Ask-clause-done
returns-in-Ask-clause-done g c =
    let s : Streams = record { left = g.I.Read.remaining c.args.input.now; printed = g.O.Write.contents c.args.output.now; printed' = g.O.Write.contents c.ask.new.output; told = g.E.Write.contents c.args.errors.now; told' = g.E.Write.contents c.ask.new.errors } in
    ask_done _ c.in-Ask.question c.in-Ask.locales c.in-Ask.filter c.in-Ask.address c.in-Ask.url c.in-Ask.seconds c.in-Ask.form s c.ask.result (rw c.in-Ask.is at c.in-Ok.ensures.asked) c.ask.ensures.ok

pub returns-in-Ask-clause-err : goal.returns-in-Ask-clause-err
returns-in-Ask-clause-err g c = link_stopped _ c.in-Ask.question c.in-Ask.locales c.in-Ask.filter c.in-Ask.address c.in-Ask.url c.in-Ask.seconds c.in-Ask.form _ c.ask.result (rw c.in-Ask.is at c.in-Ok.ensures.asked) c.ask.ensures.err

pub returns-in-Check-clause-done : goal.returns-in-Check-clause-done
returns-in-Check-clause-done g c =
    let s : Streams = record { left = g.I.Read.remaining c.args.input.now; printed = g.O.Write.contents c.args.output.now; printed' = g.O.Write.contents c.check.new.output; told = g.E.Write.contents c.args.errors.now; told' = g.E.Write.contents c.check.new.errors } in
    check_done _ c.in-Check.source c.in-Check.address c.in-Check.url c.in-Check.seconds s c.check.result (rw c.in-Check.is at c.in-Ok.ensures.asked) c.check.ensures.ok

pub returns-in-Check-clause-err : goal.returns-in-Check-clause-err
returns-in-Check-clause-err g c = check_stopped _ c.in-Check.source c.in-Check.address c.in-Check.url c.in-Check.seconds _ c.check.result (rw c.in-Check.is at c.in-Ok.ensures.asked) c.check.ensures.err

pub returns-in-Check-clause-known : goal.returns-in-Check-clause-known
returns-in-Check-clause-known g c = λ linked. absurd (check_unlinked c.in-Check.source c.check.result c.check.ensures.err linked)
