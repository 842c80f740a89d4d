use Rattle.std.proofs.Common.{refl, arith}
use Rattle.ua_conn.proofs.ClientEnd.FrontLemmas.{header_refuses, header_waits, front_goes_on, front_refused}
use Rattle.ua_conn.proofs.client.hearing.take_front.Goals as goal

pub returns-in-Ok-None-clause-step : goal.returns-in-Ok-None-clause-step
returns-in-Ok-None-clause-step c = (
  rw c.in-Ok-None.field-0-is at c.in-Ok-None.ensures.none,
  header_waits c.args.connection.now.waits.known c.args.buffer.now.bytes (rw c.greatest_frame.ensures.is at c.in-Ok-None.ensures.passed),
  refl,
  refl,
)

pub returns-in-Ok-None-clause-room : goal.returns-in-Ok-None-clause-room
returns-in-Ok-None-clause-room c =
    let room = rw c.in-Ok-None.field-0-is at c.in-Ok-None.ensures.room in
    λ _. room (omega (arith, c.greatest_frame.ensures.within, c.requires.room))

pub returns-in-Err-clause-step : goal.returns-in-Err-clause-step
returns-in-Err-clause-step c =
    header_refuses c.args.connection.now c.args.connection.now c.args.now c.args.buffer.now.bytes (record { bytes = c.args.out.now.items; answers = c.args.answers.now.items }) c.in-Err.status (rw c.greatest_frame.ensures.is at c.in-Err.ensures.refused)

pub returns-in-Ok-clause-step : goal.returns-in-Ok-clause-step
returns-in-Ok-clause-step c =
    let found = rw c.in-Ok-Some.field-0-is at c.in-Ok-Some.ensures in
    front_goes_on c.args.connection.now c.take.new.self c.args.now c.args.buffer.now.bytes c.in-Ok-Some.frame _ _ _
    found.within found.frame (rw c.greatest_frame.ensures.is at c.in-Ok-Some.ensures.passed) (rw c.in-Ok.is at c.take.ensures.took)

pub returns-in-Err-take-clause-step : goal.returns-in-Err-take-clause-step
returns-in-Err-take-clause-step c =
    let found = rw c.in-Ok-Some.field-0-is at c.in-Ok-Some.ensures in
    front_refused c.args.connection.now c.take.new.self c.args.now c.args.buffer.now.bytes c.in-Ok-Some.frame (record { bytes = c.args.out.now.items; answers = c.args.answers.now.items }) (record { bytes = c.take.new.out.items; answers = c.take.new.answers.items }) c.in-Err-take.fault
    found.within found.frame (rw c.greatest_frame.ensures.is at c.in-Ok-Some.ensures.passed) (rw c.in-Err-take.is at c.take.ensures.took)
