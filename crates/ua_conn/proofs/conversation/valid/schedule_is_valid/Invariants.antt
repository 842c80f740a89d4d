use Rattle.std.proofs.Common.{drop}
use Rattle.std.specs.List.{AllByRecursion}
use Rattle.ua_conn.specs.BothEnds.{IsStep}
use Rattle.ua_conn.proofs.conversation.valid.schedule_is_valid.Given as goal

abbrev pub invariant-loop-step : goal.invariant-loop-step
invariant-loop-step l = AllByRecursion IsStep (drop l.step-index l.schedule) → AllByRecursion IsStep l.schedule
