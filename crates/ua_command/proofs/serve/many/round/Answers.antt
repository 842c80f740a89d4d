use Rattle.std.proofs.Common.{sym, subst}
use Rattle.ua_command.specs.Serve.{IsServeStatus}
use Rattle.ua_command.proofs.Rounding.{one_more}
use Rattle.ua_command.proofs.serve.many.round.Goals.{in-Quiet, in-Parted+in_ok-print_parted-in-Parted, in-NotAccepted}
use Rattle.ua_command.proofs.serve.many.round.Goals as goal

pub places-preserved : goal.places-preserved
places-preserved g c =
    let status : IsServeStatus c.match-step.status = elim c.match-step.branch [
      | in-Quiet w ↦ subst IsServeStatus (sym w.status-is) c.places.invariant.0
      | in-Parted+in_ok-print_parted-in-Parted w ↦ subst IsServeStatus (sym w.status-is) w.status_after-status.ensures
      | in-NotAccepted w ↦ subst IsServeStatus (sym w.status-is) c.places.invariant.0
    ] in
    (status, one_more _ _ c.places.place _ _ _ _ _ _ _ _ _ c.args.connections.now c.places.connections c.step.new.self c.step.result c.places.invariant.1 c.step.ensures.steps)
