use Rattle.std.proofs.Common.{◌≡◌, false}
use Rattle.std.specs.Io.KnownBytes.{Consumes}
use Rattle.ua_capture.specs.Beginning.{is_capture}
use Rattle.ua_command.proofs.begun.begin.Given as goal

abbrev pub invariant-reads : goal.invariant-reads
invariant-reads g l = Consumes (g.I.Read.remaining l.initial.input) (g.I.Read.remaining l.input) l.all.items × (is_capture l.all.items ≡ false)
