use Rattle.std.proofs.Common.{◌≡◌, filter, take}
use Rattle.ua_command.specs.Script.{is_kept}
use Rattle.ua_command.proofs.script.kept.Given as goal

abbrev pub invariant-bytes : goal.invariant-bytes
invariant-bytes l = l.all.items ≡ filter is_kept (take l.byte-index l.line)
