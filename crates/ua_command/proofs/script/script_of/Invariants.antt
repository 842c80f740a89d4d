use Rattle.std.proofs.Common.{◌≡◌, ◌+◌, ◌≤◌, length}
use Rattle.ua_command.specs.Script.{onto, script_from, script_in, lines_of, left_of, times}
use Rattle.ua_command.proofs.script.script_of.Given as goal

abbrev pub invariant-lines : goal.invariant-lines
invariant-lines l = record {
  told : script_in l.fn.text ≡ onto (times l.script.pieces.items) (script_from l.script.moment (l.number + 1) (lines_of l.rest));
  counted : l.number + left_of l.rest ≤ length l.fn.text + 1;
}

abbrev pub decreases-lines : goal.decreases-lines
decreases-lines l = left_of l.rest
