use Rattle.std.proofs.Common.{◌≡◌, ◌-◌, ◌≤◌, length, take, IsAscii}
use Rattle.std.specs.List.{flat_map}
use Rattle.ua_print.specs.Printed.{escaped}
use Rattle.ua_print.proofs.text.plain_len.Given as goal

abbrev pub invariant-plain : goal.invariant-plain
invariant-plain l = record {
  within : l.n ≤ length l.bytes;
  same : flat_map escaped (take l.n l.bytes) ≡ take l.n l.bytes;
  ascii : IsAscii (take l.n l.bytes);
}

abbrev pub decreases-plain : goal.decreases-plain
decreases-plain l = length l.bytes - l.n
