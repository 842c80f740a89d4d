-- The exit status of an end.
use Rattle.std.specs.Prelude.{ℕ}
use Rattle.ua_conn.specs.declared.outcome.End.{End}
use Rattle.ua_conn.specs.declared.outcome.End.TheVariants.{Closed, InputEnded, Truncated, Refused, LinkFailed, TurnsSpent, NoMemory}

-- 1 for input that is refused or cut, 3 for a link, 4 for want of memory; 0 is done
abbrev pub end_status : End → ℕ
end_status Closed = 0
end_status InputEnded = 0
end_status Truncated = 1
end_status (Refused status) = 1
end_status LinkFailed = 3
end_status TurnsSpent = 0
end_status NoMemory = 4
