-- What a frame did, from what came of it.
use Rattle.std.specs.Prelude.{Result, Ok, Err, alloc_error}
use Rattle.std.specs.declared.alloc.AllocError.{AllocError}
use Rattle.ua_conn.specs.declared.server.connection.Taken.{Taken}
use Rattle.ua_conn.specs.declared.server.connection.Taken.TheVariants.{Refused}
use Rattle.ua_conn.specs.declared.server.fault.Fault.{Fault}
use Rattle.ua_conn.specs.declared.server.fault.Fault.TheVariants as faults

-- good, where no row refused it and memory did not run out
abbrev pub settled : Result (Unit {0}) Fault → Taken → Result Taken AllocError
settled (Ok u) good = Ok good
settled (Err (faults.Refused status)) good = Ok (Refused status)
settled (Err faults.NoMemory) good = Err alloc_error
