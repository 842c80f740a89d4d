-- Two ends, in whichever order they are named.
use Rattle.std.specs.Prelude.{if◌then◌else◌}
use Rattle.std.specs.Ordering.{is_lt}
use Rattle.std.specs.declared.cmp.Ordering.{Ordering}
use Rattle.ua_capture.specs.declared.packet.Endpoint.{Endpoint}
use Rattle.ua_capture.specs.contracts.packet.EndpointOrd.TheImpl as endpoints
use Rattle.ua_stream.specs.declared.ends.Ends.{Ends}
use Rattle.ua_stream.specs.contracts.ends.EndsOrd.TheImpl as pairs

-- the order of ends: any, by which they are told apart
abbrev pub end_cmp : Endpoint → Endpoint → Ordering
end_cmp = (endpoints.ghosts).cmp

-- and that of two ends
abbrev pub ends_cmp : Ends → Ends → Ordering
ends_cmp = (pairs.ghosts).cmp

-- the one that is lower in front
abbrev pub ends_of : Endpoint → Endpoint → Ends
ends_of one other = if is_lt (end_cmp one other) then record { lower = one; higher = other } else record { lower = other; higher = one }
