-- Connections: which segments are theirs, and which way they go. RFC 9293, 3.3 and 3.4.
use Rattle.std.specs.Prelude.{◌≡◌, ℕ, ◌+◌, ◌%◌, ◌^◌, ◌&&◌, ◌==◌, not, Bool, true, false, Option, Some, None, if◌then◌else◌}
use Rattle.ua_capture.specs.declared.packet.Endpoint.{Endpoint}
use Rattle.ua_capture.specs.Segment.{Parts}
use Rattle.ua_capture.specs.Packet.{has_flag}
use Rattle.ua_stream.specs.declared.connection.Connection.{Connection}
use Rattle.ua_stream.specs.declared.connection.Way.{Way}
use Rattle.ua_stream.specs.declared.connection.Way.TheVariants.{Forth, Back}
use Rattle.ua_stream.specs.Flow.{Flow, Follows}
use Rattle.ua_stream.specs.Side.{no_side, with_origin, piece_of}

-- a SYN takes a sequence number of its own in front of the bytes
abbrev pub first_of : Parts → ℕ
first_of s = if has_flag s.flags 2 then (s.sequence + 1) % 2 ^ 32 else s.sequence

-- a SYN that acknowledges nothing opens a connection
abbrev pub is_opening : Parts → Bool
is_opening s = has_flag s.flags 2 && not (has_flag s.flags 16)

abbrev pub opening_of : Parts → Option ℕ
opening_of s = if is_opening s then Some s.sequence else None

abbrev pub no_bytes : Parts → Connection
no_bytes s = record { first = s.from; other = s.to; opening = opening_of s; forth = no_side; back = no_side }

abbrev pub side_of : Connection → Way → Flow
side_of c Forth = c.forth
side_of c Back = c.back

abbrev pub opposite : Way → Way
opposite Forth = Back
opposite Back = Forth

-- What the segment adds to the way that it goes.
abbrev pub IsTaken : Flow → Parts → Flow → Type 0
IsTaken old s new =
    new.stopped ≡ false → Follows (with_origin old (first_of s)) (piece_of (with_origin old (first_of s)) (first_of s) s.payload) new

pub record KeepsEnds (old new : Connection) : Type 0 where
  pub first : new.first ≡ old.first
  pub other : new.other ≡ old.other
  pub opening : new.opening ≡ old.opening

-- a way goes from one of the ends to the other
abbrev pub IsWay : Connection → Way → Endpoint → Endpoint → Type 0
IsWay c Forth from to = (c.first ≡ from) × (c.other ≡ to)
IsWay c Back from to = (c.first ≡ to) × (c.other ≡ from)

abbrev pub is_forth : Way → Bool
is_forth Forth = true
is_forth Back = false

abbrev pub is_known : Option ℕ → ℕ → Bool
is_known None sequence = false
is_known (Some known) sequence = known == sequence

-- A segment that opens a connection opens another one, unless it is known to be the one that opened this.
abbrev pub begins_new : Connection → Way → Parts → Bool
begins_new c way s = is_opening s && not (is_forth way && is_known c.opening s.sequence)

-- What a segment of a way makes of a connection: its bytes are added to that way, and all else stays.
pub record Takes (was : Connection) (s : Parts) (way : Way) (now : Connection) : Type 0 where
  pub taken : IsTaken (side_of was way) s (side_of now way)
  pub untouched : side_of now (opposite way) ≡ side_of was (opposite way)
  pub ends : KeepsEnds was now
