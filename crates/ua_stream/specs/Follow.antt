-- From the bytes of a file to those of its streams.
use Rattle.std.specs.Prelude.{◌≡◌, ℕ, ◌==◌, ◌||◌, Bool, true, false, List, Option, Some, None}
use Rattle.ua_capture.specs.declared.file.Record.{Record}
use Rattle.ua_capture.specs.declared.reader.Found.{Found}
use Rattle.ua_capture.specs.declared.reader.Found.TheVariants as founds
use Rattle.ua_capture.specs.declared.packet.Packet.{Packet}
use Rattle.ua_capture.specs.declared.packet.Packet.TheVariants as packets
use Rattle.ua_capture.specs.Segment.{Parts}
use Rattle.ua_capture.specs.Packet.{packet_of}
use Rattle.ua_stream.specs.declared.follow.Event.{Event}
use Rattle.ua_stream.specs.declared.follow.Event.TheVariants as events

abbrev pub is_of_port : Option ℕ → Parts → Bool
is_of_port None s = true
is_of_port (Some port) s = s.from.port == port || s.to.port == port

-- a segment of the port, where one is named
abbrev pub IsWanted : Option ℕ → Packet → Type 0
IsWanted port (packets.Segment s) = is_of_port port s ≡ true
IsWanted port packets.Fragment = ⊥
IsWanted port packets.Other = ⊥

abbrev pub IsUnwanted : Option ℕ → Packet → Type 0
IsUnwanted port (packets.Segment s) = is_of_port port s ≡ false
IsUnwanted port packets.Fragment = ⊥
IsUnwanted port packets.Other = Unit {0}

-- What is told of a packet: a segment with the moment of that packet, a fragment, or none of a stream that is followed.
abbrev pub IsPacketTold : Option ℕ → Record → List ℕ → Event → Type 0
IsPacketTold port r bytes (events.Segment number way moment) = (moment ≡ r.moment) × IsWanted port (packet_of r.link bytes)
IsPacketTold port r bytes events.Fragment = packet_of r.link bytes ≡ packets.Fragment
IsPacketTold port r bytes events.Other = IsUnwanted port (packet_of r.link bytes)
IsPacketTold port r bytes events.Full = IsWanted port (packet_of r.link bytes)
IsPacketTold port r bytes events.Passed = ⊥
IsPacketTold port r bytes events.More = ⊥

-- What is told of what stands in front, with the bytes that are lent then.
abbrev pub IsTold : Option ℕ → Found → List ℕ → Event → Type 0
IsTold port (founds.Packet r) bytes event = IsPacketTold port r bytes event
IsTold port founds.Passed bytes event = event ≡ events.Passed
IsTold port founds.More bytes event = event ≡ events.More
