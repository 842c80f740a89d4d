use Rattle.std.proofs.Common.{◌≡◌, ◌≤◌, ◌-◌, ◌+◌, ◌++◌, drop, length}
use Rattle.ua_conn.specs.server.Feeding.{Hearing}
use Rattle.ua_conn.proofs.server.hearing.take_frames.Given as goal

abbrev pub invariant-frames : goal.invariant-frames
invariant-frames l = record {
  heard : Hearing l.fn.connection l.connection l.now (l.fn.buffer.bytes ++ l.piece) (record { bytes = l.fn.out.items; asked = l.fn.asked.items }) (record { bytes = l.out.items; asked = l.asked.items }) (l.buffer.bytes ++ drop l.read l.piece);
  within : l.read ≤ length l.piece;
  moment : l.connection.moment ≤ l.now;
  capacity : l.buffer.capacity ≡ l.fn.buffer.capacity;
  bound : length l.buffer.bytes ≤ l.buffer.capacity;
}

abbrev pub decreases-frames : goal.decreases-frames
decreases-frames l = (length l.piece - l.read) + ((length l.piece - l.read) + length l.buffer.bytes)
