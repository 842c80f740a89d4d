use Rattle.std.proofs.Common.{◌≡◌, ◌≤◌, ℕ, length}
use Rattle.ua_stream.specs.Piece.{byte_at}
use Rattle.ua_stream.proofs.parts.drop_behind.Given as goal

abbrev pub invariant-loop-i : goal.invariant-loop-i
invariant-loop-i l = record { within : l.i ≤ length l.parts.items; same : (k : ℕ) → l.next ≤ k → byte_at l.parts.items k ≡ byte_at l.initial.parts.items k }

abbrev pub decreases-loop-i : goal.decreases-loop-i
decreases-loop-i l = l.i
