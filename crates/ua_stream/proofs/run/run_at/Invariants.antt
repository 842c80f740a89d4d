use Rattle.std.proofs.Common.{◌≡◌, None, ℕ, ◌<◌, ◌≤◌, take}
use Rattle.ua_stream.specs.Piece.{byte_at}
use Rattle.ua_stream.proofs.run.run_at.Given as goal

abbrev pub invariant-loop-part : goal.invariant-loop-part
invariant-loop-part l = record { later : l.next < l.until; none : (k : ℕ) → l.next ≤ k → k < l.until → byte_at (take l.part-index l.parts) k ≡ None }
