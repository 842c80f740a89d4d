use Rattle.std.proofs.Common.{◌≡◌, ◌∷◌, length}
use Rattle.ua_link.specs.MemoryLink.{filled, lent}
use Rattle.ua_link.proofs.memory_link.MemoryLinkLink.recv.Given as goal

abbrev pub invariant-empty : goal.invariant-empty
invariant-empty l = (filled (l.self-inside.piece.now ∷ lent l.self-inside.pieces.now) ≡ l.fn.self.pieces) × (l.self-inside.sent.items ≡ l.fn.self.sent) × (l.self-inside.limit ≡ l.fn.self.limit) × (l.self-inside.failures ≡ l.fn.self.failures)

abbrev pub decreases-empty : goal.decreases-empty
decreases-empty l = length l.self-inside.pieces.now
