use Rattle.std.proofs.Common.{◌<◌, ◌-◌, ◌∙◌, ℕ, List, ap, take, drop, length, suc, arith}
use Rattle.std.proofs.lemmas.List.{length-append, length-take, length-drop}
use Rattle.ua_stream.specs.Piece.{Piece, byte_at}
use Rattle.ua_stream.proofs.Places.{removed}
use Rattle.ua_stream.proofs.parts.drop_behind.Goals as goal

pub loop-i-preserved-then-end-next : goal.loop-i-preserved-then-end-next
loop-i-preserved-then-end-next c =
    let xs : List Piece = c.loop-i.parts.items in
    let i : ℕ = c.loop-i.i - 1 in
    let lt : i < length xs = omega arith in
    record {
      within = omega (arith, ap length c.remove.ensures.items, length-append (take i xs) (drop (suc i) xs), length-take i xs, length-drop (suc i) xs);
      same = λ k le. ap (λ l. byte_at l k) c.remove.ensures.items ∙ removed xs i c.index.result.now k lt c.index.ensures (omega arith) ∙ c.loop-i.invariant.same k le;
    }
