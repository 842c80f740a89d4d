use Rattle.std.proofs.Common.{◌≡◌, ℕ, ◌<◌, ◌≤◌, List, length, take, Ok, Err, None, Some, arith, ap, ◌∙◌, ◌-◌, drop}
use Rattle.std.specs.Prelude.{Option, Result, IfOk, IfNone, OnOk}
use Rattle.std.proofs.lemmas.List.{take_rest}
use Rattle.ua_frame.specs.Buffer.{Buffered}
use Rattle.ua_frame.specs.Layout.{IsFrame}
use Rattle.ua_frame.specs.HeaderRows.{header_fault}
use Rattle.ua_frame.specs.HeaderLaws.{part_is_short}
use Rattle.ua_frame.proofs.buffer.FrameBuf.first.Goals as goal

room_left : {A : Type 0} (r : Result (Option A) ℕ) (limit capacity : ℕ) (bytes : List ℕ) → OnOk r (header_fault limit bytes ≡ None)
    → IfOk r (λ found. IfNone found ((n : ℕ) → n ≤ length bytes → IsFrame (take n bytes) → ⊥)) → 8 ≤ capacity
    → IfOk r (λ found. IfNone found (limit ≤ capacity → length bytes < capacity))
room_left (Ok None) limit capacity bytes passed none least = λ most. part_is_short limit capacity bytes passed none most least
room_left (Ok (Some f)) limit capacity bytes passed none least = tt
room_left (Err status) limit capacity bytes passed none least = tt

pub returns-clause-room : goal.returns-clause-room
returns-clause-room c =
    let all = c.deref.result.now in
    let seen : take (length all - c.self.inside.start) (drop c.self.inside.start all) ≡ c.args.self.now.bytes =
    take_rest all c.self.inside.start ∙ ap (drop c.self.inside.start) c.deref.ensures.value ∙ ap (λ (b : Buffered). b.bytes) c.self.view_is in
    let least : 8192 ≤ c.args.self.now.capacity = rw (← c.self.view_is) c.self.invariant.least in
    room_left c.frame_at.result c.args.limit c.args.self.now.capacity c.args.self.now.bytes (rw (← seen) c.frame_at.ensures.passed) (rw (← seen) c.frame_at.ensures.none) (omega (arith, least))
