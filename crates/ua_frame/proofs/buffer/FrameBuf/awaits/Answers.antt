use Rattle.std.proofs.Common.{ℕ, ◌≡◌, ◌<◌, ◌-◌, List, true, drop, length, arith, ap}
use Rattle.std.specs.Prelude.{nat_lt}
use Rattle.std.proofs.lemmas.Bool.{ltb-true}
use Rattle.std.proofs.lemmas.List.{length-drop}
use Rattle.ua_frame.specs.Buffer.{Buffered, IsJudged}
use Rattle.ua_frame.specs.StreamLaws.{cut_has_none}
use Rattle.ua_frame.specs.HeaderLaws.{passed_size}
use Rattle.ua_frame.proofs.buffer.FrameBuf.awaits.Goals as goal

-- what was remembered of the bytes, of which there are fewer
record IsShort (awaited limit : ℕ) (bytes : List ℕ) : Type 0 where
  judged : IsJudged awaited limit bytes
  short : length bytes < awaited

short : (c : goal.After-len) → nat_lt (c.len.result - c.self.inside.start) c.self.inside.awaited ≡ true → IsShort c.self.inside.awaited c.args.limit c.args.self.now.bytes
short c e =
    let all = c.self.inside.bytes.items in
    let lt = ltb-true (c.len.result - c.self.inside.start) c.self.inside.awaited e in
    let seen : drop c.self.inside.start all ≡ c.args.self.now.bytes = ap (λ (b : Buffered). b.bytes) c.self.view_is in
    record {
      judged = rw (← seen, ← c.if-self-limit.true) (c.self.invariant.awaited (omega (arith, lt)));
      short = omega (arith, lt, c.len.ensures, ap length seen, length-drop c.self.inside.start all);
    }

pub returns-then-self-limit-clause-passed : goal.returns-then-self-limit-clause-passed
returns-then-self-limit-clause-passed c = λ e. (short c e).judged.passed

pub returns-then-self-limit-clause-none : goal.returns-then-self-limit-clause-none
returns-then-self-limit-clause-none c = λ e n le f. let s = short c e in cut_has_none n c.args.self.now.bytes (omega (arith, s.short, s.judged.size)) le f

pub returns-then-self-limit-clause-room : goal.returns-then-self-limit-clause-room
returns-then-self-limit-clause-room c = λ e most.
    let s = short c e in
    let size = passed_size c.args.limit c.args.self.now.bytes s.judged.passed s.judged.header in
    omega (arith, s.short, s.judged.size, size.1, most)
